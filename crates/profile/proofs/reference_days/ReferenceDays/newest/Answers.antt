use Rattle.std.proofs.Common.{rules, tests}
use Rattle.std.proofs.lemmas.Iterator.Consumers.{YieldsList-end}
use Rattle.profile.specs.Averages.{weekday_at, similar, count_on, time_of_day}
use Rattle.profile.specs.PastDaysOf.{past_days_of}
use Rattle.profile.proofs.Newest.{newest_given, tallied}
use Rattle.profile.proofs.reference_days.ReferenceDays.newest.Goals as goal

pub returns-clause-counts : goal.returns-clause-counts
returns-clause-counts c =
    let d = past_days_of c.args.self.now
    in let p = similar d (weekday_at d c.args.place)
    in let all = YieldsList-end (newest_given _ p d.days c.filter.ensures.source c.filter.ensures.closure (λ x b q k. search (rules, tests)) c.take-newest_days.ensures.source c.take-newest_days.ensures.count c.into_iter-day-iterator.ensures.into_iter_gives) c.loop-day.yielded _ c.loop-day.yielded_by _ _ c.in-None.is c.next.ensures.steps
    in tallied (count_on d (time_of_day d c.args.place)) c.loop-day.yielded _ _ _ all.0 c.loop-day.invariant.sums c.loop-day.invariant.finds
