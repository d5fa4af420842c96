use Rattle.std.proofs.Common.{sym, ◌∙◌, length}
use Rattle.constants.specs.Lengths.{places_of}
use Rattle.profile.specs.PastDays.{sheet}
use Rattle.profile.proofs.Averaged.{weighs_by_average}
use Rattle.profile.proofs.reference_days.ReferenceDays.new.Goals as goal

pub returns-then-counts_kept-clause-weighs : goal.returns-then-counts_kept-clause-weighs
returns-then-counts_kept-clause-weighs c =
    let days = sheet c.args.first_weekday (places_of c.in_ok-interval.interval) (length c.args.marks.now) c.args.counts.now c.args.marks.now
    in weighs_by_average days (sym c.counts_kept.ensures ∙ c.if-counts_kept.true)
