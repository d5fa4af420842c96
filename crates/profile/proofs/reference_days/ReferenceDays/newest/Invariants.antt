use Rattle.std.proofs.Common.{◌≡◌, ◌+◌, ◌*◌, ◌≤◌, length, map, sum}
use Rattle.std.specs.Iterator.Adapters.{take_count}
use Rattle.profile.specs.Averages.{count_on, time_of_day}
use Rattle.profile.specs.PastDaysOf.{past_days_of}
use Rattle.profile.proofs.reference_days.ReferenceDays.newest.Given as goal

abbrev pub invariant-loop-day : goal.invariant-loop-day
invariant-loop-day l =
    let d = past_days_of l.self
    in record {
      sums : l.total ≡ sum (map (count_on d (time_of_day d l.place)) l.yielded);
      finds : l.found ≡ length l.yielded;
      kept : l.total ≤ 65535 * l.found;
      left : l.found + take_count l.day-iterator ≡ 3;
    }
