-- The days that a profile of reference days holds, and what the making of one gave in those words.
use Rattle.std.specs.Result.{result_map_both}
use Rattle.std.specs.Prelude.{length, Result}
use Rattle.fault.specs.declared.record.Fault.{Fault}
use Rattle.profile.specs.declared.reference_days.ReferenceDays.{ReferenceDays}
use Rattle.constants.specs.Lengths.{places_of}
use Rattle.profile.specs.PastDays.{PastDays}

abbrev pub past_days_of : ReferenceDays → PastDays
past_days_of r = record {
  first_weekday = r.first_weekday;
  places_a_day = places_of r.interval;
  days = length r.marks.now;
  counts = r.counts.now;
  marks = r.marks.now;
}

abbrev pub made_of : Result ReferenceDays Fault → Result PastDays Fault
made_of r = result_map_both past_days_of (λ e. e) r
