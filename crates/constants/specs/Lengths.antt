-- The places of a day by the length of an interval.
use Rattle.std.specs.Prelude.{ℕ, cond, List, Some, None, codes, decimal, ◌++◌, Option, Result, ◌==◌}
use Rattle.std.specs.Option.{ok_or}
use Rattle.constants.specs.declared.interval_length.IntervalLength.{IntervalLength}
use Rattle.constants.specs.declared.interval_length.IntervalLength.TheVariants.{Hour, HalfHour, QuarterHour}
use Rattle.constants.specs.declared.interval_length.UnknownLength.{UnknownLength}

abbrev pub places_of : IntervalLength → ℕ
places_of Hour = 24
places_of HalfHour = 48
places_of QuarterHour = 96

abbrev pub length_of : ℕ → Option IntervalLength
length_of p = cond (p == 24) (Some Hour) (cond (p == 48) (Some HalfHour) (cond (p == 96) (Some QuarterHour) None))

-- the length that gives a day so many places, or the number itself
abbrev pub length_read : ℕ → Result IntervalLength UnknownLength
length_read p = ok_or (length_of p) (record { places_a_day = p })

abbrev pub unknown_length_line : UnknownLength → List ℕ
unknown_length_line x = codes "no day has " ++ (decimal x.places_a_day ++ codes " places")
