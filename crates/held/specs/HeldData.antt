-- The data held, from which a rule is worked out.
use Rattle.std.specs.Prelude.{ℕ, ◌*◌, Bool, List, Option, nat_lt, slice_index_or}
use Rattle.intervals.specs.Intervals.{no_interval}
use Rattle.intervals.specs.declared.interval.Interval.{Interval}
use Rattle.readings.specs.declared.reading.Reading.{Reading}

pub record HeldData : Type 0 where
  pub days : ℕ
  pub places_a_day : ℕ
  pub first_weekday : ℕ
  pub dials : ℕ
  pub pulses_per_unit : ℕ
  -- pulses and places of the past usage, if there is any
  pub past : Option (ℕ × ℕ)
  pub intervals : List Interval
  pub readings : List Reading

abbrev pub places : HeldData → ℕ
places h = h.days * h.places_a_day

abbrev pub in_cycle : HeldData → ℕ → Bool
in_cycle h i = nat_lt i (places h)

abbrev pub interval_at : HeldData → ℕ → Interval
interval_at h i = slice_index_or h.intervals i no_interval
