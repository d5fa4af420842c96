-- The sum rule. It questions every place of an inner region whose conditions are all sound and whose pulses differ from
-- the advance by more than the units allowed there.
use Rattle.std.specs.Prelude.{◌≡◌, ℕ, ◌*◌, ◌<◌, Bool, ◌&&◌, List, sum_by, nat_lt}
use Rattle.std.specs.Int.{abs_diff}
use Rattle.std.specs.List.{list_all}
use Rattle.intervals.specs.Conditions.{sound}
use Rattle.intervals.specs.declared.interval.Interval.{Interval}
use Rattle.held.specs.HeldData.{HeldData, places, in_cycle}
use Rattle.readings.specs.Laws.{LiesIn}
use Rattle.held.specs.RegionData.{region_intervals}
use Rattle.readings.specs.Regions.{inner, region_at, advance, allowed_units}

abbrev pub all_sound : List Interval → Bool
all_sound xs = list_all (λ x. sound x.condition) xs

abbrev pub total_pulses : List Interval → ℕ
total_pulses xs = sum_by (λ x. x.pulses) xs

-- whether pulses differ from an advance of some units by more than the units allowed, q pulses making a unit
abbrev pub beyond_allowed : ℕ → ℕ → ℕ → ℕ → Bool
beyond_allowed q units allowed pulses = nat_lt (allowed * q) (abs_diff pulses (units * q))

abbrev pub region_questioned : HeldData → ℕ → Bool
region_questioned h k = inner h.readings k && (all_sound (region_intervals h k) && beyond_allowed h.pulses_per_unit (advance h.dials h.readings k) (allowed_units h.readings k) (total_pulses (region_intervals h k)))

abbrev pub sum_questions : HeldData → ℕ → Bool
sum_questions h i = in_cycle h i && region_questioned h (region_at h.readings i)

-- every place of the region of place i is answered as place i is
abbrev pub AlikeInRegion : HeldData → ℕ → Type 0
AlikeInRegion h i = i < places h → (j : ℕ) → LiesIn (places h) h.readings j (region_at h.readings i) → sum_questions h j ≡ sum_questions h i
