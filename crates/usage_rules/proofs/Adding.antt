-- The usage of a cycle, added up place by place.
use Rattle.std.proofs.Common.{◌≡◌, ℕ, ◌+◌, ◌*◌, ◌<◌, ◌≤◌, length, get_or, sum, zero-add, arith}
use Rattle.std.proofs.lemmas.List.FromFn.{get_or-map-range_with_len, sum_by-map-range_with_len_more}
use Rattle.std.proofs.lemmas.Grind.{common_steps}
use Rattle.constants.specs.Limits.{longest_cycle}
use Rattle.held.specs.HeldData.{HeldData}
use Rattle.held.specs.declared.view.Held.{Held}
use Rattle.validation.specs.Places.{each}
use Rattle.usage_rules.specs.Usage.{added_places, added_pulses}

-- no cycle is longer than 31 days of 96 places
pub cycle_short : (h : Held) → length h.intervals.now ≤ longest_cycle
cycle_short h = grind (arith, common_steps)

-- the first i places are added up
abbrev pub AddedUp : HeldData → ℕ → ℕ → ℕ → Type 0
AddedUp h i m T = (m ≡ added_places h i) × (T ≡ added_pulses h i) × (m ≤ i) × (T ≤ 65535 * i)

pub get_or-each : {X : Type 0} (n : ℕ) (f : ℕ → X) (i : ℕ) (d : X) → i < n → get_or (each n f) i d ≡ f i
get_or-each n f i d l = get_or-map-range_with_len f 0 n i i d l (zero-add i)

pub sum-each_more : (f : ℕ → ℕ) (i : ℕ) → sum (each (i + 1) f) ≡ sum (each i f) + f i
sum-each_more f i = sum_by-map-range_with_len_more (λ x. x) f 0 i i (zero-add i)

pub ruleset adding = (common_steps, get_or-each, sum-each_more)
