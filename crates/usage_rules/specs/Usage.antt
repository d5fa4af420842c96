-- The high/low rule. It adds the pulses of the places with a sound condition that the spike rule does not question,
-- and sets them against the past usage, cross-multiplied by the places of either.
use Rattle.std.specs.Prelude.{ℕ, ◌*◌, Bool, false, cond, not, ◌&&◌, Some, None, sum, Option, nat_lt}
use Rattle.std.specs.Int.{abs_diff}
use Rattle.intervals.specs.Conditions.{sound}
use Rattle.held.specs.HeldData.{HeldData, places, in_cycle, interval_at}
use Rattle.validation.specs.Places.{each}
use Rattle.usage_rules.specs.Spikes.{spike_questions}

abbrev pub added : HeldData → ℕ → Bool
added h i = sound (interval_at h i).condition && not (spike_questions h i)

abbrev pub added_places : HeldData → ℕ → ℕ
added_places h n = sum (each n (λ i. cond (added h i) 1 0))

abbrev pub added_pulses : HeldData → ℕ → ℕ
added_pulses h n = sum (each n (λ i. cond (added h i) (interval_at h i).pulses 0))

-- T pulses over m places against past usage of the pulses u.0 over the places u.1, of which there is at least one
abbrev pub high_or_low : Option (ℕ × ℕ) → ℕ → ℕ → Bool
high_or_low None m T = false
high_or_low (Some u) m T = nat_lt 0 m && nat_lt (u.0 * m) (2 * abs_diff (u.0 * m) (T * u.1))

abbrev pub high_low_questions : HeldData → ℕ → Bool
high_low_questions h i = in_cycle h i && high_or_low h.past (added_places h (places h)) (added_pulses h (places h))
