-- The spike of a day. Of the day's places with a sound condition, if there are six or more, let t be the highest count
-- and s the sixth highest: t is a spike where it is above 10 and passes s by more than 1.8 times s.
use Rattle.std.specs.Prelude.{◌≡◌, ℕ, ◌-◌, ◌*◌, ◌<◌, ◌≤◌, Bool, true, false, cond, ◌&&◌, List, [], ◌∷◌, length, Some, None, Option, ◌==◌, nat_le, nat_lt, slice_index_or}
use Rattle.intervals.specs.Conditions.{sound}
use Rattle.intervals.specs.Intervals.{no_interval}
use Rattle.intervals.specs.declared.interval.Interval.{Interval}
use Rattle.peaks.specs.Ranks.{nth_highest}

abbrev pub sound_counts : List Interval → List ℕ
sound_counts [] = []
sound_counts (x ∷ xs) = cond (sound x.condition) (x.pulses ∷ sound_counts xs) (sound_counts xs)

abbrev pub stands_out : ℕ → ℕ → Bool
stands_out t s = nat_lt 10 t && nat_lt (9 * s) (5 * (t - s))

-- the highest of n counts, t, if it is a spike
abbrev pub peak : ℕ → ℕ → ℕ → Option ℕ
peak n t s = cond (nat_le 6 n && stands_out t s) (Some t) None

abbrev pub spike_of : List Interval → Option ℕ
spike_of day = peak (length (sound_counts day)) (nth_highest 1 (sound_counts day)) (nth_highest 6 (sound_counts day))

-- whether an interval shows the spike of its day
abbrev pub shows : Option ℕ → Interval → Bool
shows None x = false
shows (Some t) x = sound x.condition && x.pulses == t

-- no sound count of the day passes t
abbrev pub Highest : List Interval → ℕ → Type 0
Highest day t = (k : ℕ) → k < length day → sound (slice_index_or day k no_interval).condition ≡ true → (slice_index_or day k no_interval).pulses ≤ t
