-- The spike rule. It questions the places of a day that show the day's spike.
use Rattle.std.specs.Prelude.{◌≡◌, ℕ, ◌-◌, ◌%◌, ◌<◌, ◌≤◌, Bool, true, ◌&&◌, take, drop, Option}
use Rattle.intervals.specs.Conditions.{sound}
use Rattle.held.specs.HeldData.{HeldData, places, in_cycle, interval_at}
use Rattle.peaks.specs.Counts.{spike_of, shows}

-- the place that begins the day of place i
abbrev pub midnight : HeldData → ℕ → ℕ
midnight h i = i - i % h.places_a_day

-- the spike of the day that begins at a place
abbrev pub spike_from : HeldData → ℕ → Option ℕ
spike_from h start = spike_of (take h.places_a_day (drop start h.intervals))

abbrev pub spike_questions : HeldData → ℕ → Bool
spike_questions h i = in_cycle h i && shows (spike_from h (midnight h i)) (interval_at h i)

-- a place shows the highest of its day's sound counts
abbrev pub HighestOfDay : HeldData → ℕ → Type 0
HighestOfDay h i = (j : ℕ) → j < places h → midnight h j ≡ midnight h i → sound (interval_at h j).condition ≡ true → (interval_at h j).pulses ≤ (interval_at h i).pulses
