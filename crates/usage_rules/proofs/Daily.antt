-- A place that shows its day's spike shows the highest sound count of the day.
use Rattle.std.proofs.Common.{◌≡◌, ℕ, ◌+◌, ◌-◌, ◌%◌, ◌<◌, ◌≤◌, ◌≢◌, true, List, length, get_or, take, drop, IfSome, Some, None, Option, sym, ap, ◌∙◌, subst, arith}
use native.Mathlib.Nat.{mod-le}
use Rattle.std.proofs.lemmas.Nat.{mod_below}
use Rattle.std.proofs.lemmas.List.{get_or-take, get_or-drop, length-take, length-drop}
use Rattle.std.proofs.lemmas.Bool.{and_parts, eqb-true, false≢true}
use Rattle.intervals.specs.Conditions.{sound}
use Rattle.intervals.specs.declared.interval.Interval.{Interval}
use Rattle.held.specs.HeldData.{HeldData, places, interval_at}
use Rattle.intervals.specs.Intervals.{no_interval}
use Rattle.peaks.specs.Counts.{shows, spike_of, Highest}
use Rattle.peaks.proofs.Ranking.{spike_highest}
use Rattle.usage_rules.specs.Spikes.{midnight, spike_questions, HighestOfDay}
use Rattle.std.proofs.lemmas.Grind.{common_steps}

-- the next place is of the same day, unless it begins one
pub same_day : (n i : ℕ) → 0 < n → (i + 1) % n ≢ 0 → i - i % n ≡ i + 1 - (i + 1) % n
same_day n i some later = grind (arith, common_steps)

shown : (o : Option ℕ) (x : Interval) (P : ℕ → Type 0) → shows o x ≡ true → IfSome o P → P x.pulses
shown None x P s h = absurd (false≢true s)
shown (Some t) x P s h = subst P (sym (eqb-true _ _ (and_parts _ _ s).1)) h

pub spike_questions_highest : (h : HeldData) (i : ℕ) → 0 < h.places_a_day → length h.intervals ≡ places h → spike_questions h i ≡ true → HighestOfDay h i
spike_questions_highest h i some whole s j inside same snd =
    let m : ℕ = midnight h i in
    let k : ℕ = j % h.places_a_day in
    let day : List Interval = take h.places_a_day (drop m h.intervals) in
    let below : k < h.places_a_day = mod_below j h.places_a_day some in
    let at : m + k ≡ j = omega (arith, same, mod-le j h.places_a_day) in
    let there : get_or day k no_interval ≡ interval_at h j = get_or-take h.places_a_day (drop m h.intervals) k no_interval below ∙ get_or-drop m h.intervals k no_interval ∙ ap (λ n. get_or h.intervals n no_interval) at in
    let l : k < length day = simp (length-take, length-drop) (omega arith) in
    let high : Highest day (interval_at h i).pulses = shown (spike_of day) (interval_at h i) (Highest day) (and_parts _ _ s).1 (spike_highest day) in
    let r : (get_or day k no_interval).pulses ≤ (interval_at h i).pulses = high k l (ap (λ x. sound x.condition) there ∙ snd) in
    subst (λ x. x.pulses ≤ (interval_at h i).pulses) there r
