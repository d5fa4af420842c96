-- Histories: an opening, then calls, each with the answer it got; and what can be said of a history alone, without any
-- book. Accepted means not refused.
use Rattle.std.specs.Prelude.{◌≡◌, ℕ, ◌-◌, Bool, true, false, cond, ◌⊎◌, List, [], ◌∷◌, ◌++◌, length, Some, None, Option, ◌==◌, slice_index_or}
use Rattle.delivery.specs.Blocks.{block_parts}
use Rattle.intervals.specs.Conditions.{sound}
use Rattle.intervals.specs.declared.interval.Interval.{Interval}
use Rattle.readings.specs.declared.reading.Reading.{Reading}
use Rattle.held.specs.HeldData.{HeldData}
use Rattle.history.specs.Answers.{Answer, done, totalled, refused, answer, after}
use Rattle.history.specs.Calls.{Call, delivery, reading, rule, verification, settlement, filling, withdrawal, posting, Weighing, Questioning, brought}
use Rattle.history.specs.Model.{Opening, Model, places_of, opening_limits, new_book, missing, held_in, has_bit}
use Rattle.history.specs.Stretches.{in_stretch, over}

pub data History : Type 0 where
  opened : Opening → History
  later : History → Call → Answer → History

abbrev pub opening_of : History → Opening
opening_of (opened o) = o
opening_of (later h c a) = opening_of h

abbrev pub accepted : Answer → Bool
accepted done = true
accepted (totalled t) = true
accepted (refused f) = false

-- what an accepted call means for a word w of the history, given what was said before
abbrev pub heeded : {X : Type 0} → Answer → X → X → X
heeded done new old = new
heeded (totalled t) new old = new
heeded (refused f) new old = old

-- what place i has after a call, if it was accepted: a delivery that covers the place brings it anew
abbrev pub bringing : Call → ℕ → Interval → Interval
bringing (delivery number drift bytes) i old = cond (in_stretch (block_parts bytes).first (length (brought bytes)) i) (slice_index_or (brought bytes) (i - (block_parts bytes).first) missing) old
bringing (reading b x) i old = old
bringing (rule k f) i old = old
bringing (verification a len) i old = old
bringing (settlement k P) i old = old
bringing (filling k P) i old = old
bringing (withdrawal k) i old = old
bringing posting i old = old

-- pulses and condition brought to place i by the latest accepted delivery that covers it; missing where there is none
abbrev pub delivered_at : History → ℕ → Interval
delivered_at (opened o) i = missing
delivered_at (later h c a) i = heeded a (bringing c i (delivered_at h i)) (delivered_at h i)

abbrev pub entering : Call → List Reading → List Reading
entering (delivery number drift bytes) rs = rs
entering (reading b x) rs = rs ++ (record { boundary = b; register = x } ∷ [])
entering (rule k f) rs = rs
entering (verification a len) rs = rs
entering (settlement k P) rs = rs
entering (filling k P) rs = rs
entering (withdrawal k) rs = rs
entering posting rs = rs

-- the accepted readings
abbrev pub readings_of : History → List Reading
readings_of (opened o) = []
readings_of (later h c a) = heeded a (entering c (readings_of h)) (readings_of h)

-- the data held
abbrev pub held_by : History → HeldData
held_by h = held_in (opening_of h) (over 0 (places_of (opening_of h)) (delivered_at h)) (readings_of h)

-- after a call that was accepted, rule k with the meaning f has run: it is this call, or it had run before and the
-- call is no delivery and no reading
abbrev pub Running : Call → ℕ → Questioning → Type 0 → Type 0
Running (delivery number drift bytes) k f before = ⊥
Running (reading b x) k f before = ⊥
Running (rule j g) k f before = ((j ≡ k) × (g ≡ f)) ⊎ before
Running (verification a len) k f before = before
Running (settlement j P) k f before = before
Running (filling j P) k f before = before
Running (withdrawal j) k f before = before
Running posting k f before = before

abbrev pub Heeded : Answer → Type 0 → Type 0 → Type 0
Heeded done new old = new
Heeded (totalled t) new old = new
Heeded (refused f) new old = old

-- rule k, with the meaning f that it had then, had its run accepted after every accepted delivery and reading
abbrev pub Ran : History → ℕ → Questioning → Type 0
Ran (opened o) k f = ⊥
Ran (later h c a) k f = Heeded a (Running c k f (Ran h k f)) (Ran h k f)

-- an owed rule that has run questions place i of the data held
abbrev pub Questioned : History → ℕ → Type 0
Questioned h i = (k : ℕ) × (f : Questioning) × (has_bit (opening_of h).owed k ≡ true) × Ran h k f × (f (held_by h) i ≡ true)

-- the condition delivered to place i is not sound, or an owed rule questioned the place
abbrev pub Doubted : History → ℕ → Type 0
Doubted h i = (sound (delivered_at h i).condition ≡ false) ⊎ Questioned h i

abbrev pub settling : Call → ℕ → Option Weighing → Option Weighing
settling (delivery number drift bytes) k before = before
settling (reading b x) k before = before
settling (rule j f) k before = before
settling (verification a len) k before = before
settling (settlement j P) k before = cond (j == k) (Some P) before
settling (filling j P) k before = before
settling (withdrawal j) k before = before
settling posting k before = before

-- what the profile of the latest accepted settlement of region k meant then
abbrev pub used : History → ℕ → Option Weighing
used (opened o) k = None
used (later h c a) k = heeded a (settling c k (used h k)) (used h k)

abbrev pub closing : Call → Bool → Bool
closing (delivery number drift bytes) before = before
closing (reading b x) before = before
closing (rule k f) before = before
closing (verification a len) before = before
closing (settlement k P) before = before
closing (filling k P) before = before
closing (withdrawal k) before = before
closing posting before = true

-- a posting was accepted
abbrev pub was_posted : History → Bool
was_posted (opened o) = false
was_posted (later h c a) = heeded a (closing c (was_posted h)) (was_posted h)

-- The history h leads to the book m: a book opened within its limits, then each call answered and carried out as
-- defined.
abbrev pub Of : History → Model → Type 0
Of (opened o) m = (opening_limits o ≡ true) × (m ≡ new_book o)
Of (later h c a) m = (before : Model) × Of h before × (a ≡ answer c before) × (m ≡ after c before)
