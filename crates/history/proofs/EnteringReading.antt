-- What is kept lasts through an accepted reading.
use Rattle.std.proofs.Common.{◌≡◌, ℕ, ◌≤◌, true, false, not, ◌||◌, ltb, leb, [], ◌∷◌, ◌++◌, length, None, sym, ap, ◌∙◌}
use Rattle.std.proofs.lemmas.Bool.{ltb-false, not-false, or_parts}
use Rattle.fault.specs.declared.refusal.Refusal.TheVariants.{BookPosted, ReadingsFull, BoundaryNotRising}
use Rattle.readings.specs.declared.reading.Reading.{Reading}
use Rattle.readings.specs.Entering.{above_last}
use Rattle.readings.proofs.Pushing.{rising_push, within_push}
use Rattle.history.specs.Answers.{refusal, when}
use Rattle.history.specs.Calls.{reading, entered}
use Rattle.history.specs.Model.{Model, places}
use Rattle.history.proofs.Checks.{passed, not_when}
use Rattle.history.proofs.Kept.{Words, Kept}
use Rattle.history.proofs.Raw.{kept_raw}

abbrev pub read : ℕ → ℕ → Reading
read b x = record { boundary = b; register = x }

-- the words after the reading, with any word of what is questioned
abbrev pub after_reading : Words → ℕ → ℕ → (ℕ → Type 0) → Words
after_reading w b x q = record {
  opening = w.opening;
  readings = w.readings ++ (read b x ∷ []);
  delivered = w.delivered;
  questioned = q;
  used = w.used;
  posted = w.posted;
}

-- an accepted reading comes to a book that is not posted, within the cycle and above the last one
accepted : (b x : ℕ) (m : Model) → refusal (reading b x) m ≡ None → (m.posted ≡ false) × (b ≤ places m) × (above_last m.readings b ≡ true)
accepted b x m e =
    let unposted = passed (when BookPosted m.posted) _ e in
    let room = passed (when ReadingsFull (leb 32 (length m.readings))) _ unposted.1 in
    let place = passed (when BoundaryNotRising (ltb (places m) b || not (above_last m.readings b))) _ room.1 in
    let parts = or_parts (ltb (places m) b) (not (above_last m.readings b)) (not_when BoundaryNotRising _ place.0) in
    (not_when BookPosted m.posted unposted.0, ltb-false (places m) b parts.0, not-false (above_last m.readings b) parts.1)

pub kept_reading : (w : Words) (m : Model) (b x : ℕ) (q : ℕ → Type 0) → ((i : ℕ) → q i → ⊥) → Kept w m → refusal (reading b x) m ≡ None → Kept (after_reading w b x q) (entered b x m)
kept_reading w m b x q unasked c e =
    let a = accepted b x m e in
    kept_raw (after_reading w b x q) m.opening m.intervals (m.readings ++ (read b x ∷ [])) c.opening (ap (λ rs. rs ++ (read b x ∷ [])) c.readings) c.owed (rising_push m.readings (read b x) c.rising a.2) (within_push (places m) m.readings (read b x) c.within a.1) c.intervals_long c.held (sym a.0 ∙ c.posting) unasked
