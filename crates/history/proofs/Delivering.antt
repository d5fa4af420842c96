-- What is kept lasts through an accepted delivery.
use Rattle.std.proofs.Common.{◌≡◌, ℕ, ◌+◌, ◌-◌, ◌*◌, ◌≤◌, false, cond, not, ltb, leb, List, length, get_or, take, drop, ℤ, None, sym, ap, ◌∙◌, ⊎_elim, arith, length-take}
use Rattle.std.proofs.lemmas.Bool.{and_left, and_right, cond-true, cond-false, le-ltb, lt-leb, ltb-false}
use Rattle.delivery.specs.Blocks.{shaped, place_count, block_parts}
use Rattle.delivery.proofs.Intervals.{length-intervals_of, length-fours}
use Rattle.fault.specs.declared.refusal.Refusal.TheVariants.{BookPosted, OtherMeterDelivers, DriftTooLarge, BlockMisshapen, PlacesPastCycle}
use Rattle.history.specs.Answers.{refusal, takes_from, drift_beyond, when}
use Rattle.history.specs.Calls.{delivery, brought, delivered}
use Rattle.history.specs.History.{bringing}
use Rattle.history.specs.Model.{Model, places, missing}
use Rattle.history.specs.Stretches.{in_stretch, overwritten}
use Rattle.history.proofs.Checks.{passed, not_when}
use Rattle.history.proofs.Kept.{Words, Kept}
use Rattle.history.proofs.Raw.{kept_raw}
use Rattle.history.proofs.Stretches.{in_stretch_lem, in_or_out, length-overwritten, get_or-overwritten, get_or_overwritten_before, get_or_overwritten_behind}

-- the words after the delivery, with any word of what is questioned
abbrev pub after_delivery : Words → ℕ → ℤ → List ℕ → (ℕ → Type 0) → Words
after_delivery w number drift bytes q = record {
  opening = w.opening;
  readings = w.readings;
  delivered = λ i. bringing (delivery number drift bytes) i (w.delivered i);
  questioned = q;
  used = w.used;
  posted = w.posted;
}

module _ {X : Type 0} (a : ℕ) (ys xs : List X) (fits : a + length ys ≤ length xs) (i : ℕ) (d : X) where
  outside : in_stretch a (length ys) i ≡ false → get_or (overwritten a ys xs) i d ≡ get_or xs i d → get_or (overwritten a ys xs) i d ≡ cond (in_stretch a (length ys) i) (get_or ys (i - a) d) (get_or xs i d)
  outside out old = old ∙ sym (cond-false (in_stretch a (length ys) i) (get_or ys (i - a) d) (get_or xs i d) out)

  overwritten_at : get_or (overwritten a ys xs) i d ≡ cond (in_stretch a (length ys) i) (get_or ys (i - a) d) (get_or xs i d)
  overwritten_at =
      ⊎_elim
      (λ b. get_or-overwritten a ys xs fits i d b.0 b.1 ∙ sym (cond-true (in_stretch a (length ys) i) (get_or ys (i - a) d) (get_or xs i d) (in_stretch_lem a (length ys) i b.0 b.1)))
      (⊎_elim
      (λ low. outside (and_left (leb a i) (ltb i (a + length ys)) (lt-leb a i low)) (get_or_overwritten_before a ys xs fits i d low))
      (λ high. outside (and_right (leb a i) (ltb i (a + length ys)) (le-ltb i (a + length ys) high)) (get_or_overwritten_behind a ys xs fits i d high)))
      (in_or_out a (length ys) i)

brought_long : (bytes : List ℕ) → length (brought bytes) ≤ place_count bytes
brought_long bytes =
    let fs = take (4 * place_count bytes) (drop 4 bytes) in
    omega (arith, length-intervals_of (block_parts bytes).pulses (block_parts bytes).conditions, length-fours fs, length-take (4 * place_count bytes) (drop 4 bytes))

-- an accepted delivery comes to a book that is not posted, and ends within the cycle
accepted : (number : ℕ) (drift : ℤ) (bytes : List ℕ) (m : Model) → refusal (delivery number drift bytes) m ≡ None → (m.posted ≡ false) × ((block_parts bytes).first + place_count bytes ≤ places m)
accepted number drift bytes m e =
    let unposted = passed (when BookPosted m.posted) _ e in
    let meter = passed (when OtherMeterDelivers (not (takes_from m number))) _ unposted.1 in
    let near = passed (when DriftTooLarge (drift_beyond 180 drift)) _ meter.1 in
    let shape = passed (when BlockMisshapen (not (shaped bytes))) _ near.1 in
    let room = passed (when PlacesPastCycle (ltb (places m) ((block_parts bytes).first + place_count bytes))) _ shape.1 in
    (not_when BookPosted m.posted unposted.0, ltb-false (places m) ((block_parts bytes).first + place_count bytes) (not_when PlacesPastCycle _ room.0))

pub kept_delivery : (w : Words) (m : Model) (number : ℕ) (drift : ℤ) (bytes : List ℕ) (q : ℕ → Type 0) → ((i : ℕ) → q i → ⊥) → Kept w m → refusal (delivery number drift bytes) m ≡ None → Kept (after_delivery w number drift bytes q) (delivered bytes m)
kept_delivery w m number drift bytes q unasked c e =
    let a = accepted number drift bytes m e in
    let first = (block_parts bytes).first in
    let fits : first + length (brought bytes) ≤ length m.intervals = omega (arith, a.1, brought_long bytes, c.intervals_long) in
    kept_raw (after_delivery w number drift bytes q) m.opening (overwritten first (brought bytes) m.intervals) m.readings c.opening c.readings c.owed c.rising c.within (length-overwritten first (brought bytes) m.intervals fits ∙ c.intervals_long)
    (λ i h. overwritten_at first (brought bytes) m.intervals fits i missing ∙ ap (cond (in_stretch first (length (brought bytes)) i) (get_or (brought bytes) (i - first) missing)) (c.held i h))
    (sym a.0 ∙ c.posting) unasked
