-- The marks of a place, bit by bit.
use Rattle.std.proofs.Common.{◌≡◌, ℕ, zero, suc, ◌/◌, ◌%◌, ◌^◌, ◌<◌, max, Bool, true, false, cond, ◌&&◌, ◌||◌, eqb, get_or, sym, refl, ap, ◌∙◌, mul_comm, pow-suc, div-one, arith}
use native.Mathlib.Nat.{zero-div, div-div-eq-div-mul}
use lib.Bits.{bit_or, or_step, or_shr}
use lib.Dec.{eqb-zero-suc, eqb-suc-zero, eqb-suc-suc}
use Rattle.sharing.specs.declared.state.State.{State}
use Rattle.history.specs.Answers.{after_by, done, refusal}
use Rattle.history.specs.Calls.{Questioning, rule, judged, marked, marked_states, ruled}
use Rattle.history.specs.Model.{Model, has_bit, held_of, places, raw_state, sound_at, state_at}
use Rattle.history.specs.Sanity.{MarkedExactly}
use Rattle.history.proofs.Ruling.{is_last, judged_states, marked_at}
use Rattle.history.proofs.Settles.{passed_by}
use Rattle.history.proofs.Stretches.{get_or-over}

shifted : (x j : ℕ) → x / 2 ^ suc j ≡ x / 2 / 2 ^ j
shifted x j = ap (λ n. x / n) (pow-suc 2 j ∙ mul_comm (2 ^ j) 2) ∙ sym (div-div-eq-div-mul x 2 (2 ^ j))

-- the bit of rule k is bit k
own_bit : (k j : ℕ) → has_bit (2 ^ k) j ≡ eqb j k
own_bit zero zero = refl
own_bit zero (suc j) = ap (λ n. eqb (n % 2) 1) (shifted 1 j ∙ zero-div (2 ^ j)) ∙ sym (eqb-suc-zero j)
own_bit (suc k) zero =
    let even : 2 ^ suc k / 2 ^ 0 % 2 ≡ 0 = omega (arith, pow-suc 2 k, div-one (2 ^ suc k)) in
    ap (λ n. eqb n 1) even ∙ sym (eqb-zero-suc k)
own_bit (suc k) (suc j) =
    let half : 2 ^ suc k / 2 ≡ 2 ^ k = omega (arith, pow-suc 2 k) in
    ap (λ n. eqb (n % 2) 1) (shifted (2 ^ suc k) j ∙ ap (λ n. n / 2 ^ j) half) ∙ own_bit k j ∙ sym (eqb-suc-suc j k)

either : (p q : ℕ) → p < 2 → q < 2 → eqb (max p q) 1 ≡ (eqb p 1 || eqb q 1)
either zero zero h l = refl
either zero (suc zero) h l = refl
either zero (suc (suc q)) h l = absurd (omega arith)
either (suc zero) zero h l = refl
either (suc zero) (suc zero) h l = refl
either (suc zero) (suc (suc q)) h l = absurd (omega arith)
either (suc (suc p)) q h l = absurd (omega arith)

bit_or_lem : (a b j : ℕ) → has_bit (bit_or a b) j ≡ (has_bit a j || has_bit b j)
bit_or_lem a b j =
    let x = a / 2 ^ j in
    let y = b / 2 ^ j in
    let last : bit_or x y % 2 ≡ max (x % 2) (y % 2) = omega (arith, or_step x y) in
    ap (λ n. eqb (n % 2) 1) (or_shr a b j) ∙ ap (λ n. eqb n 1) last ∙ either (x % 2) (y % 2) (omega arith) (omega arith)

and_true : (x : Bool) → x ≡ (x && true)
and_true true = refl
and_true false = refl

no_more : (x y : Bool) → x ≡ (x || (y && false))
no_more true y = refl
no_more false true = refl
no_more false false = refl

marked_exactly_by : (k : ℕ) (questioned : Bool) (s : State) (j : ℕ) → has_bit (marked k questioned s).marks j ≡ (has_bit s.marks j || (eqb j k && questioned))
marked_exactly_by k true s j = bit_or_lem s.marks (2 ^ k) j ∙ ap (λ t. has_bit s.marks j || t) (own_bit k j ∙ and_true (eqb j k))
marked_exactly_by k false s j = no_more (has_bit s.marks j) (eqb j k)

-- judging leaves the marks
marks_after : (k : ℕ) (f : Questioning) (m : Model) (i : ℕ) → i < places m → (last : Bool) → (get_or (cond last (judged_states k f m) (marked_states k f m)) i raw_state).marks ≡ (marked_at k f m i).marks
marks_after k f m i h true = ap (λ s. s.marks) (get_or-over (places m) (λ j. judged (sound_at m j) (marked_at k f m j)) i raw_state h)
marks_after k f m i h false = ap (λ s. s.marks) (get_or-over (places m) (marked_at k f m) i raw_state h)

pub marked_exactly : MarkedExactly
marked_exactly k f m ok i h j =
    let e = passed_by (refusal (rule k f) m) done ok in
    ap (λ o. has_bit (state_at (after_by o (ruled k f m) m) i).marks j) e
    ∙ ap (λ n. has_bit n j) (marks_after k f m i h (is_last k m))
    ∙ marked_exactly_by k (f (held_of m) i) (state_at m i) j
