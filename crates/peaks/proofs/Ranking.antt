-- The n-th highest of a row is reached by n counts or more and passed by fewer than n.
use Rattle.std.proofs.Common.{◌≡◌, ℕ, zero, suc, ◌+◌, ◌-◌, ◌<◌, ◌≤◌, min, max, true, cond, leb, List, [], ◌∷◌, length, get_or, IfSome, fold, refl, ⊎_elim, arith}
use Rattle.std.proofs.lemmas.Bool.{cond-true, cond-false, cond_both, le-leb, lt-leb, cases_lt}
use Rattle.intervals.specs.Conditions.{sound}
use Rattle.intervals.specs.declared.interval.Interval.{Interval}
use Rattle.peaks.specs.Ranks.{entered, falling, nth_highest, at_least, Ranked}
use Rattle.intervals.specs.Intervals.{no_interval}
use Rattle.peaks.specs.Counts.{sound_counts, peak, spike_of, Highest}
use Rattle.std.proofs.lemmas.Grind.{common_steps}

abbrev one : ℕ → ℕ → ℕ
one t x = cond (leb t x) 1 0

one_yes : (t x : ℕ) → t ≤ x → one t x ≡ 1
one_yes t x h = cond-true _ _ _ (le-leb t x h)

one_no : (t x : ℕ) → x < t → one t x ≡ 0
one_no t x h = cond-false _ _ _ (lt-leb t x h)

one_most : (t x : ℕ) → one t x ≤ 1
one_most t x = ⊎_elim (λ l. omega (arith, one_no t x l)) (λ l. omega (arith, one_yes t x l)) (cases_lt x t)

one_both : (t x y : ℕ) → one t (max x y) + one t (min x y) ≡ one t x + one t y
one_both t x y = grind (arith, common_steps)

-- entering a count adds that count alone
at_least_entered : (t : ℕ) (ys : List ℕ) (x : ℕ) → at_least t (entered ys x) ≡ one t x + at_least t ys
at_least_entered t [] x = refl
at_least_entered t (y ∷ ys) x = omega (arith, at_least_entered t ys (min x y), one_both t x y)

at_least_folded : (t : ℕ) (xs ys : List ℕ) → at_least t (fold entered ys xs) ≡ at_least t ys + at_least t xs
at_least_folded t [] ys = omega arith
at_least_folded t (x ∷ xs) ys = omega (arith, at_least_folded t xs (entered ys x), at_least_entered t ys x)

length-entered : (ys : List ℕ) (x : ℕ) → length (entered ys x) ≡ length ys + 1
length-entered [] x = refl
length-entered (y ∷ ys) x = omega (arith, length-entered ys (min x y))

length_folded : (xs ys : List ℕ) → length (fold entered ys xs) ≡ length ys + length xs
length_folded [] ys = omega arith
length_folded (x ∷ xs) ys = omega (arith, length_folded xs (entered ys x), length-entered ys x)

-- no count of a row passes b
abbrev Under : ℕ → List ℕ → Type 0
Under b [] = Unit {0}
Under b (y ∷ ys) = (y ≤ b) × Under b ys

-- each count is at least as high as those after it
abbrev Falls : List ℕ → Type 0
Falls [] = Unit {0}
Falls (y ∷ ys) = Under y ys × Falls ys

under_more : (a b : ℕ) → a ≤ b → (ys : List ℕ) → Under a ys → Under b ys
under_more a b h [] u = tt
under_more a b h (y ∷ ys) u = (omega (arith, u.0), under_more a b h ys u.1)

under_entered : (b : ℕ) (ys : List ℕ) (x : ℕ) → x ≤ b → Under b ys → Under b (entered ys x)
under_entered b [] x h u = (h, tt)
under_entered b (y ∷ ys) x h u = (omega (arith, u.0), under_entered b ys (min x y) (omega (arith, u.0)) u.1)

falls_entered : (ys : List ℕ) (x : ℕ) → Falls ys → Falls (entered ys x)
falls_entered [] x f = (tt, tt)
falls_entered (y ∷ ys) x f = (
  under_entered (max x y) ys (min x y) (omega arith) (under_more y (max x y) (omega arith) ys f.0),
  falls_entered ys (min x y) f.1,
)

falls_folded : (xs ys : List ℕ) → Falls ys → Falls (fold entered ys xs)
falls_folded [] ys f = f
falls_folded (x ∷ xs) ys f = falls_folded xs (entered ys x) (falls_entered ys x f)

-- none of a row passes its bound
under_none : (b : ℕ) (ys : List ℕ) → Under b ys → ◌≡◌ {A = ℕ} (at_least (b + 1) ys) 0
under_none b [] u = refl
under_none b (y ∷ ys) u = omega (arith, one_no (b + 1) y (omega (arith, u.0)), under_none b ys u.1)

under_at : (b : ℕ) (ys : List ℕ) (k : ℕ) → k < length ys → Under b ys → get_or ys k 0 ≤ b
under_at b [] k h u = omega arith
under_at b (y ∷ ys) zero h u = u.0
under_at b (y ∷ ys) (suc k) h u = under_at b ys k (omega arith) u.1

reached : (ys : List ℕ) (k : ℕ) → k < length ys → Falls ys → k + 1 ≤ at_least (get_or ys k 0) ys
reached [] k h f = omega arith
reached (y ∷ ys) zero h f = omega (arith, one_yes y y (omega arith))
reached (y ∷ ys) (suc k) h f =
    let l : k < length ys = omega arith in
    omega (arith, one_yes (get_or ys k 0) y (under_at y ys k l f.0), reached ys k l f.1)

passed : (ys : List ℕ) (k : ℕ) → k < length ys → Falls ys → at_least (get_or ys k 0 + 1) ys ≤ k
passed [] k h f = omega arith
passed (y ∷ ys) zero h f = omega (arith, one_no (y + 1) y (omega arith), under_none y ys f.0)
passed (y ∷ ys) (suc k) h f =
    let l : k < length ys = omega arith in
    omega (arith, passed ys k l f.1, one_most (get_or ys k 0 + 1) y)

pub ranked : (xs : List ℕ) → Ranked xs
ranked xs n low high =
    let l : n - 1 < length (falling xs) = omega (arith, length_folded xs []) in
    let f : Falls (falling xs) = falls_folded xs [] tt in (
      omega (arith, reached (falling xs) (n - 1) l f, at_least_folded (nth_highest n xs) xs []),
      omega (arith, passed (falling xs) (n - 1) l f, at_least_folded (nth_highest n xs + 1) xs []),
    )

-- a sound count of t or more is among those that reach t
counted : (day : List Interval) (k t : ℕ) → k < length day → sound (get_or day k no_interval).condition ≡ true → t ≤ (get_or day k no_interval).pulses → 1 ≤ at_least t (sound_counts day)
counted [] k t h s l = omega arith
counted (x ∷ xs) zero t h s l = rw s (omega (arith, one_yes t x.pulses l))
counted (x ∷ xs) (suc k) t h s l =
    let rest : 1 ≤ at_least t (sound_counts xs) = counted xs k t (omega arith) s l in
    cond_both (sound x.condition) (x.pulses ∷ sound_counts xs) (sound_counts xs) (λ ys. 1 ≤ at_least t ys) (λ _. omega arith) (λ _. rest)

peak_by : (n t s : ℕ) (P : ℕ → Type 0) → (6 ≤ n → P t) → IfSome (peak n t s) P
peak_by n t s P h = grind (arith, common_steps)

-- a spike is the highest of its day's sound counts
pub spike_highest : (day : List Interval) → IfSome (spike_of day) (Highest day)
spike_highest day =
    let xs : List ℕ = sound_counts day in
    peak_by (length xs) (nth_highest 1 xs) (nth_highest 6 xs) (Highest day)
    (λ l k h s.
    ⊎_elim
    (λ above. absurd (omega (arith, counted day k (nth_highest 1 xs + 1) h s (omega arith), (ranked xs 1 (omega arith) (omega arith)).1)))
    (λ below. below)
    (cases_lt (nth_highest 1 xs) (get_or day k no_interval).pulses))
