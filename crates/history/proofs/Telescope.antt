-- Stretches one after the other, each beginning where the one before it ends, come to one long stretch.
use Rattle.std.proofs.Common.{◌≡◌, ℕ, zero, suc, ◌+◌, ◌-◌, ◌<◌, ◌≤◌, sym, ap, ◌∙◌, arith}
use Rattle.history.specs.Stretches.{total}
use Rattle.history.proofs.Stretches.{total_add}

-- edge k is where stretch k begins; the stretches from number a on, n of them, do not run backwards
abbrev pub Forward : (ℕ → ℕ) → ℕ → ℕ → Type 0
Forward edge a n = (k : ℕ) → a ≤ k → k < a + n → edge k ≤ edge (k + 1)

later_forward : (edge : ℕ → ℕ) (a n : ℕ) → Forward edge a (suc n) → Forward edge (a + 1) n
later_forward edge a n up k low high = up k (omega arith) (omega arith)

pub forward_edges : (edge : ℕ → ℕ) (a n : ℕ) → Forward edge a n → edge a ≤ edge (a + n)
forward_edges edge a zero up = let e : edge (a + 0) ≡ edge a = ap edge (let z : a + 0 ≡ a = omega arith in z) in omega arith
forward_edges edge a (suc n) up =
    let here = up a (omega arith) (omega arith) in
    let rest = forward_edges edge (a + 1) n (later_forward edge a n up) in
    let e : edge (a + 1 + n) ≡ edge (a + suc n) = ap edge (let z : a + 1 + n ≡ a + suc n = omega arith in z) in
    omega arith

-- f added up over stretch k
abbrev pub over_stretch : (ℕ → ℕ) → (ℕ → ℕ) → ℕ → ℕ
over_stretch f edge k = total f (edge k) (edge (k + 1) - edge k)

pub telescope : (f edge : ℕ → ℕ) (a n : ℕ) → Forward edge a n → total (over_stretch f edge) a n ≡ total f (edge a) (edge (a + n) - edge a)
telescope f edge a zero up = ap (total f (edge a)) (let z : 0 ≡ edge (a + 0) - edge a = omega (arith, ap edge (let s : a + 0 ≡ a = omega arith in s)) in z)
telescope f edge a (suc n) up =
    let here = up a (omega arith) (omega arith) in
    let onward = forward_edges edge (a + 1) n (later_forward edge a n up) in
    let e : edge (a + 1 + n) ≡ edge (a + suc n) = ap edge (let z : a + 1 + n ≡ a + suc n = omega arith in z) in
    let first = edge (a + 1) - edge a in
    let rest = edge (a + 1 + n) - edge (a + 1) in
    let meet : edge a + first ≡ edge (a + 1) = omega arith in
    let long : first + rest ≡ edge (a + suc n) - edge a = omega arith in
    ap (λ t. total f (edge a) first + t) (telescope f edge (a + 1) n (later_forward edge a n up))
    ∙ ap (λ b. total f (edge a) first + total f b rest) (sym meet)
    ∙ sym (total_add f (edge a) first rest)
    ∙ ap (total f (edge a)) long
