-- Running shares, and the shares that they grow by. Assumes nothing.
use Rattle.std.proofs.Common.{◌≡◌, ℕ, zero, suc, ◌+◌, ◌-◌, ◌*◌, ◌<◌, ◌≤◌, ◌⊎◌, List, [], ◌∷◌, length, get_or, take, sum, refl, ap, arith}
use Rattle.std.specs.List.{between}
use Rattle.std.proofs.Math.Seq.{take-add}
use Rattle.std.proofs.lemmas.List.{take_all, drop_more}
use Rattle.std.proofs.lemmas.List.Sums.{sum_by-cons, sum_by-append}
use Rattle.sharing.specs.Shares.{running, shares}
use Rattle.sharing.specs.Laws.{Near, Shared}

-- the running share never falls
running_mono : (X Y S w : ℕ) → running X Y S ≤ running X Y (S + w)
running_mono X Y S w = grind arith

-- what the running share grows by lies less than one pulse from the exact share of the weight that it grows at
running_near : (X Y S w e : ℕ) → e + running X Y S ≡ running X Y (S + w) → Near X Y w e
running_near X Y S w e h = (λ some. let p = ap (λ n. n * Y) h in (omega arith, omega arith), λ none. omega arith)

pub length-shares : (X Y S : ℕ) (ws : List ℕ) → length (shares X Y S ws) ≡ length ws
length-shares X Y S [] = refl
length-shares X Y S (w ∷ ws) = ap suc (length-shares X Y (S + w) ws)

-- the first n shares add up to what the running share grows by over them
sum-take-shares : (X Y S n : ℕ) (ws : List ℕ) → sum (take n (shares X Y S ws)) + running X Y S ≡ running X Y (S + sum (take n ws))
sum-take-shares X Y S zero ws = grind arith
sum-take-shares X Y S (suc n) [] = grind arith
sum-take-shares X Y S (suc n) (w ∷ ws) = grind (arith, sum_by-cons (λ x. x), running_mono X Y S w, sum-take-shares X Y (S + w) n ws)

-- the sum of a row of neighbours, by those of two fronts
sum-between : (a b : ℕ) (xs : List ℕ) → a ≤ b → sum (take a xs) + sum (between a b xs) ≡ sum (take b xs)
sum-between a b xs h = grind (arith, sum_by-append (λ x. x) (take a xs) (between a b xs), take-add a (b - a) xs)

-- a row of one place
sum_one : (j : ℕ) (xs : List ℕ) → j < length xs → sum (between j (j + 1) xs) ≡ get_or xs j 0
sum_one j xs h = grind (arith, drop_more xs j 0 h)

-- the three laws of sharing
pub shares_add_up : (X : ℕ) (ws : List ℕ) → (0 < sum ws) ⊎ (X ≡ 0) → sum (shares X (sum ws) 0 ws) ≡ X
shares_add_up X ws h =
    let n = length ws in
    let es = shares X (sum ws) 0 ws in
    grind (arith, sum-take-shares X (sum ws) 0 n ws, take_all n ws, take_all n es, length-shares X (sum ws) 0 ws)

row_near : (X Y S a b : ℕ) (ws : List ℕ) → a ≤ b → Near X Y (sum (between a b ws)) (sum (between a b (shares X Y S ws)))
row_near X Y S a b ws h = running_near X Y (S + sum (take a ws)) _ _ (grind (arith, sum-take-shares X Y S a ws, sum-take-shares X Y S b ws, sum-between a b ws h, sum-between a b (shares X Y S ws) h))

pub share_near : (X Y S : ℕ) (ws : List ℕ) (j : ℕ) → j < length ws → Near X Y (get_or ws j 0) (get_or (shares X Y S ws) j 0)
share_near X Y S ws j h =
    let es = shares X Y S ws in
    let k : j < length es = omega (arith, length-shares X Y S ws) in
    let row = row_near X Y S j (j + 1) ws (omega arith) in
    rw (sum_one j ws h, sum_one j es k) at row

pub shares_shared : (X : ℕ) (ws : List ℕ) → (0 < sum ws) ⊎ (X ≡ 0) → Shared X ws (shares X (sum ws) 0 ws)
shares_shared X ws h = record {
  whole = shares_add_up X ws h;
  each = share_near X (sum ws) 0 ws;
  rows = λ a b le _. row_near X (sum ws) 0 a b ws le;
}
