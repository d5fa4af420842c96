-- Weights, shares and values of a part, place by place. Assumes nothing.
use Rattle.std.proofs.Common.{◌≡◌, ℕ, zero, suc, ◌+◌, ◌<◌, ◌⊎◌, cond, List, [], ◌∷◌, ◌++◌, length, get_or, take, drop, set, sum, Option, arith}
use Rattle.std.proofs.lemmas.List.{append_assoc, drop_more, drop-set-lt, take_more, take_more_set}
use Rattle.sharing.specs.declared.state.State.{State}
use Rattle.sharing.specs.Weights.{is_open, weight_of, weights}
use Rattle.sharing.specs.Shares.{shares, placed}
use Rattle.sharing.specs.Sharing.{shared_out}
use Rattle.sharing.specs.Laws.{Shared, open_values}
use Rattle.sharing.proofs.Running.{shares_shared}

pub length-weights : (P : ℕ → Option (ℕ × ℕ)) (i : ℕ) (ss : List State) → length (weights P i ss) ≡ length ss
length-weights P i [] = grind arith
length-weights P i (s ∷ ss) = grind (arith, length-weights P (i + 1) ss)

pub get_or-weights : (P : ℕ → Option (ℕ × ℕ)) (i : ℕ) (ss : List State) (j : ℕ) (d : State) → j < length ss → get_or (weights P i ss) j 0 ≡ cond (is_open (get_or ss j d)) (weight_of (P (i + j))) 0
get_or-weights P i [] j d h = grind arith
get_or-weights P i (s ∷ ss) zero d h = grind arith
get_or-weights P i (s ∷ ss) (suc j) d h = grind (arith, get_or-weights P (i + 1) ss j d)

pub length-placed : (ss : List State) (es vs : List ℕ) → length (placed ss es vs) ≡ length vs
length-placed [] es vs = grind arith
length-placed (s ∷ ss) [] vs = grind arith
length-placed (s ∷ ss) (e ∷ es) [] = grind arith
length-placed (s ∷ ss) (e ∷ es) (v ∷ vs) = grind (arith, length-placed ss es vs)

pub get_or-placed : (ss : List State) (es vs : List ℕ) (j : ℕ) (d : State) → j < length ss → j < length es → j < length vs → get_or (placed ss es vs) j 0 ≡ cond (is_open (get_or ss j d)) (get_or es j 0) (get_or vs j 0)
get_or-placed [] es vs j d h k l = grind arith
get_or-placed (s ∷ ss) [] vs j d h k l = grind arith
get_or-placed (s ∷ ss) (e ∷ es) [] j d h k l = grind arith
get_or-placed (s ∷ ss) (e ∷ es) (v ∷ vs) zero d h k l = grind arith
get_or-placed (s ∷ ss) (e ∷ es) (v ∷ vs) (suc j) d h k l = grind (arith, get_or-placed ss es vs j d)

pub get_or-open_values : (ss : List State) (vs : List ℕ) (j : ℕ) (d : State) → j < length ss → j < length vs → get_or (open_values ss vs) j 0 ≡ cond (is_open (get_or ss j d)) (get_or vs j 0) 0
get_or-open_values [] vs j d h k = grind arith
get_or-open_values (s ∷ ss) [] j d h k = grind arith
get_or-open_values (s ∷ ss) (v ∷ vs) zero d h k = grind arith
get_or-open_values (s ∷ ss) (v ∷ vs) (suc j) d h k = grind (arith, get_or-open_values ss vs j d)

-- what the open places have once the shares of their weights are placed are those shares: a place that is not open
-- weighs nothing, and so its share is 0
pub open_values-placed : (X Y S : ℕ) (P : ℕ → Option (ℕ × ℕ)) (i : ℕ) (ss : List State) (vs : List ℕ) → length ss ≡ length vs → open_values ss (placed ss (shares X Y S (weights P i ss)) vs) ≡ shares X Y S (weights P i ss)
open_values-placed X Y S P i [] vs h = grind arith
open_values-placed X Y S P i (s ∷ ss) [] h = grind arith
open_values-placed X Y S P i (s ∷ ss) (v ∷ vs) h =
    let w = cond (is_open s) (weight_of (P i)) 0 in
    grind (arith, open_values-placed X Y (S + w) P (i + 1) ss vs)

-- the values after an accepted sharing
pub shared_values : (P : ℕ → Option (ℕ × ℕ)) (first : ℕ) (ss : List State) (X : ℕ) (vs us : List ℕ) → us ≡ shared_out P first ss X vs → length ss ≡ length vs → (0 < sum (weights P first ss)) ⊎ (X ≡ 0) → Shared X (weights P first ss) (open_values ss us)
shared_values P first ss X vs us e level h = rw (e, open_values-placed X (sum (weights P first ss)) 0 P first ss vs level) (shares_shared X (weights P first ss) h)

-- one turn of the loop that writes: the value at a place is written where the place is open
pub placed_more : (s : State) (ss : List State) (e : ℕ) (es vs : List ℕ) (i : ℕ) → i < length vs → take i vs ++ placed (s ∷ ss) (e ∷ es) (drop i vs) ≡ take (i + 1) (cond (is_open s) (set vs i e) vs) ++ placed ss es (drop (i + 1) (cond (is_open s) (set vs i e) vs))
placed_more s ss e es vs i h = grind (arith, append_assoc {A = ℕ}, drop_more vs i 0, take_more vs i 0, take_more_set vs i e, drop-set-lt (i + 1) vs i e)
