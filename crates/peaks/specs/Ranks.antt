-- The n-th highest of a row of counts, repeats counted.
use Rattle.std.specs.Prelude.{ℕ, ◌+◌, ◌-◌, ◌<◌, ◌≤◌, min, max, cond, List, [], ◌∷◌, length, fold, nat_le, slice_index}

-- a count entered among counts that fall from first to last: at each rank the higher stays and the lower moves on
abbrev pub entered : List ℕ → ℕ → List ℕ
entered [] x = x ∷ []
entered (y ∷ ys) x = max x y ∷ entered ys (min x y)

-- the counts from the highest to the lowest
abbrev pub falling : List ℕ → List ℕ
falling xs = fold entered [] xs

-- the first is the highest; 0 where there are fewer than n
abbrev pub nth_highest : ℕ → List ℕ → ℕ
nth_highest n xs = slice_index (falling xs) (n - 1)

-- how many counts are x or more
abbrev pub at_least : ℕ → List ℕ → ℕ
at_least x [] = 0
at_least x (y ∷ ys) = cond (nat_le x y) 1 0 + at_least x ys

-- what makes a number the n-th highest: n counts or more reach it, and fewer than n pass it
abbrev pub Ranked : List ℕ → Type 0
Ranked xs = (n : ℕ) → 1 ≤ n → n ≤ length xs → (n ≤ at_least (nth_highest n xs) xs) × (at_least (nth_highest n xs + 1) xs < n)
