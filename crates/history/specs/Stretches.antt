-- Words on neighbouring places: the len places from place a on.
use Rattle.std.specs.Prelude.{ℕ, zero, suc, ◌+◌, ◌-◌, Bool, false, cond, ◌&&◌, ◌||◌, List, ◌++◌, map, length, take, drop, Some, None, Option, nat_le, nat_lt}
use Rattle.std.specs.List.{range_with_len}

-- what f says of each of these places, in order
abbrev pub over : {X : Type 0} → ℕ → ℕ → (ℕ → X) → List X
over a len f = map f (range_with_len a len)

abbrev pub in_stretch : ℕ → ℕ → ℕ → Bool
in_stretch a len i = nat_le a i && nat_lt i (a + len)

-- the list xs with ys written over it from place a on
abbrev pub overwritten : {X : Type 0} → ℕ → List X → List X → List X
overwritten a ys xs = take a xs ++ (ys ++ drop (length ys) (drop a xs))

-- each place of the stretch as f says, every other as it was
abbrev pub rewritten : {X : Type 0} → ℕ → ℕ → (ℕ → X) → List X → List X
rewritten a len f xs = overwritten a (over a len f) xs

-- the part of a list from place a to the place before b
abbrev pub part : {X : Type 0} → ℕ → ℕ → List X → List X
part a b xs = take (b - a) (drop a xs)

-- the first place of the stretch at which p says yes
abbrev pub first_where : (ℕ → Bool) → ℕ → ℕ → Option ℕ
first_where p a zero = None
first_where p a (suc len) = cond (p a) (Some a) (first_where p (a + 1) len)

-- p says yes somewhere in the stretch
abbrev pub any_where : (ℕ → Bool) → ℕ → ℕ → Bool
any_where p a zero = false
any_where p a (suc len) = p a || any_where p (a + 1) len

-- f added up over the stretch
abbrev pub total : (ℕ → ℕ) → ℕ → ℕ → ℕ
total f a zero = 0
total f a (suc len) = f a + total f (a + 1) len
