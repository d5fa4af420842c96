-- A loop that puts a rule's answers into a list, place by place.
use Rattle.std.proofs.Common.{◌≡◌, ℕ, ◌+◌, ◌++◌, [], ◌∷◌, zero-add}
use Rattle.std.proofs.lemmas.List.FromFn.{map-range_with_len_more}
use Rattle.std.proofs.lemmas.Grind.{common_steps}
use Rattle.validation.specs.Places.{each}

pub each_more : {X : Type 0} (f : ℕ → X) (n : ℕ) → each (n + 1) f ≡ each n f ++ f n ∷ []
each_more f n = map-range_with_len_more f 0 n n (zero-add n)

-- one more answer, and the end of the list
pub ruleset filling = (common_steps, each_more)
