-- What a profile means for each place: no weight, or a weight with the code of the method that gave it.
use Rattle.std.specs.Prelude.{ℕ, cond, Some, None, Option, nat_le}
use Rattle.profile.specs.declared.method.Method.{Method}
use Rattle.profile.specs.declared.method.Method.TheVariants.{Flat}
use Rattle.profile.specs.Codes.{method_code}

-- flat: every place weighs the same
abbrev pub flat_weight : ℕ → Option (ℕ × ℕ)
flat_weight place = Some (1, method_code Flat)

-- a pair: the first one's answer where it has a weight, else the second's
abbrev pub pair_weight : Option (ℕ × ℕ) → Option (ℕ × ℕ) → Option (ℕ × ℕ)
pair_weight (Some answer) second = Some answer
pair_weight None second = second

-- what a method found as an answer; a weight is at most 65,535
abbrev pub weighed : Method → Option ℕ → Option (ℕ × ℕ)
weighed m None = None
weighed m (Some w) = cond (nat_le w 65535) (Some (w, method_code m)) None
