-- Answers place by place.
use Rattle.std.specs.Prelude.{ℕ, List, map}
use Rattle.std.specs.List.{range_with_len}

-- what f says of each of the places 0 to n - 1, in order
abbrev pub each : {X : Type 0} → ℕ → (ℕ → X) → List X
each n f = map f (range_with_len 0 n)
