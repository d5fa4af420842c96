-- The straight line between two measured places.
use Rattle.std.specs.Prelude.{ℕ, ◌+◌, ◌-◌, ◌*◌, ◌/◌}

-- the j-th of k places between the values l and u, counted from 1, rounded down
abbrev pub on_line : ℕ → ℕ → ℕ → ℕ → ℕ
on_line l u k j = (l * (k + 1 - j) + u * j) / (k + 1)
