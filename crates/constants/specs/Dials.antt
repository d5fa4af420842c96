-- The dials of a register.
use Rattle.std.specs.Prelude.{ℕ, ◌+◌, ◌-◌, ◌%◌, ◌^◌}

-- how far g dials went from one reading to a later one, both within what they show: past their last number they begin
-- again at 0
abbrev pub advance_between : ℕ → ℕ → ℕ → ℕ
advance_between g earlier later = (later + 10 ^ g - earlier) % 10 ^ g
