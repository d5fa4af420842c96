-- The plain numbers of a cycle, a register and a past usage.
use Rattle.std.specs.Prelude.{ℕ, ◌*◌, Option}
use Rattle.std.specs.Option.{option_map}
use Rattle.constants.specs.declared.cycle.Cycle.{Cycle}
use Rattle.constants.specs.declared.register.Register.{Register}
use Rattle.constants.specs.declared.usage.Usage.{Usage}

-- days, places a day, weekday of the first day
abbrev pub cycle_sizes : Cycle → ℕ × ℕ × ℕ
cycle_sizes c = (c.days, c.places_a_day, c.first_weekday)

abbrev pub cycle_places : Cycle → ℕ
cycle_places c = c.days * c.places_a_day

-- dials, pulses that make a unit
abbrev pub register_sizes : Register → ℕ × ℕ
register_sizes g = (g.dials, g.pulses_per_unit)

-- pulses, places they were counted over
abbrev pub past_of : Usage → ℕ × ℕ
past_of u = (u.pulses, u.places)

abbrev pub usage_sizes : Option Usage → Option (ℕ × ℕ)
usage_sizes u = option_map past_of u
