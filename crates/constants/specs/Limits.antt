-- The limits of the numbers that a cycle, a register and a past usage are opened with.
use Rattle.std.specs.Prelude.{ℕ, ◌*◌, Bool, ◌&&◌, ◌||◌, ◌==◌, nat_le}

-- a day has 24, 48 or 96 places
abbrev pub places_a_day_known : ℕ → Bool
places_a_day_known p = p == 24 || (p == 48 || p == 96)

-- 1 to 31 days; the weekday runs from 0 for Monday to 6 for Sunday
abbrev pub cycle_limits : ℕ → ℕ → ℕ → Bool
cycle_limits d p w = (nat_le 1 d && nat_le d 31) && (places_a_day_known p && nat_le w 6)

-- 4 to 6 dials; 1 to 1,000 pulses make a unit
abbrev pub register_limits : ℕ → ℕ → Bool
register_limits g q = (nat_le 4 g && nat_le g 6) && (nat_le 1 q && nat_le q 1000)

-- 31 days of 96 places
abbrev pub longest_cycle : ℕ
longest_cycle = 2976

-- h pulses over H places before the cycle, none of which can have counted more than 65,535
abbrev pub usage_limits : ℕ → ℕ → Bool
usage_limits h H = nat_le h (65535 * H) && nat_le H 2976
