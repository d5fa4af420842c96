-- What the three clocks say.
use Rattle.std.specs.Prelude.{Bool, ℤ, pos, ◌-ℤ◌, nat_lt}
use Rattle.std.specs.Int.{abs_diff}
use Rattle.call.specs.declared.clocks.Clocks.{Clocks}

-- meter time minus device time in seconds, with its sign
abbrev pub drift_of : Clocks → ℤ
drift_of c = pos c.meter -ℤ pos c.device

-- the device is more than 2 seconds from the national standard
abbrev pub device_off : Clocks → Bool
device_off c = nat_lt 2 (abs_diff c.device c.standard)
