-- A call from dialling to hanging up.
use Rattle.std.specs.Prelude.{ℕ, Ok, Err, Result, ◌==◌, if◌then◌else◌}
use Rattle.fault.specs.declared.refusal.Refusal.{Refusal}
use Rattle.fault.specs.declared.refusal.Refusal.TheVariants.{DeviceClockOff, OtherMeterAnswered}
use Rattle.fault.specs.Faults.{fault_at}
use Rattle.call.specs.declared.clocks.Clocks.{Clocks}
use Rattle.call.specs.declared.identified.Identified.{Identified}
use Rattle.call.specs.declared.over.Over.{Over}
use Rattle.call.specs.declared.waiting.Unanswered.{Unanswered}
use Rattle.call.specs.declared.waiting.Waiting.{Waiting}
use Rattle.call.specs.Clocks.{drift_of, device_off}

abbrev pub waiting_for : ℕ → Waiting
waiting_for number = record { number = number }

-- a refusal hands the waiting call back as it was
abbrev pub handed_back : Waiting → Refusal → Unanswered
handed_back w r = record { call = w; fault = fault_at r 0 }

abbrev pub turned_down : Waiting → Refusal → Result Identified Unanswered
turned_down w r = Err (handed_back w r)

-- the device's clock is checked first, then the number that answered
abbrev pub identified : Waiting → Clocks → ℕ → Result Identified Unanswered
identified w c answered =
    if device_off c then turned_down w DeviceClockOff
    else if answered == w.number then Ok (record { number = w.number; drift = drift_of c })
    else turned_down w OtherMeterAnswered

abbrev pub hung_up : Identified → Over
hung_up i = record { number = i.number; drift = i.drift }
