-- A call from the words of a command line: the numbers dialled and answered, and the clocks of device, standard and
-- meter.
use Rattle.std.specs.Prelude.{ℕ, List, [], ◌∷◌, Some, Ok, Err, Option, Result}
use Rattle.fault.specs.declared.record.Fault.{Fault}
use Rattle.fault.specs.declared.refusal.Refusal.TheVariants.{LineUnreadable}
use Rattle.fault.specs.Faults.{fault_at}
use Rattle.call.specs.declared.arguments.Arguments.{Arguments}

-- five words, each of them a number; any other words cannot be read
abbrev pub arguments_of : List (Option ℕ) → Result Arguments Fault
arguments_of (Some dialled ∷ Some answered ∷ Some device ∷ Some standard ∷ Some meter ∷ []) = Ok (record {
  dialled = dialled;
  answered = answered;
  clocks = record { device = device; standard = standard; meter = meter };
})
arguments_of _ = Err (fault_at LineUnreadable 0)
