-- The fault that a refusal makes at a position: its layer is the refusal's own.
use Rattle.std.specs.Prelude.{ℕ}
use Rattle.fault.specs.declared.record.Fault.{Fault}
use Rattle.fault.specs.declared.refusal.Refusal.{Refusal}
use Rattle.fault.specs.Layers.{layer_of}

abbrev pub fault_at : Refusal → ℕ → Fault
fault_at r p = record { refusal = r; position = p; layer = layer_of r }
