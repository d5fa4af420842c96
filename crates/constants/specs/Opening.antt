-- What opening with plain numbers gives: the numbers themselves within their limits, and else a refusal.
use Rattle.std.specs.Prelude.{ℕ, cond, Some, None, Ok, Err, Option, Result, ◌==◌}
use Rattle.fault.specs.Faults.{fault_at}
use Rattle.fault.specs.declared.record.Fault.{Fault}
use Rattle.fault.specs.declared.refusal.Refusal.TheVariants.{OpeningOutsideLimits}
use Rattle.constants.specs.Limits.{cycle_limits, register_limits, usage_limits}

abbrev outside : {T : Type 0} → Result T Fault
outside = Err (fault_at OpeningOutsideLimits 0)

abbrev pub opened_cycle : ℕ → ℕ → ℕ → Result (ℕ × ℕ × ℕ) Fault
opened_cycle d p w = cond (cycle_limits d p w) (Ok (d, p, w)) outside

abbrev pub opened_register : ℕ → ℕ → Result (ℕ × ℕ) Fault
opened_register g q = cond (register_limits g q) (Ok (g, q)) outside

-- no places, no past usage
abbrev pub opened_usage : ℕ → ℕ → Result (Option (ℕ × ℕ)) Fault
opened_usage h H = cond (usage_limits h H) (Ok (cond (H == 0) None (Some (h, H)))) outside
