-- The weighing of a part: its whole weight, or the first open place that has none.
use Rattle.std.specs.Prelude.{ℕ, Bool, true, false, List, Some, None, Ok, Err, sum, Option, Result}
use Rattle.fault.specs.declared.record.Fault.{Fault}
use Rattle.fault.specs.declared.refusal.Refusal.TheVariants.{PlaceWithoutWeight}
use Rattle.fault.specs.Faults.{fault_at}
use Rattle.sharing.specs.declared.state.State.{State}
use Rattle.sharing.specs.Weights.{weights, unweighted}

-- what a place weighs, open or not, by the answer of the profile
abbrev pub place_weight : Bool → Option (ℕ × ℕ) → Option ℕ
place_weight false a = Some 0
place_weight true None = None
place_weight true (Some a) = Some a.0

abbrev pub whole_unless : Option ℕ → ℕ → Result ℕ Fault
whole_unless None whole = Ok whole
whole_unless (Some i) whole = Err (fault_at PlaceWithoutWeight i)

abbrev pub weighing : (ℕ → Option (ℕ × ℕ)) → ℕ → List State → Result ℕ Fault
weighing P first ss = whole_unless (unweighted P first ss) (sum (weights P first ss))
