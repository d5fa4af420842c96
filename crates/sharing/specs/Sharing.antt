-- An amount shared over the open places of a part of the cycle: when that is turned down, and the part's values after
-- it.
use Rattle.std.specs.Prelude.{ℕ, ◌+◌, Bool, cond, not, ◌&&◌, List, length, is_ok, Some, None, Ok, Err, sum, Option, Result, ◌==◌, nat_le}
use Rattle.constants.specs.Limits.{longest_cycle}
use Rattle.fault.specs.declared.record.Fault.{Fault}
use Rattle.fault.specs.declared.refusal.Refusal.TheVariants.{PlacesOrRegionUnfit, PlaceWithoutWeight, TotalWeightZero}
use Rattle.fault.specs.Faults.{fault_at}
use Rattle.sharing.specs.declared.state.State.{State}
use Rattle.sharing.specs.Weights.{weights, unweighted}
use Rattle.sharing.specs.Shares.{shares, placed}

-- as many values as places, and no place past the longest cycle
abbrev pub is_part : ℕ → List State → List ℕ → Bool
is_part first ss vs = length ss == length vs && nat_le (first + length ss) longest_cycle

-- an amount that no weight bears is turned down
abbrev pub borne_outcome : ℕ → ℕ → Result (Unit {0}) Fault
borne_outcome amount whole = cond (whole == 0 && not (amount == 0)) (Err (fault_at TotalWeightZero 0)) (Ok tt)

-- and so is an open place without a weight
abbrev pub weighed_outcome : Option ℕ → ℕ → ℕ → Result (Unit {0}) Fault
weighed_outcome (Some i) amount whole = Err (fault_at PlaceWithoutWeight i)
weighed_outcome None amount whole = borne_outcome amount whole

abbrev pub share_outcome : (ℕ → Option (ℕ × ℕ)) → ℕ → List State → ℕ → List ℕ → Result (Unit {0}) Fault
share_outcome P first ss amount vs =
    cond (is_part first ss vs)
    (weighed_outcome (unweighted P first ss) amount (sum (weights P first ss)))
    (Err (fault_at PlacesOrRegionUnfit 0))

-- the part's values once the amount is shared over its open places
abbrev pub shared_out : (ℕ → Option (ℕ × ℕ)) → ℕ → List State → ℕ → List ℕ → List ℕ
shared_out P first ss amount vs = placed ss (shares amount (sum (weights P first ss)) 0 (weights P first ss)) vs

-- a refusal leaves the part as it was
abbrev pub share_values : (ℕ → Option (ℕ × ℕ)) → ℕ → List State → ℕ → List ℕ → List ℕ
share_values P first ss amount vs = cond (is_ok (share_outcome P first ss amount vs)) (shared_out P first ss amount vs) vs
