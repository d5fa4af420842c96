-- What the places of a part of the cycle weigh under a profile.
use Rattle.std.specs.Prelude.{ℕ, ◌+◌, Bool, true, false, cond, List, [], ◌∷◌, Some, None, Option}
use Rattle.sharing.specs.declared.state.State.{State}
use Rattle.sharing.specs.declared.state.Status.{Status}
use Rattle.sharing.specs.declared.state.Status.TheVariants.{Raw, Measured, Verified, Open, Estimated}

abbrev pub open_status : Status → Bool
open_status Raw = false
open_status Measured = false
open_status Verified = false
open_status Open = true
open_status Estimated = false

abbrev pub is_open : State → Bool
is_open s = open_status s.status

abbrev pub weight_of : Option (ℕ × ℕ) → ℕ
weight_of None = 0
weight_of (Some a) = a.0

-- an open place weighs what the profile gives it, any other place nothing; the part begins at place i
abbrev pub weights : (ℕ → Option (ℕ × ℕ)) → ℕ → List State → List ℕ
weights P i [] = []
weights P i (s ∷ ss) = cond (is_open s) (weight_of (P i)) 0 ∷ weights P (i + 1) ss

abbrev pub or_else : Option (ℕ × ℕ) → ℕ → Option ℕ → Option ℕ
or_else None i later = Some i
or_else (Some a) i later = later

-- the first open place without a weight
abbrev pub unweighted : (ℕ → Option (ℕ × ℕ)) → ℕ → List State → Option ℕ
unweighted P i [] = None
unweighted P i (s ∷ ss) = cond (is_open s) (or_else (P i) i (unweighted P (i + 1) ss)) (unweighted P (i + 1) ss)
