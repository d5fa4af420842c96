-- An amount shared over weights in order. The running share after weights that come to S is the amount times S over
-- the whole weight, rounded down; a place gets what the running share grows by at it. Rounding the running share and
-- not each share is what keeps every pulse.
use Rattle.std.specs.Prelude.{ℕ, ◌+◌, ◌-◌, ◌*◌, ◌/◌, cond, List, [], ◌∷◌}
use Rattle.sharing.specs.declared.state.State.{State}
use Rattle.sharing.specs.Weights.{is_open}

-- a whole weight of 0 gives 0 everywhere
abbrev pub running : ℕ → ℕ → ℕ → ℕ
running amount whole S = amount * S / whole

-- the shares of the weights ws, S being the weights before them
abbrev pub shares : ℕ → ℕ → ℕ → List ℕ → List ℕ
shares amount whole S [] = []
shares amount whole S (w ∷ ws) = (running amount whole (S + w) - running amount whole S) ∷ shares amount whole (S + w) ws

-- each open place takes its share; the other places keep their values
abbrev pub placed : List State → List ℕ → List ℕ → List ℕ
placed [] es vs = vs
placed (s ∷ ss) [] vs = vs
placed (s ∷ ss) (e ∷ es) [] = []
placed (s ∷ ss) (e ∷ es) (v ∷ vs) = cond (is_open s) e v ∷ placed ss es vs
