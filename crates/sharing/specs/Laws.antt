-- What holds of an amount shared over weights, whatever they are.
use Rattle.std.specs.Prelude.{◌≡◌, ℕ, ◌+◌, ◌*◌, ◌<◌, ◌≤◌, cond, List, [], ◌∷◌, length, sum, slice_index}
use Rattle.std.specs.List.{between}
use Rattle.sharing.specs.declared.state.State.{State}
use Rattle.sharing.specs.Weights.{is_open}

-- e lies less than one pulse from its exact share amount × w ÷ whole, and is 0 where the whole weight is 0
abbrev pub Near : ℕ → ℕ → ℕ → ℕ → Type 0
Near amount whole w e =
    (0 < whole → (e * whole < amount * w + whole) × (amount * w < e * whole + whole)) × (whole ≡ 0 → e ≡ 0)

-- the amount is shared as es over the weights ws: all of it, to the pulse, and with each share and the shares of each
-- row of neighbours, from place a to before place b, less than one pulse from the exact share
pub record Shared (amount : ℕ) (ws es : List ℕ) : Type 0 where
  pub whole : sum es ≡ amount
  pub each : (j : ℕ) → j < length ws → Near amount (sum ws) (slice_index ws j) (slice_index es j)
  pub rows : (a b : ℕ) → a ≤ b → b ≤ length ws → Near amount (sum ws) (sum (between a b ws)) (sum (between a b es))

-- the values of the open places, 0 for the others
abbrev pub open_values : List State → List ℕ → List ℕ
open_values [] vs = []
open_values (s ∷ ss) [] = []
open_values (s ∷ ss) (v ∷ vs) = cond (is_open s) v 0 ∷ open_values ss vs
