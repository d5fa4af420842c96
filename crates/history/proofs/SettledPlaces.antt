-- A settled region place by place: its weights, its shares and the values written over it.
use Rattle.std.proofs.Common.{◌≡◌, ℕ, ◌+◌, ◌-◌, ◌<◌, ◌≤◌, false, cond, ◌⊎◌, List, length, get_or, drop, sum, sym, refl, ap, ◌∙◌, ⊎_elim, arith, length-drop}
use Rattle.std.proofs.lemmas.List.{get_or-take, get_or-drop, length-take-le}
use Rattle.std.proofs.lemmas.Bool.{cond-false}
use Rattle.sharing.specs.Shares.{shares, placed}
use Rattle.sharing.specs.Weights.{is_open, weight_of}
use Rattle.sharing.proofs.Places.{length-weights, get_or-weights, length-placed, get_or-placed, get_or-open_values, open_values-placed}
use Rattle.sharing.proofs.Running.{length-shares}
use Rattle.history.specs.Calls.{Weighing, amount_of, states_in, weights_in, settled}
use Rattle.history.specs.Model.{Model, state_at, entry_at, raw_state, start_of, end_of, length_of}
use Rattle.history.specs.Stretches.{part, total}
use Rattle.history.proofs.Changed.{Roomy}
use Rattle.history.proofs.Stretches.{length-overwritten, get_or-overwritten, get_or_overwritten_before, get_or_overwritten_behind, total-sum}

-- the part of a list place by place
pub length_part : {X : Type 0} (a b : ℕ) (xs : List X) → b ≤ length xs → length (part a b xs) ≡ b - a
length_part a b xs h = length-take-le (b - a) (drop a xs) (omega (arith, length-drop a xs))

pub get_or-part : {X : Type 0} (a b : ℕ) (xs : List X) (d : X) (i : ℕ) → a ≤ i → i < a + (b - a) → get_or (part a b xs) (i - a) d ≡ get_or xs i d
get_or-part a b xs d i low high =
    let on : a + (i - a) ≡ i = omega arith in
    get_or-take (b - a) (drop a xs) (i - a) d (omega arith) ∙ get_or-drop a xs (i - a) d ∙ ap (λ j. get_or xs j d) on

sum-total : (f : ℕ → ℕ) (a len : ℕ) (xs : List ℕ) → length xs ≡ len → ((i : ℕ) → a ≤ i → i < a + len → get_or xs (i - a) 0 ≡ f i) → sum xs ≡ total f a len
sum-total f a len xs long h = total-sum f a len xs long (λ j low. (let e : j ≡ a + j - a = omega arith in ap (λ n. get_or xs n 0) e) ∙ h (a + j) (omega arith) (omega arith))

-- the shares of the region's places
abbrev pub shares_in : Model → ℕ → Weighing → List ℕ
shares_in m k P = shares (amount_of m k) (sum (weights_in m k P)) 0 (weights_in m k P)

-- the region's own part of the value sheet, with the shares written over its open places
abbrev pub settled_part : Model → ℕ → Weighing → List ℕ
settled_part m k P = placed (states_in m k) (shares_in m k P) (part (start_of m k) (end_of m k) m.values)

abbrev pub share_at : Model → ℕ → Weighing → ℕ → ℕ
share_at m k P i = get_or (shares_in m k P) (i - start_of m k) 0

-- the region's weights, shares and values
module _ (m : Model) (k : ℕ) (P : Weighing) (room : Roomy m k) where
  pub long_states : length (states_in m k) ≡ length_of m k
  long_states = length_part (start_of m k) (end_of m k) m.states room.states

  long_values : length (part (start_of m k) (end_of m k) m.values) ≡ length_of m k
  long_values = length_part (start_of m k) (end_of m k) m.values room.values

  pub long_weights : length (weights_in m k P) ≡ length_of m k
  long_weights = length-weights P (start_of m k) (states_in m k) ∙ long_states

  long_shares : length (shares_in m k P) ≡ length_of m k
  long_shares = length-shares (amount_of m k) (sum (weights_in m k P)) 0 (weights_in m k P) ∙ long_weights

  long_part : length (settled_part m k P) ≡ length_of m k
  long_part = length-placed (states_in m k) (shares_in m k P) (part (start_of m k) (end_of m k) m.values) ∙ long_values

  fits : start_of m k + length (settled_part m k P) ≤ length m.values
  fits = omega (arith, long_part, room.forward, room.values)

  pub long_settled : length (settled k P m).values ≡ length m.values
  long_settled = length-overwritten (start_of m k) (settled_part m k P) m.values fits

  pub value_out : (i : ℕ) → (i < start_of m k) ⊎ (start_of m k + length_of m k ≤ i) → entry_at (settled k P m) i ≡ entry_at m i
  value_out i = ⊎_elim
      (get_or_overwritten_before (start_of m k) (settled_part m k P) m.values fits i 0)
      (λ past. get_or_overwritten_behind (start_of m k) (settled_part m k P) m.values fits i 0 (omega (arith, long_part)))

  module _ (i : ℕ) (low : start_of m k ≤ i) (high : i < start_of m k + length_of m k) where
    pub state_at_lem : get_or (states_in m k) (i - start_of m k) raw_state ≡ state_at m i
    state_at_lem = get_or-part (start_of m k) (end_of m k) m.states raw_state i low high

    pub weight_at : get_or (weights_in m k P) (i - start_of m k) 0 ≡ cond (is_open (state_at m i)) (weight_of (P i)) 0
    weight_at =
        let on : start_of m k + (i - start_of m k) ≡ i = omega arith in
        get_or-weights P (start_of m k) (states_in m k) (i - start_of m k) raw_state (omega (arith, long_states))
        ∙ ap (λ s. cond (is_open s) (weight_of (P (start_of m k + (i - start_of m k)))) 0) state_at_lem
        ∙ ap (λ n. cond (is_open (state_at m i)) (weight_of (P n)) 0) on

    pub value_in : entry_at (settled k P m) i ≡ cond (is_open (state_at m i)) (share_at m k P i) (entry_at m i)
    value_in =
        get_or-overwritten (start_of m k) (settled_part m k P) m.values fits i 0 low (omega (arith, long_part))
        ∙ get_or-placed (states_in m k) (shares_in m k P) (part (start_of m k) (end_of m k) m.values) (i - start_of m k) raw_state (omega (arith, long_states)) (omega (arith, long_shares)) (omega (arith, long_values))
        ∙ ap (λ s. cond (is_open s) (share_at m k P i) (get_or (part (start_of m k) (end_of m k) m.values) (i - start_of m k) 0)) state_at_lem
        ∙ ap (cond (is_open (state_at m i)) (share_at m k P i)) (get_or-part (start_of m k) (end_of m k) m.values 0 i low high)

    -- a place that is not open has no share
    pub share_closed : is_open (state_at m i) ≡ false → share_at m k P i ≡ 0
    share_closed closed =
        ap (λ es. get_or es (i - start_of m k) 0) (sym (open_values-placed (amount_of m k) (sum (weights_in m k P)) 0 P (start_of m k) (states_in m k) (part (start_of m k) (end_of m k) m.values) (long_states ∙ sym long_values)))
        ∙ get_or-open_values (states_in m k) (settled_part m k P) (i - start_of m k) raw_state (omega (arith, long_states)) (omega (arith, long_part))
        ∙ cond-false (is_open (get_or (states_in m k) (i - start_of m k) raw_state)) (get_or (settled_part m k P) (i - start_of m k) 0) 0 (ap is_open state_at_lem ∙ closed)

  pub weights_total : sum (weights_in m k P) ≡ total (λ i. cond (is_open (state_at m i)) (weight_of (P i)) 0) (start_of m k) (length_of m k)
  weights_total = sum-total (λ i. cond (is_open (state_at m i)) (weight_of (P i)) 0) (start_of m k) (length_of m k) (weights_in m k P) long_weights weight_at

  pub shares_total : sum (shares_in m k P) ≡ total (share_at m k P) (start_of m k) (length_of m k)
  shares_total = sum-total (share_at m k P) (start_of m k) (length_of m k) (shares_in m k P) long_shares (λ i _ _. refl)
