-- A settlement shares what is left of a region's advance over its open places.
use Rattle.std.proofs.Common.{◌≡◌, ℕ, zero, suc, ◌+◌, ◌-◌, ◌<◌, ◌≤◌, Bool, true, false, cond, not, eqb, List, [], ◌∷◌, length, get_or, is_some, Some, None, sum, Option, sym, refl, ap, ◌∙◌, subst, arith}
use Rattle.std.proofs.lemmas.Bool.{eq-eqb, ne_eqb, cond-true, cond-false}
use Rattle.readings.specs.Regions.{region_count}
use Rattle.sharing.specs.declared.state.State.{State}
use Rattle.sharing.specs.Laws.{Near}
use Rattle.sharing.specs.Weights.{is_open, weight_of, or_else, unweighted}
use Rattle.sharing.proofs.Running.{shares_add_up, share_near}
use Rattle.history.specs.Answers.{refusal}
use Rattle.history.specs.Calls.{Weighing, settlement, amount_of, states_in, weights_in, settled}
use Rattle.history.specs.Model.{Model, places, pulses_at, state_at, status_at, entry_at, is_measured, is_estimated, raw_state, start_of, length_of, advance_of, values_of}
use Rattle.history.specs.Stretches.{total}
use Rattle.history.proofs.Changed.{with_used, Roomy, inner_below, region_end_lem, region_inside, roomy}
use Rattle.history.proofs.Estimating.{open_or_measured, estimated_where_open, state_in, none_estimated, kept_estimated}
use Rattle.history.proofs.Kept.{Words, Kept, shared_amount, shared_weight}
use Rattle.history.proofs.SettledPlaces.{share_at, long_states, long_weights, long_settled, value_in, value_out, state_at_lem, weight_at, share_closed, weights_total, shares_total}
use Rattle.history.proofs.Settles.{Settles, settles}
use Rattle.history.proofs.Stretches.{total_ext, total_plus}

cond_not : (b : Bool) (x y : ℕ) → cond b x y ≡ cond (not b) y x
cond_not true x y = refl
cond_not false x y = refl

abbrev measured_at : Model → ℕ → ℕ
measured_at m i = cond (is_measured (status_at m i)) (pulses_at m i) 0

-- where no open place lacks a weight, each has one
all_weighed : (P : Weighing) (a : ℕ) (ss : List State) → unweighted P a ss ≡ None → (j : ℕ) → j < length ss → is_open (get_or ss j raw_state) ≡ true → is_some (P (a + j)) ≡ true
all_weighed P a [] e j h o = absurd (omega arith)
all_weighed P a (s ∷ ss) e zero h o = let on : a ≡ a + 0 = omega arith in ap (λ n. is_some (P n)) (sym on) ∙ has (P a) (sym (cond-true (is_open s) (or_else (P a) a (unweighted P (a + 1) ss)) (unweighted P (a + 1) ss) o) ∙ e)
  where
    has : (x : Option (ℕ × ℕ)) → or_else x a (unweighted P (a + 1) ss) ≡ None → is_some x ≡ true
    has (Some y) t = refl
    has None t = let z : ◌≡◌ {A = ℕ} 0 1 = cc in absurd (omega arith)
all_weighed P a (s ∷ ss) e (suc j) h o =
    let on : a + 1 + j ≡ a + suc j = omega arith in
    ap (λ n. is_some (P n)) (sym on) ∙ all_weighed P (a + 1) ss (rest (is_open s) (P a) e) j (omega arith) o
  where
    rest : (b : Bool) (x : Option (ℕ × ℕ)) → cond b (or_else x a (unweighted P (a + 1) ss)) (unweighted P (a + 1) ss) ≡ None → unweighted P (a + 1) ss ≡ None
    rest true (Some y) t = t
    rest true None t = let z : ◌≡◌ {A = ℕ} 0 1 = cc in absurd (omega arith)
    rest false x t = t

module _ (w : Words) (m : Model) (k : ℕ) (P : Weighing) (kept : Kept w m) (ok : Settles m k P) where
  room : Roomy m k
  room = roomy w m kept k

  known : k < region_count m.readings
  known = inner_below m.readings k ok.is_region_inner

  module _ (i : ℕ) (low : start_of m k ≤ i) (high : i < start_of m k + length_of m k) where
    within : i < places m
    within = omega (arith, region_end_lem w m kept k, region_inside w m kept k)

    none : is_estimated (status_at m i) ≡ false
    none = none_estimated w m kept ok.paid k P known ok.some_open i low high

    -- a place was measured exactly where it was not open, and is estimated now exactly where it was
    measured : is_measured (status_at m i) ≡ not (is_open (state_at m i))
    measured = open_or_measured (status_at m i) (kept.judged ok.paid i within) none

    estimated : is_estimated (status_at (settled k P m) i) ≡ is_open (state_at m i)
    estimated = ap (λ s. is_estimated s.status) (state_in w m kept ok.paid k P known i low high) ∙ estimated_where_open (P i) (state_at m i) none

    -- its value is its share and its measured pulses, of which one is 0
    value_parts : entry_at (settled k P m) i ≡ share_at m k P i + measured_at m i
    value_parts = value_in m k P room i low high ∙ by (is_open (state_at m i)) refl
      where
        by : (o : Bool) → is_open (state_at m i) ≡ o → cond o (share_at m k P i) (entry_at m i) ≡ share_at m k P i + measured_at m i
        by true e =
            let nothing : measured_at m i ≡ 0 = cond-false (is_measured (status_at m i)) (pulses_at m i) 0 (measured ∙ ap not e) in
            omega arith
        by false e =
            let is : is_measured (status_at m i) ≡ true = measured ∙ ap not e in
            let pulses : measured_at m i ≡ pulses_at m i = cond-true (is_measured (status_at m i)) (pulses_at m i) 0 is in
            omega (arith, kept.counted i within is, share_closed m k P room i low high e)

    pulses_left : cond (is_estimated (status_at (settled k P m) i)) 0 (pulses_at m i) ≡ measured_at m i
    pulses_left = ap (λ t. cond t 0 (pulses_at m i)) estimated ∙ cond_not (is_open (state_at m i)) 0 (pulses_at m i) ∙ ap (λ t. cond t (pulses_at m i) 0) (sym measured)

  -- the amount and the weight read off the estimates are those that were shared
  amount_same : shared_amount (settled k P m) k ≡ amount_of m k
  amount_same = ap (λ t. advance_of m k - t) (total_ext (λ i. cond (is_estimated (status_at (settled k P m) i)) 0 (pulses_at m i)) (measured_at m) (start_of m k) (length_of m k) pulses_left)

  weight_same : shared_weight (settled k P m) k P ≡ sum (weights_in m k P)
  weight_same =
      total_ext (λ i. cond (is_estimated (status_at (settled k P m) i)) (weight_of (P i)) 0) (λ i. cond (is_open (state_at m i)) (weight_of (P i)) 0) (start_of m k) (length_of m k) (λ i low high. ap (λ t. cond t (weight_of (P i)) 0) (estimated i low high))
      ∙ sym (weights_total m k P room)

  adds : values_of (settled k P m) k ≡ advance_of m k
  adds =
      let values = total_ext (entry_at (settled k P m)) (λ i. share_at m k P i + measured_at m i) (start_of m k) (length_of m k) value_parts in
      let parts = total_plus (share_at m k P) (measured_at m) (start_of m k) (length_of m k) in
      let whole : total (share_at m k P) (start_of m k) (length_of m k) ≡ amount_of m k = sym (shares_total m k P room) ∙ shares_add_up (amount_of m k) (weights_in m k P) ok.borne in
      values ∙ parts ∙ omega (arith, ok.below)

  near : (i : ℕ) → start_of m k ≤ i → i < start_of m k + length_of m k → is_estimated (status_at (settled k P m) i) ≡ true → Near (shared_amount (settled k P m) k) (shared_weight (settled k P m) k P) (weight_of (P i)) (entry_at (settled k P m) i)
  near i low high e =
      let o : is_open (state_at m i) ≡ true = sym (estimated i low high) ∙ e in
      let weight = weight_at m k P room i low high ∙ cond-true (is_open (state_at m i)) (weight_of (P i)) 0 o in
      let value = value_in m k P room i low high ∙ cond-true (is_open (state_at m i)) (share_at m k P i) (entry_at m i) o in
      subst (λ X. Near X (shared_weight (settled k P m) k P) (weight_of (P i)) (entry_at (settled k P m) i)) (sym amount_same)
      (subst (λ Y. Near (amount_of m k) Y (weight_of (P i)) (entry_at (settled k P m) i)) (sym weight_same)
      (subst (Near (amount_of m k) (sum (weights_in m k P)) (weight_of (P i))) (sym value)
      (subst (λ n. Near (amount_of m k) (sum (weights_in m k P)) n (share_at m k P i)) weight
      (share_near (amount_of m k) (sum (weights_in m k P)) 0 (weights_in m k P) (i - start_of m k) (omega (arith, long_weights m k P room))))))

  weighed_at : (i : ℕ) → start_of m k ≤ i → i < start_of m k + length_of m k → is_estimated (status_at (settled k P m) i) ≡ true → is_some (P i) ≡ true
  weighed_at i low high e =
      let o : is_open (state_at m i) ≡ true = sym (estimated i low high) ∙ e in
      let on : start_of m k + (i - start_of m k) ≡ i = omega arith in
      ap (λ n. is_some (P n)) (sym on) ∙ all_weighed P (start_of m k) (states_in m k) ok.weighed (i - start_of m k) (omega (arith, long_states m k P room)) (ap is_open (state_at_lem m k P room i low high) ∙ o)

  kept_settled : Kept (with_used w (λ j. cond (eqb k j) (Some P) (w.used j))) (settled k P m)
  kept_settled =
      kept_estimated w m kept ok.paid k P known (λ j. cond (eqb k j) (Some P) (w.used j))
      (λ j apart. cond-false (eqb k j) (Some P) (w.used j) (ne_eqb k j (λ e. apart (sym e))))
      ok.unposted
      (settled k P m).values
      (long_settled m k P room ∙ kept.values_long)
      (value_out m k P room)
      (λ i low high closed. value_in m k P room i low high ∙ cond-false (is_open (state_at m i)) (share_at m k P i) (entry_at m i) closed)
      (λ _. record {
        adds = adds;
        profile = P;
        last = cond-true (eqb k k) (Some P) (w.used k) (eq-eqb k k refl);
        weighed = λ i low high. weighed_at i low (omega arith);
        shared = λ i low high. near i low (omega arith);
      })

pub kept_settlement : (w : Words) (m : Model) (k : ℕ) (P : Weighing) → Kept w m → refusal (settlement k P) m ≡ None → Kept (with_used w (λ j. cond (eqb k j) (Some P) (w.used j))) (settled k P m)
kept_settlement w m k P kept e = kept_settled w m k P kept (settles m k P e)
