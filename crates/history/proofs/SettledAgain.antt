-- A settled region, withdrawn and settled again.
use Rattle.std.proofs.Common.{◌≡◌, ℕ, suc, ◌+◌, ◌-◌, ◌<◌, ◌≤◌, Bool, true, false, cond, not, ltb, ◌⊎◌, List, [], ◌∷◌, length, get_or, None, sum, Option, sym, refl, ap, ◌∙◌, subst, inl, inr, ⊎_elim, arith}
use Rattle.std.proofs.lemmas.List.{ext_get_or}
use Rattle.std.proofs.lemmas.Bool.{both_ways, cases_Bool, cond-true, cond-false, lt-leb}
use Rattle.fault.specs.declared.refusal.Refusal.TheVariants.{BookPosted, RuleStillOwing, PlacesOrRegionUnfit, NothingToChange, MeasuredAboveAdvance, PlaceWithoutWeight, TotalWeightZero}
use Rattle.readings.specs.Regions.{inner, region_count}
use Rattle.sharing.specs.declared.state.State.{State}
use Rattle.sharing.specs.declared.state.Status.{Status}
use Rattle.sharing.specs.declared.state.Status.TheVariants.{Raw, Measured, Verified, Open, Estimated}
use Rattle.sharing.specs.Shares.{shares}
use Rattle.sharing.specs.Weights.{is_open, open_status, weights, weight_of, unweighted, or_else}
use Rattle.history.specs.Answers.{done, answer_by, after_by, answer, after, refusal, when, at, first, owes, no_region}
use Rattle.history.specs.Calls.{settlement, withdrawal, Weighing, amount_of, estimated_by, reopened, settled, states_in, weights_in, withdrawn, changed_to}
use Rattle.history.specs.History.{History, Of, accepted}
use Rattle.history.specs.Model.{Model, raw_state, state_at, status_at, entry_at, is_estimated, is_measured, start_of, end_of, length_of, advance_of, measured_of, some_in, pulses_at}
use Rattle.history.specs.Sanity.{Resettled, SettledAgain}
use Rattle.history.proofs.Kept.{Words, words_of, Kept}
use Rattle.history.proofs.Changed.{Roomy, inner_below, roomy}
use Rattle.history.proofs.SettledPlaces.{shares_in, length_part, get_or-part, share_at, long_settled, value_in, value_out}
use Rattle.history.proofs.Settles.{unborne, Settles, passed_by, settles}
use Rattle.history.proofs.Stretches.{anywhere_no, length-rewritten, get_or-rewritten, get_or_rewritten_before, get_or_rewritten_behind, in_or_out, total_ext, anywhere_ext}

-- a place that was no estimate, once it is settled and then withdrawn
record Returns (answer : Option (ℕ × ℕ)) (s : State) : Type 0 where
  estimated : is_estimated (estimated_by answer s).status ≡ is_open s
  opens : is_open (reopened (estimated_by answer s)) ≡ is_open s
  measures : is_measured (reopened (estimated_by answer s)).status ≡ is_measured s.status
  again : estimated_by answer (reopened (estimated_by answer s)) ≡ estimated_by answer s

returning : (answer : Option (ℕ × ℕ)) (st : Status) (marks code : ℕ) → is_estimated st ≡ false → Returns answer (record { status = st; marks = marks; code = code })
returning answer Raw marks code e = record { estimated = refl; opens = refl; measures = refl; again = refl }
returning answer Measured marks code e = record { estimated = refl; opens = refl; measures = refl; again = refl }
returning answer Verified marks code e = record { estimated = refl; opens = refl; measures = refl; again = refl }
returning answer Open marks code e = record { estimated = refl; opens = refl; measures = refl; again = refl }
returning answer Estimated marks code e = let z : ◌≡◌ {A = ℕ} 0 1 = cc in absurd (omega arith)

-- weights go by what is open, and by nothing else of a place
same_weighed : (P : Weighing) (i : ℕ) (ss ts : List State) → length ss ≡ length ts → ((j : ℕ) → j < length ss → is_open (get_or ss j raw_state) ≡ is_open (get_or ts j raw_state)) → (weights P i ss ≡ weights P i ts) × (unweighted P i ss ≡ unweighted P i ts)
same_weighed P i [] [] long h = (refl, refl)
same_weighed P i [] (t ∷ ts) long h = absurd (omega arith)
same_weighed P i (s ∷ ss) [] long h = absurd (omega arith)
same_weighed P i (s ∷ ss) (t ∷ ts) long h =
    let here : is_open s ≡ is_open t = h 0 (omega arith) in
    let more = same_weighed P (i + 1) ss ts (omega arith) (λ j low. h (suc j) (omega arith)) in
    ((λ j. cond (here j) (weight_of (P i)) 0 ∷ more.0 j), (λ j. cond (here j) (or_else (P i) i (more.1 j)) (more.1 j)))

module _ (m : Model) (k : ℕ) (P : Weighing) (room : Roomy m k) (fresh : (i : ℕ) → start_of m k ≤ i → i < end_of m k → is_estimated (status_at m i) ≡ false) where
  -- settled, withdrawn, settled again
  abbrev one : Model
  one = settled k P m

  abbrev two : Model
  two = withdrawn k one

  abbrev three : Model
  three = settled k P two

  fits_states : start_of m k + length_of m k ≤ length m.states
  fits_states = omega (arith, room.forward, room.states)

  fits_values : start_of m k + length_of m k ≤ length m.values
  fits_values = omega (arith, room.forward, room.values)

  one_states : length one.states ≡ length m.states
  one_states = length-rewritten (start_of m k) (length_of m k) (λ i. estimated_by (P i) (state_at m i)) m.states fits_states

  one_values : length one.values ≡ length m.values
  one_values = long_settled m k P room

  fits_one_states : start_of m k + length_of m k ≤ length one.states
  fits_one_states = omega (arith, fits_states, one_states)

  fits_one_values : start_of m k + length_of m k ≤ length one.values
  fits_one_values = omega (arith, fits_values, one_values)

  two_states : length two.states ≡ length one.states
  two_states = length-rewritten (start_of m k) (length_of m k) (λ i. reopened (state_at one i)) one.states fits_one_states

  two_values : length two.values ≡ length one.values
  two_values = length-rewritten (start_of m k) (length_of m k) (λ i. cond (is_estimated (status_at one i)) 0 (entry_at one i)) one.values fits_one_values

  room_two : Roomy two k
  room_two = record { forward = room.forward; states = omega (arith, room.states, one_states, two_states); values = omega (arith, room.values, one_values, two_values) }

  fits_two_states : start_of m k + length_of m k ≤ length two.states
  fits_two_states = omega (arith, fits_one_states, two_states)

  module _ (i : ℕ) (low : start_of m k ≤ i) (high : i < end_of m k) where
    high' : i < start_of m k + length_of m k
    high' = omega arith

    returns : Returns (P i) (state_at m i)
    returns = returning (P i) (status_at m i) (state_at m i).marks (state_at m i).code (fresh i low high)

    state_one : state_at one i ≡ estimated_by (P i) (state_at m i)
    state_one = get_or-rewritten (start_of m k) (length_of m k) (λ j. estimated_by (P j) (state_at m j)) m.states fits_states i raw_state low high'

    state_two : state_at two i ≡ reopened (estimated_by (P i) (state_at m i))
    state_two = get_or-rewritten (start_of m k) (length_of m k) (λ j. reopened (state_at one j)) one.states fits_one_states i raw_state low high' ∙ ap reopened state_one

    state_three : state_at three i ≡ state_at one i
    state_three =
        get_or-rewritten (start_of m k) (length_of m k) (λ j. estimated_by (P j) (state_at two j)) two.states fits_two_states i raw_state low high'
        ∙ ap (estimated_by (P i)) state_two ∙ returns.again ∙ sym state_one

    pub estimated_one : is_estimated (status_at one i) ≡ is_open (state_at m i)
    estimated_one = ap (λ s. is_estimated s.status) state_one ∙ returns.estimated

    pub open_two : is_open (state_at two i) ≡ is_open (state_at m i)
    open_two = ap is_open state_two ∙ returns.opens

    measured_two : is_measured (status_at two i) ≡ is_measured (status_at m i)
    measured_two = ap (λ s. is_measured s.status) state_two ∙ returns.measures

    entry_two : entry_at two i ≡ cond (is_open (state_at m i)) 0 (entry_at one i)
    entry_two =
        get_or-rewritten (start_of m k) (length_of m k) (λ j. cond (is_estimated (status_at one j)) 0 (entry_at one j)) one.values fits_one_values i 0 low high'
        ∙ ap (λ e. cond e 0 (entry_at one i)) estimated_one

  states_out : (i : ℕ) → (i < start_of m k) ⊎ (start_of m k + length_of m k ≤ i) → state_at three i ≡ state_at one i
  states_out i out = ⊎_elim
      (λ l. get_or_rewritten_before (start_of m k) (length_of m k) (λ j. estimated_by (P j) (state_at two j)) two.states fits_two_states i raw_state l ∙ get_or_rewritten_before (start_of m k) (length_of m k) (λ j. reopened (state_at one j)) one.states fits_one_states i raw_state l)
      (λ l. get_or_rewritten_behind (start_of m k) (length_of m k) (λ j. estimated_by (P j) (state_at two j)) two.states fits_two_states i raw_state l ∙ get_or_rewritten_behind (start_of m k) (length_of m k) (λ j. reopened (state_at one j)) one.states fits_one_states i raw_state l)
      out

  three_states : length three.states ≡ length one.states
  three_states = length-rewritten (start_of m k) (length_of m k) (λ j. estimated_by (P j) (state_at two j)) two.states fits_two_states ∙ two_states

  same_states : three.states ≡ one.states
  same_states = ext_get_or raw_state three.states one.states three_states (λ i within. ⊎_elim (λ inside. state_three i inside.0 (omega (arith, inside.1))) (states_out i) (in_or_out (start_of m k) (length_of m k) i))

  pub measured_same : measured_of two k ≡ measured_of m k
  measured_same = total_ext (λ i. cond (is_measured (status_at two i)) (pulses_at two i) 0) (λ i. cond (is_measured (status_at m i)) (pulses_at m i) 0) (start_of m k) (length_of m k) (λ i low high. ap (λ b. cond b (pulses_at m i) 0) (measured_two i low (omega arith)))

  weighed_same : (weights_in two k P ≡ weights_in m k P) × (unweighted P (start_of m k) (states_in two k) ≡ unweighted P (start_of m k) (states_in m k))
  weighed_same = same_weighed P (start_of m k) (states_in two k) (states_in m k) (long_two ∙ sym long_m) open_at
    where
      long_two : length (states_in two k) ≡ end_of m k - start_of m k
      long_two = length_part (start_of m k) (end_of m k) two.states room_two.states

      long_m : length (states_in m k) ≡ end_of m k - start_of m k
      long_m = length_part (start_of m k) (end_of m k) m.states room.states

      open_at : (j : ℕ) → j < length (states_in two k) → is_open (get_or (states_in two k) j raw_state) ≡ is_open (get_or (states_in m k) j raw_state)
      open_at j low =
          let high : start_of m k + j < end_of m k = omega (arith, long_two) in
          let back : start_of m k + j - start_of m k ≡ j = omega arith in
          let first : start_of m k ≤ start_of m k + j = omega arith in
          ap (λ l. is_open (get_or (states_in two k) l raw_state)) (sym back)
          ∙ ap is_open (get_or-part (start_of m k) (end_of m k) two.states raw_state (start_of m k + j) first (omega arith))
          ∙ open_two (start_of m k + j) first high
          ∙ sym (ap is_open (get_or-part (start_of m k) (end_of m k) m.states raw_state (start_of m k + j) first (omega arith)))
          ∙ ap (λ l. is_open (get_or (states_in m k) l raw_state)) back

  amount_same : amount_of two k ≡ amount_of m k
  amount_same = ap (λ n. advance_of m k - n) measured_same

  shares_same : shares_in two k P ≡ shares_in m k P
  shares_same = λ j. shares (amount_same j) (sum (weighed_same.0 j)) 0 (weighed_same.0 j)

  same_in : (i : ℕ) → start_of m k ≤ i → i < end_of m k → entry_at three i ≡ entry_at one i
  same_in i low high =
      value_in two k P room_two i low (omega (arith, room.forward))
      ∙ (λ j. cond (open_two i low high j) (get_or (shares_same j) (i - start_of m k) 0) (entry_two i low high j))
      ∙ by_open (is_open (state_at m i)) refl
    where
      share : ℕ
      share = share_at m k P i

      by_open : (o : Bool) → is_open (state_at m i) ≡ o → cond (is_open (state_at m i)) share (cond (is_open (state_at m i)) 0 (entry_at one i)) ≡ entry_at one i
      by_open true e = cond-true _ share (cond (is_open (state_at m i)) 0 (entry_at one i)) e ∙ sym (value_in m k P room i low (omega (arith, room.forward)) ∙ cond-true _ share (entry_at m i) e)
      by_open false e = cond-false _ share (cond (is_open (state_at m i)) 0 (entry_at one i)) e ∙ cond-false _ 0 (entry_at one i) e

  same_out : (i : ℕ) → (i < start_of m k) ⊎ (start_of m k + length_of m k ≤ i) → entry_at three i ≡ entry_at one i
  same_out i out = ⊎_elim
      (λ l. value_out two k P room_two i (inl l) ∙ get_or_rewritten_before (start_of m k) (length_of m k) (λ j. cond (is_estimated (status_at one j)) 0 (entry_at one j)) one.values fits_one_values i 0 l)
      (λ l. value_out two k P room_two i (inr l) ∙ get_or_rewritten_behind (start_of m k) (length_of m k) (λ j. cond (is_estimated (status_at one j)) 0 (entry_at one j)) one.values fits_one_values i 0 l)
      out

  same_values : three.values ≡ one.values
  same_values = ext_get_or 0 three.values one.values (long_settled two k P room_two ∙ two_values) (λ i within. ⊎_elim (λ inside. same_in i inside.0 (omega (arith, inside.1))) (same_out i) (in_or_out (start_of m k) (length_of m k) i))

  pub same_book : three ≡ one
  same_book = λ j. changed_to (same_states j) (same_values j) m

  -- what is open now is estimated after a settlement, and open again after a withdrawal
  some_estimated : some_in one k is_estimated ≡ some_in m k open_status
  some_estimated = anywhere_ext (λ i. is_estimated (status_at one i)) (λ i. is_open (state_at m i)) (start_of m k) (length_of m k) (λ i low high. estimated_one i low (omega arith))

  some_open : some_in two k open_status ≡ some_in m k open_status
  some_open = anywhere_ext (λ i. is_open (state_at two i)) (λ i. is_open (state_at m i)) (start_of m k) (length_of m k) (λ i low high. open_two i low (omega arith))

  passes_again : refusal (settlement k P) two ≡ refusal (settlement k P) m
  passes_again = λ j. first (
      when BookPosted m.posted
      ∷ when RuleStillOwing (owes m)
      ∷ when PlacesOrRegionUnfit (not (inner m.readings k))
      ∷ when NothingToChange (not (some_open j))
      ∷ when MeasuredAboveAdvance (ltb (advance_of m k) (measured_same j))
      ∷ at PlaceWithoutWeight (weighed_same.1 j)
      ∷ when TotalWeightZero (unborne (amount_same j) (sum (weighed_same.0 j)))
      ∷ [])

  known : inner m.readings k ≡ true → no_region m k ≡ false
  known e = lt-leb (region_count m.readings) k (omega (arith, inner_below m.readings k e))

  withdrawable : Settles m k P → refusal (withdrawal k) one ≡ None
  withdrawable s = rw (s.unposted, s.paid, known s.is_region_inner, some_estimated, s.some_open)

  resettled : refusal (settlement k P) m ≡ None → Resettled k P one
  resettled e =
      let w = withdrawable (settles m k P e) in
      let again = passes_again ∙ e in
      record {
        withdrawn = ap (λ o. answer_by o done) w;
        settled = ap (λ o. answer (settlement k P) (after_by o two one)) w ∙ ap (λ o. answer_by o done) again;
        same = ap (λ o. after (settlement k P) (after_by o two one)) w ∙ ap (λ o. after_by o three two) again ∙ same_book;
      }

-- A region with an estimate has no open place, so before an accepted settlement there was no estimate.
pub kept_resettled : (w : Words) (m : Model) (k : ℕ) (P : Weighing) → Kept w m → accepted (answer (settlement k P) m) ≡ true → Resettled k P (after (settlement k P) m)
kept_resettled w m k P kept ok = subst (λ o. Resettled k P (after_by o (settled k P m) m)) (sym e) (resettled m k P room fresh e)
  where
    e : refusal (settlement k P) m ≡ None
    e = passed_by (refusal (settlement k P) m) done ok

    s : Settles m k P
    s = settles m k P e

    room : Roomy m k
    room = roomy w m kept k

    listed : k < region_count m.readings
    listed = inner_below m.readings k s.is_region_inner

    none : some_in m k is_estimated ≡ false
    none = ⊎_elim (λ yes. absurd (both_ways (some_in m k open_status) (kept.whole k listed yes) s.some_open)) (λ no. no) (cases_Bool (some_in m k is_estimated))

    fresh : (i : ℕ) → start_of m k ≤ i → i < end_of m k → is_estimated (status_at m i) ≡ false
    fresh i low high = anywhere_no (λ j. is_estimated (status_at m j)) (start_of m k) (length_of m k) none i low (omega (arith, room.forward))

pub settled_again : ((h : History) (m : Model) → Of h m → Kept (words_of h) m) → SettledAgain
settled_again kept h m k P run = kept_resettled (words_of h) m k P (kept h m run)
