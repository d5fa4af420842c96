-- What every history keeps true of its book gives the law of runs.
use Rattle.std.proofs.Common.{◌≡◌, ℕ, zero, suc, ◌+◌, ◌-◌, ◌*◌, ◌<◌, ◌≤◌, true, false, cond, not, ◌&&◌, ltb, ◌⊎◌, List, length, is_some, Some, unwrap_or, sym, refl, ap, ◌∙◌, subst, inl, inr, ⊎_elim, arith}
use Rattle.std.proofs.lemmas.Bool.{cases_Bool, both_ways, and_from, ltb-false, lt-ltb, cond-true, cond-false, not_from_false}
use Rattle.std.specs.Int.{abs_diff}
use Rattle.intervals.specs.declared.interval.Interval.{Interval}
use Rattle.intervals.specs.Conditions.{sound}
use Rattle.readings.specs.declared.reading.Reading.{Reading}
use Rattle.readings.specs.Regions.{region_count, region_start, region_end, inner, advance, allowed_units}
use Rattle.readings.proofs.Covering.{regions_ordered}
use Rattle.sharing.specs.declared.state.Status.{Status}
use Rattle.sharing.specs.declared.state.Status.TheVariants.{Raw, Measured, Verified, Open, Estimated}
use Rattle.sharing.specs.Laws.{Near}
use Rattle.sharing.specs.Weights.{weight_of, open_status}
use Rattle.history.specs.Answers.{owes}
use Rattle.history.specs.History.{History, delivered_at, was_posted}
use Rattle.history.specs.Law.{Law, Settled, Posted, is_inner, has_estimate, estimated_in, value}
use Rattle.history.specs.Model.{Opening, Model, places_of, places, pulses_at, sound_at, state_at, status_at, entry_at, value_of, value_at, is_measured, is_estimated, start_of, end_of, length_of, advance_of, allowed_of, some_in, values_of}
use Rattle.history.specs.Stretches.{total, any_where}
use Rattle.history.proofs.Changed.{inner_below, region_end_lem, region_inside}
use Rattle.history.proofs.Changed.{estimated_doubtful}
use Rattle.history.proofs.Kept.{Words, words_of, shared_amount, shared_weight, Doubtful, SettledIn, PostedIn, Kept}
use Rattle.history.proofs.Stretches.{total_ext, total_le, total_plus, anywhere_no, no_anywhere}
use Rattle.history.proofs.Telescope.{Forward, over_stretch, telescope}

-- Statuses

measured_value : (st : Status) (v : ℕ) → is_measured st ≡ true → value_of st v ≡ Some v
measured_value Raw v e = absurd (both_ways false refl e)
measured_value Measured v e = refl
measured_value Verified v e = refl
measured_value Open v e = absurd (both_ways false refl e)
measured_value Estimated v e = absurd (both_ways false refl e)

-- once no place is raw, the sheet has every place's value, and 0 where there is none
value_entry : (st : Status) (v : ℕ) → (st ≡ Raw → ⊥) → (open_status st ≡ true → v ≡ 0) → unwrap_or (value_of st v) 0 ≡ v
value_entry Raw v judged empty = absurd (judged refl)
value_entry Measured v judged empty = refl
value_entry Verified v judged empty = refl
value_entry Open v judged empty = sym (empty refl)
value_entry Estimated v judged empty = refl

some_value : (st : Status) (v : ℕ) → (st ≡ Raw → ⊥) → open_status st ≡ false → is_some (value_of st v) ≡ true
some_value Raw v judged closed = absurd (judged refl)
some_value Measured v judged closed = refl
some_value Verified v judged closed = refl
some_value Open v judged closed = absurd (both_ways true closed refl)
some_value Estimated v judged closed = refl

-- The law's words with opening, readings and deliveries left open, so that those of the book and those of the history
-- can both be put in.

abbrev length_by : Opening → List Reading → ℕ → ℕ
length_by o rs k = region_end (places_of o) rs k - region_start rs k

abbrev total_by : Opening → List Reading → (ℕ → ℕ) → ℕ → ℕ
total_by o rs f k = total f (region_start rs k) (length_by o rs k)

-- the advance of a region and the pulses by which its values may differ from that, of an opening and readings
abbrev advance_by : Opening → List Reading → ℕ → ℕ
advance_by o rs k = advance o.dials rs k * o.pulses_per_unit

abbrev allowed_by : Opening → List Reading → ℕ → ℕ
allowed_by o rs k = allowed_units rs k * o.pulses_per_unit

abbrev amount_by : Opening → List Reading → (ℕ → Interval) → Model → ℕ → ℕ
amount_by o rs held m k = advance_by o rs k - total_by o rs (λ i. cond (estimated_in m i) 0 (held i).pulses) k

abbrev slack_by : Opening → List Reading → Model → ℕ → ℕ
slack_by o rs m k = cond (any_where (estimated_in m) (region_start rs k) (length_by o rs k)) 0 (allowed_by o rs k)

abbrev over_inner_by : List Reading → (ℕ → ℕ) → ℕ
over_inner_by rs f = total f 1 (length rs - 1)

abbrev between_by : List Reading → Model → ℕ
between_by rs m = total (value m) (region_start rs 1) (region_start rs (length rs) - region_start rs 1)

-- a and b are no more than c apart
abbrev CloseTo : ℕ → ℕ → ℕ → Type 0
CloseTo a b c = (a ≤ b + c) × (b ≤ a + c)

module _ (w : Words) (m : Model) (kept : Kept w m) where
  -- what holds of the book's opening and readings holds of the history's
  along : (P : Opening → List Reading → Type 0) → P m.opening m.readings → P w.opening w.readings
  along P p = subst (P w.opening) kept.readings (subst (λ o. P o m.readings) kept.opening p)

  back : (P : Opening → List Reading → Type 0) → P w.opening w.readings → P m.opening m.readings
  back P p = subst (λ o. P o m.readings) (sym kept.opening) (subst (P w.opening) (sym kept.readings) p)

  in_cycle_lem : (i : ℕ) → i < places_of w.opening → i < places m
  in_cycle_lem i = back (λ o rs. i < places_of o)

  region_in_cycle : (k i : ℕ) → start_of m k ≤ i → i < start_of m k + length_of m k → i < places m
  region_in_cycle k i low high = omega (arith, region_end_lem w m kept k, region_inside w m kept k)

  -- Measured

  counted : (i : ℕ) → i < places m → is_measured (status_at m i) ≡ true → value_at m i ≡ Some (w.delivered i).pulses
  counted i low e = measured_value (status_at m i) (entry_at m i) e ∙ ap Some (kept.counted i low e ∙ ap (λ x. x.pulses) (kept.held i low))

  pub same_sound : (i : ℕ) → i < places m → sound (w.delivered i).condition ≡ sound_at m i
  same_sound i low = ap (λ x. sound x.condition) (sym (kept.held i low))

  pub doubted : (i : ℕ) → i < places m → Doubtful (sound_at m i) (state_at m i).marks → (sound (w.delivered i).condition ≡ false) ⊎ w.questioned i
  doubted i low = ⊎_elim (λ unsound. inl (same_sound i low ∙ unsound)) (λ marked. inr (kept.marks i low marked))

  doubtful : (i : ℕ) → i < places m → estimated_in m i ≡ true → (sound (w.delivered i).condition ≡ false) ⊎ w.questioned i
  doubtful i low e = doubted i low (estimated_doubtful (status_at m i) (sound_at m i) (state_at m i).marks e (kept.grounds i low))

  -- Settled

  -- a region with an estimate is not raw, so no rule is owing
  paid : (k : ℕ) → some_in m k is_estimated ≡ true → owes m ≡ false
  paid k some =
      ⊎_elim
      (λ owing. absurd (both_ways (some_in m k is_estimated) (no_anywhere (λ i. is_estimated (status_at m i)) (start_of m k) (length_of m k) (λ i low high. ap is_estimated (kept.raw owing i (region_in_cycle k i low high)))) some))
      (λ none. none)
      (cases_Bool (owes m))

  entry : owes m ≡ false → (i : ℕ) → i < places m → value m i ≡ entry_at m i
  entry none i low = value_entry (status_at m i) (entry_at m i) (kept.judged none i low) (kept.empty i low)

  region_values : owes m ≡ false → (k : ℕ) → total_by m.opening m.readings (value m) k ≡ values_of m k
  region_values none k = total_ext (value m) (entry_at m) (start_of m k) (length_of m k) (λ i low high. entry none i (region_in_cycle k i low high))

  shared_amount_lem : (k : ℕ) → shared_amount m k ≡ amount_by m.opening m.readings w.delivered m k
  shared_amount_lem k =
      ap (λ t. advance_of m k - t)
      (total_ext (λ i. cond (estimated_in m i) 0 (pulses_at m i)) (λ i. cond (estimated_in m i) 0 (w.delivered i).pulses) (start_of m k) (length_of m k)
      (λ i low high. ap (λ x. cond (estimated_in m i) 0 x.pulses) (kept.held i (region_in_cycle k i low high))))

  whole : (k : ℕ) → inner m.readings k ≡ true → some_in m k is_estimated ≡ true → (i : ℕ) → start_of m k ≤ i → i < end_of m k → open_status (status_at m i) ≡ false
  whole k within some i low high = anywhere_no (λ j. open_status (status_at m j)) (start_of m k) (length_of m k) (kept.whole k (inner_below m.readings k within) some) i low (omega arith)

  shared : (k : ℕ) → owes m ≡ false → (was : SettledIn w m k) → (i : ℕ) → start_of m k ≤ i → i < end_of m k → estimated_in m i ≡ true → Near (amount_by m.opening m.readings w.delivered m k) (shared_weight m k was.profile) (weight_of (was.profile i)) (value m i)
  shared k none was i low high e =
      let weight = shared_weight m k was.profile in
      let share = weight_of (was.profile i) in
      subst (λ v. Near (amount_by m.opening m.readings w.delivered m k) weight share v) (sym (entry none i (region_in_cycle k i low (omega arith))))
      (subst (λ a. Near a weight share (entry_at m i)) (shared_amount_lem k) (was.shared i low high e))

  -- Posted

  complete : PostedIn m → (i : ℕ) → i < places m → is_some (value_at m i) ≡ true
  complete posted i low = some_value (status_at m i) (entry_at m i) (kept.judged posted.paid i low) (posted.complete i low)

  -- the regions between the first reading and the last
  between : (k : ℕ) → 1 ≤ k → k < 1 + (length m.readings - 1) → inner m.readings k ≡ true
  between k low high = and_from (ltb 0 k) (ltb k (length m.readings)) (lt-ltb 0 k low) (lt-ltb k (length m.readings) (omega arith))

  next : (k : ℕ) → k < length m.readings → end_of m k ≡ start_of m (k + 1)
  next k = (regions_ordered (places m) m.readings k kept.rising kept.within).joined

  starts_forward : Forward (start_of m) 1 (length m.readings - 1)
  starts_forward k low high = omega (arith, next k (omega arith), (regions_ordered (places m) m.readings k kept.rising kept.within).forward)

  -- with no reading at all both are empty
  last_start : (r : ℕ) → start_of m (1 + (r - 1)) - start_of m 1 ≡ start_of m r - start_of m 1
  last_start zero = omega arith
  last_start (suc r) = ap (λ k. start_of m k - start_of m 1) (let e : 1 + (suc r - 1) ≡ suc r = omega arith in e)

  region_by_region : between_by m.readings m ≡ over_inner_by m.readings (total_by m.opening m.readings (value m))
  region_by_region =
      ap (total (value m) (start_of m 1)) (sym (last_start (length m.readings)))
      ∙ sym (telescope (value m) (start_of m) 1 (length m.readings - 1) starts_forward)
      ∙ total_ext (over_stretch (value m) (start_of m)) (total_by m.opening m.readings (value m)) 1 (length m.readings - 1)
      (λ k low high. ap (λ e. total (value m) (start_of m k) (e - start_of m k)) (sym (next k (omega arith))))

  -- with an estimate the values of a region are its advance, else they lie within what is allowed
  region_close : PostedIn m → (k : ℕ) → inner m.readings k ≡ true → CloseTo (total_by m.opening m.readings (value m) k) (advance_of m k) (slack_by m.opening m.readings m k)
  region_close posted k within =
      let same = region_values posted.paid k in
      let known : k < region_count m.readings = inner_below m.readings k within in
      let est = some_in m k is_estimated in
      ⊎_elim
      (λ some.
      let none : slack_by m.opening m.readings m k ≡ 0 = cond-true est 0 (allowed_of m k) some in
      let exact = (kept.settled k within some).adds in
      (omega arith, omega arith))
      (λ no-est.
      let all : slack_by m.opening m.readings m k ≡ allowed_of m k = cond-false est 0 (allowed_of m k) no-est in
      let here : (inner m.readings k && not est) ≡ true = and_from (inner m.readings k) (not est) within (not_from_false est no-est) in
      let far : ltb (allowed_of m k) (abs_diff (values_of m k) (advance_of m k)) ≡ false = sym (ap (λ b. b && ltb (allowed_of m k) (abs_diff (values_of m k) (advance_of m k))) here) ∙ posted.balanced k known in
      let near = ltb-false (allowed_of m k) (abs_diff (values_of m k) (advance_of m k)) far in
      (omega arith, omega arith))
      (cases_Bool est)

  close : PostedIn m → CloseTo (between_by m.readings m) (over_inner_by m.readings (advance_of m)) (over_inner_by m.readings (slack_by m.opening m.readings m))
  close posted =
      let V = total_by m.opening m.readings (value m) in
      let A = advance_of m in
      let S = slack_by m.opening m.readings m in
      let n = length m.readings - 1 in
      let each : (k : ℕ) → 1 ≤ k → k < 1 + n → CloseTo (V k) (A k) (S k) = λ k low high. region_close posted k (between k low high) in
      let above : total V 1 n ≤ total (λ k. A k + S k) 1 n = total_le V (λ k. A k + S k) 1 n (λ k low high. (each k low high).0) in
      let below : total A 1 n ≤ total (λ k. V k + S k) 1 n = total_le A (λ k. V k + S k) 1 n (λ k low high. (each k low high).1) in
      (omega (arith, region_by_region, total_plus A S 1 n, above), omega (arith, region_by_region, total_plus V S 1 n, below))

-- in the words of a history
module _ (h : History) (m : Model) (kept : Kept (words_of h) m) where
  settled : (k : ℕ) → is_inner h k ≡ true → has_estimate h m k ≡ true → Settled h m k
  settled k inside estimate =
      let w = words_of h in
      let within = back w m kept (λ o rs. inner rs k ≡ true) inside in
      let some = back w m kept (λ o rs. any_where (estimated_in m) (region_start rs k) (length_by o rs k) ≡ true) estimate in
      let none = paid w m kept k some in
      let was = kept.settled k within some in
      record {
        whole = along w m kept (λ o rs. (i : ℕ) → region_start rs k ≤ i → i < region_end (places_of o) rs k → open_status (status_at m i) ≡ false) (whole w m kept k within some);
        adds = along w m kept (λ o rs. total_by o rs (value m) k ≡ advance_by o rs k) (region_values w m kept none k ∙ was.adds);
        profile = was.profile;
        last = was.last;
        weighed = along w m kept (λ o rs. (i : ℕ) → region_start rs k ≤ i → i < region_end (places_of o) rs k → estimated_in m i ≡ true → is_some (was.profile i) ≡ true) was.weighed;
        shared = along w m kept (λ o rs. (i : ℕ) → region_start rs k ≤ i → i < region_end (places_of o) rs k → estimated_in m i ≡ true → Near (amount_by o rs (delivered_at h) m k) (total_by o rs (λ j. cond (estimated_in m j) (weight_of (was.profile j)) 0) k) (weight_of (was.profile i)) (value m i)) (shared w m kept k none was);
      }

  posted : was_posted h ≡ true → Posted h m
  posted e =
      let w = words_of h in
      let was = kept.closed (kept.posting ∙ e) in
      let bound = along w m kept (λ o rs. CloseTo (between_by rs m) (over_inner_by rs (advance_by o rs)) (over_inner_by rs (slack_by o rs m))) (close w m kept was) in
      record {
        complete = λ i low. complete w m kept was i (in_cycle_lem w m kept i low);
        above = bound.0;
        below = bound.1;
      }

  pub kept_law : Law h m
  kept_law = record {
    measured = record {
      counted = λ i low. counted (words_of h) m kept i (in_cycle_lem (words_of h) m kept i low);
      doubtful = λ i low. doubtful (words_of h) m kept i (in_cycle_lem (words_of h) m kept i low);
    };
    settled = settled;
    posted = posted;
  }
