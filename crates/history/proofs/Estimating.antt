-- The open places of a region become estimated, whatever value they get.
use Rattle.std.proofs.Common.{◌≡◌, ℕ, ◌+◌, ◌<◌, ◌≤◌, Bool, true, false, cond, not, ◌⊎◌, List, length, get_or, Option, sym, refl, ap, ◌∙◌, subst, ⊎_elim, arith}
use Rattle.std.proofs.lemmas.Bool.{cases_Bool, both_ways, cond-true, cond-false, true≢false}
use Rattle.readings.specs.Regions.{inner, region_count}
use Rattle.sharing.specs.declared.state.State.{State}
use Rattle.sharing.specs.declared.state.Status.{Status}
use Rattle.sharing.specs.declared.state.Status.TheVariants.{Raw, Measured, Verified, Open, Estimated}
use Rattle.sharing.specs.Weights.{is_open, open_status}
use Rattle.history.specs.Answers.{owes}
use Rattle.history.specs.Calls.{Weighing, changed_to, code_of, with_status, estimated_by, estimated_states}
use Rattle.history.specs.Model.{Model, places, sound_at, state_at, status_at, entry_at, is_measured, is_estimated, raw_state, start_of, length_of, some_in}
use Rattle.history.proofs.Changed.{with_used, Turned, stays, open_doubtful, region_end_lem, region_inside, kept_region}
use Rattle.history.proofs.Kept.{Words, Kept, SettledIn}
use Rattle.history.proofs.Stretches.{length-rewritten, get_or-rewritten, get_or_rewritten_before, get_or_rewritten_behind, in_or_out, anywhere_no, no_anywhere}

-- a place that is neither raw nor estimated is open or measured
pub open_or_measured : (s : Status) → (s ≡ Raw → ⊥) → is_estimated s ≡ false → is_measured s ≡ not (open_status s)
open_or_measured Raw h e = absurd (h refl)
open_or_measured Measured h e = refl
open_or_measured Verified h e = refl
open_or_measured Open h e = refl
open_or_measured Estimated h e = absurd (true≢false e)

-- where nothing was estimated, the estimates stand exactly where a place was open, and no place is open any more
pub estimated_where_open : (a : Option (ℕ × ℕ)) (s : State) → is_estimated s.status ≡ false → is_estimated (estimated_by a s).status ≡ is_open s
estimated_where_open a s none = by (is_open s)
  where
    by : (b : Bool) → is_estimated (cond b (with_status Estimated (code_of a) s) s).status ≡ b
    by true = refl
    by false = none

pub open_no_more : (a : Option (ℕ × ℕ)) (s : State) → open_status (estimated_by a s).status ≡ false
open_no_more a s = by (is_open s) refl
  where
    by : (b : Bool) → is_open s ≡ b → open_status (cond b (with_status Estimated (code_of a) s) s).status ≡ false
    by true e = refl
    by false e = e

module _ (w : Words) (m : Model) (kept : Kept w m) (paid : owes m ≡ false) where
  -- an open place may have any value once it is estimated, any other stays
  pub turns_estimated : (i : ℕ) → i < places m → (a : Option (ℕ × ℕ)) (s : State) (v : ℕ) → s ≡ estimated_by a (state_at m i) → (is_open (state_at m i) ≡ false → v ≡ entry_at m i) → Turned m i s v
  turns_estimated i within a s v es ev = ⊎_elim
      (λ o. subst (λ t. Turned m i t v) (sym (es ∙ cond-true (is_open (state_at m i)) _ _ o)) (estimated o))
      (λ o. stays w m kept paid i within s v (es ∙ cond-false (is_open (state_at m i)) _ _ o) (ev o))
      (cases_Bool (is_open (state_at m i)))
    where
      estimated : is_open (state_at m i) ≡ true → Turned m i (with_status Estimated (code_of a) (state_at m i)) v
      estimated o = record {
        marks = refl;
        not_raw = λ e. let z : ◌≡◌ {A = ℕ} 0 1 = cc in omega arith;
        counted = λ e. absurd (both_ways false refl e);
        empty = λ e. absurd (both_ways false refl e);
        grounds = open_doubtful (status_at m i) (sound_at m i) (state_at m i).marks o (kept.grounds i within);
      }

  module _ (k : ℕ) (P : Weighing) (known : k < region_count m.readings) where
    fits : start_of m k + length_of m k ≤ length m.states
    fits = omega (arith, region_end_lem w m kept k, region_inside w m kept k, kept.states_long)

    pub state_in : (i : ℕ) → start_of m k ≤ i → i < start_of m k + length_of m k → get_or (estimated_states k P m) i raw_state ≡ estimated_by (P i) (state_at m i)
    state_in i = get_or-rewritten (start_of m k) (length_of m k) (λ i. estimated_by (P i) (state_at m i)) m.states fits i raw_state

    state_out : (i : ℕ) → (i < start_of m k) ⊎ (start_of m k + length_of m k ≤ i) → get_or (estimated_states k P m) i raw_state ≡ state_at m i
    state_out i = ⊎_elim
        (get_or_rewritten_before (start_of m k) (length_of m k) (λ i. estimated_by (P i) (state_at m i)) m.states fits i raw_state)
        (get_or_rewritten_behind (start_of m k) (length_of m k) (λ i. estimated_by (P i) (state_at m i)) m.states fits i raw_state)

    -- a region with an open place has no estimate
    pub none_estimated : some_in m k open_status ≡ true → (i : ℕ) → start_of m k ≤ i → i < start_of m k + length_of m k → is_estimated (status_at m i) ≡ false
    none_estimated some = ⊎_elim
        (λ e. absurd (both_ways (some_in m k open_status) (kept.whole k known e) some))
        (anywhere_no (λ i. is_estimated (status_at m i)) (start_of m k) (length_of m k))
        (cases_Bool (some_in m k is_estimated))

    -- what is left to show of the values vs that the region gets
    pub kept_estimated : (u : ℕ → Option Weighing) → ((j : ℕ) → (j ≡ k → ⊥) → u j ≡ w.used j) → m.posted ≡ false → (vs : List ℕ) → length vs ≡ places m → ((i : ℕ) → (i < start_of m k) ⊎ (start_of m k + length_of m k ≤ i) → get_or vs i 0 ≡ entry_at m i) → ((i : ℕ) → start_of m k ≤ i → i < start_of m k + length_of m k → is_open (state_at m i) ≡ false → get_or vs i 0 ≡ entry_at m i) → (inner m.readings k ≡ true → SettledIn (with_used w u) (changed_to (estimated_states k P m) vs m) k) → Kept (with_used w u) (changed_to (estimated_states k P m) vs m)
    kept_estimated u others unposted vs long values-out values-in settled =
        kept_region w m kept (estimated_states k P m) vs k known u others paid unposted
        (length-rewritten (start_of m k) (length_of m k) (λ i. estimated_by (P i) (state_at m i)) m.states fits ∙ kept.states_long)
        long
        (λ i out. (state_out i out, values-out i out))
        (λ i within. ⊎_elim
        (λ here. turns_estimated i within (P i) _ _ (state_in i here.0 here.1) (values-in i here.0 here.1))
        (λ out. stays w m kept paid i within _ _ (state_out i out) (values-out i out))
        (in_or_out (start_of m k) (length_of m k) i))
        (λ _. no_anywhere (λ i. open_status (get_or (estimated_states k P m) i raw_state).status) (start_of m k) (length_of m k) (λ i low high. ap (λ s. open_status s.status) (state_in i low high) ∙ open_no_more (P i) (state_at m i)))
        (λ is_region_inner _. settled is_region_inner)
