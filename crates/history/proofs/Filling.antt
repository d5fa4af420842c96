-- A region whose places of one kind of status all take another; and filling, which estimates the open ones.
use Rattle.std.proofs.Common.{◌≡◌, ℕ, ◌+◌, ◌<◌, ◌≤◌, Bool, true, false, cond, None, refl, ap, ◌∙◌, arith}
use Rattle.std.proofs.lemmas.Bool.{both_ways, or_parts, leb-false, false≢true}
use Rattle.fault.specs.declared.refusal.Refusal.TheVariants.{PlacesOrRegionUnfit}
use Rattle.readings.specs.Regions.{inner, region_count}
use Rattle.sharing.specs.declared.state.State.{State}
use Rattle.sharing.specs.declared.state.Status.{Status}
use Rattle.sharing.specs.declared.state.Status.TheVariants.{Estimated}
use Rattle.sharing.specs.Weights.{open_status, weight_of}
use Rattle.history.specs.Answers.{owes, no_region, refusal}
use Rattle.history.specs.Calls.{Weighing, filling, with_status, changed_to, code_of, filled}
use Rattle.history.specs.Model.{Model, places, sound_at, state_at, status_at, entry_at, is_estimated, raw_state, start_of, length_of, some_in}
use Rattle.history.specs.Stretches.{rewritten}
use Rattle.history.proofs.Changed.{Turned, stays, open_doubtful, region_end_lem, region_inside, kept_region}
use Rattle.history.proofs.Checks.{passed, not_when}
use Rattle.history.proofs.Kept.{Words, Kept, SettledIn}
use Rattle.history.proofs.Stretches.{get_or-rewritten, no_anywhere}
use Rattle.history.proofs.Verifying.{ready, fits_states, states_long, values_long, unchanged, each_turned}

-- place i, with another status and value if its own is one that p names
abbrev pub turned_state : (Status → Bool) → Status → (ℕ → ℕ) → Model → ℕ → State
turned_state p st code m i = cond (p (status_at m i)) (with_status st (code i) (state_at m i)) (state_at m i)

abbrev pub turned_entry : (Status → Bool) → (ℕ → ℕ) → Model → ℕ → ℕ
turned_entry p v m i = cond (p (status_at m i)) (v i) (entry_at m i)

abbrev pub turned_in : ℕ → (Status → Bool) → Status → (ℕ → ℕ) → (ℕ → ℕ) → Model → Model
turned_in k p st code v m = changed_to (rewritten (start_of m k) (length_of m k) (turned_state p st code m) m.states) (rewritten (start_of m k) (length_of m k) (turned_entry p v m) m.values) m

turned_or_not : (m : Model) (i : ℕ) (b : Bool) (s : State) (v : ℕ) → (b ≡ true → Turned m i s v) → Turned m i (state_at m i) (entry_at m i) → Turned m i (cond b s (state_at m i)) (cond b v (entry_at m i))
turned_or_not m i true s v turns stay = turns refl
turned_or_not m i false s v turns stay = stay

none_such : (p : Status → Bool) (s t : State) → p t.status ≡ false → p (cond (p s.status) t s).status ≡ false
none_such p s t gone = cases (p s.status) refl
  where
    cases : (b : Bool) → p s.status ≡ b → p (cond b t s).status ≡ false
    cases true e = gone
    cases false e = e

module _ (w : Words) (m : Model) (k : ℕ) (p : Status → Bool) (st : Status) (code v : ℕ → ℕ) (kept : Kept w m) where
  fits : start_of m k + length_of m k ≤ places m
  fits = let e = region_end_lem w m kept k in let h = region_inside w m kept k in omega arith

  none_left : p st ≡ false → some_in (turned_in k p st code v m) k p ≡ false
  none_left gone = no_anywhere _ (start_of m k) (length_of m k) (λ i low high.
      ap (λ s. p s.status) (get_or-rewritten (start_of m k) (length_of m k) (turned_state p st code m) m.states (fits_states w m kept (start_of m k) (length_of m k) fits (turned_state p st code m) (turned_entry p v m)) i raw_state low high)
      ∙ none_such p (state_at m i) (with_status st (code i) (state_at m i)) gone)

  -- Afterwards p names no status of the region; the rest has to follow from that.
  pub kept_turned : k < region_count m.readings → owes m ≡ false → m.posted ≡ false → p st ≡ false → ((i : ℕ) → i < places m → p (status_at m i) ≡ true → Turned m i (with_status st (code i) (state_at m i)) (v i)) → (some_in (turned_in k p st code v m) k p ≡ false → some_in (turned_in k p st code v m) k is_estimated ≡ true → (some_in (turned_in k p st code v m) k open_status ≡ false) × (inner m.readings k ≡ true → SettledIn w (turned_in k p st code v m) k)) → Kept w (turned_in k p st code v m)
  kept_turned known paid unposted gone turns rest =
      kept_region w m kept (turned_in k p st code v m).states (turned_in k p st code v m).values k known w.used (λ _ _. refl) paid unposted
      (states_long w m kept (start_of m k) (length_of m k) fits (turned_state p st code m) (turned_entry p v m))
      (values_long w m kept (start_of m k) (length_of m k) fits (turned_state p st code m) (turned_entry p v m))
      (unchanged w m kept (start_of m k) (length_of m k) fits (turned_state p st code m) (turned_entry p v m))
      (each_turned w m kept (start_of m k) (length_of m k) fits (turned_state p st code m) (turned_entry p v m) paid (λ i low high.
      let within : i < places m = omega (arith, fits) in
      turned_or_not m i (p (status_at m i)) (with_status st (code i) (state_at m i)) (v i) (turns i within) (stays w m kept paid i within (state_at m i) (entry_at m i) refl refl)))
      (λ some. (rest (none_left gone) some).0)
      (λ is_region_inner some. (rest (none_left gone) some).1 is_region_inner)

-- an open place may be estimated at any value
fillable : (w : Words) (m : Model) → Kept w m → (code v i : ℕ) → i < places m → open_status (status_at m i) ≡ true → Turned m i (with_status Estimated code (state_at m i)) v
fillable w m kept code v i within is_open = record {
  marks = refl;
  not_raw = λ e. let z : ◌≡◌ {A = ℕ} 0 1 = cc in omega arith;
  counted = λ e. absurd (false≢true e);
  empty = λ e. absurd (false≢true e);
  grounds = open_doubtful (status_at m i) (sound_at m i) (state_at m i).marks is_open (kept.grounds i within);
}

pub kept_filling : (w : Words) (m : Model) (k : ℕ) (P : Weighing) → Kept w m → refusal (filling k P) m ≡ None → Kept w (filled k P m)
kept_filling w m k P kept e =
    let began = ready m _ e in
    let outer = or_parts (no_region m k) (inner m.readings k) (not_when PlacesOrRegionUnfit _ (passed _ _ began.further).0) in
    kept_turned w m k open_status Estimated (λ i. code_of (P i)) (λ i. weight_of (P i)) kept (leb-false (region_count m.readings) k outer.0) began.paid began.unposted refl
    (λ i. fillable w m kept (code_of (P i)) (weight_of (P i)) i)
    (λ none _. (none, λ is_region_inner. absurd (both_ways (inner m.readings k) outer.1 is_region_inner)))
