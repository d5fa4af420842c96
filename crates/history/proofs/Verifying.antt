-- Rewriting the places of a stretch; and verification, which does no more.
use Rattle.std.proofs.Common.{◌≡◌, ℕ, ◌+◌, ◌<◌, ◌≤◌, true, false, not, ◌&&◌, eqb, ltb, ◌⊎◌, List, [], ◌∷◌, length, get_or, None, Option, sym, refl, ◌∙◌, subst, inl, inr, ⊎_elim, arith}
use Rattle.std.proofs.lemmas.Bool.{cases_Bool, both_ways, and_parts, or_parts, ltb-false, false≢true, not-false}
use Rattle.fault.specs.declared.record.Fault.{Fault}
use Rattle.fault.specs.declared.refusal.Refusal.TheVariants.{BookPosted, RuleStillOwing, PlacesOrRegionUnfit, PlaceNotVerifiable}
use Rattle.readings.specs.Regions.{region_count}
use Rattle.sharing.specs.declared.state.State.{State}
use Rattle.sharing.specs.declared.state.Status.TheVariants.{Verified}
use Rattle.sharing.specs.Weights.{open_status, is_open}
use Rattle.history.specs.Answers.{when, at, first, owes, refusal}
use Rattle.history.specs.Calls.{verification, with_status, verified}
use Rattle.history.specs.Model.{Model, places, pulses_at, sound_at, state_at, status_at, entry_at, is_estimated, raw_state, start_of, end_of, length_of, some_in}
use Rattle.history.specs.Stretches.{rewritten, first_where}
use Rattle.history.proofs.Changed.{Turned, stays, open_doubtful, inner_below, region_end_lem, Same, same_some, same_settled, kept_changed}
use Rattle.history.proofs.Checks.{passed, not_when, nowhere}
use Rattle.history.proofs.Kept.{Words, Kept}
use Rattle.history.proofs.Stretches.{length-rewritten, get_or-rewritten, get_or_rewritten_before, get_or_rewritten_behind, in_or_out, none_where, anywhere_no, no_anywhere}

-- what a call that changes places has passed before anything of its own is looked at
pub record Ready (m : Model) (rest : List (Option Fault)) : Type 0 where
  pub unposted : m.posted ≡ false
  pub paid : owes m ≡ false
  pub further : first rest ≡ None

pub ready : (m : Model) (rest : List (Option Fault)) → first (when BookPosted m.posted ∷ when RuleStillOwing (owes m) ∷ rest) ≡ None → Ready m rest
ready m rest e =
    let posting = passed (when BookPosted m.posted) (when RuleStillOwing (owes m) ∷ rest) e in
    let owing = passed (when RuleStillOwing (owes m)) rest posting.1 in
    record { unposted = not_when BookPosted m.posted posting.0; paid = not_when RuleStillOwing (owes m) owing.0; further = owing.1 }

both_at : (Q : State → ℕ → Type 0) {s t : State} {u v : ℕ} → s ≡ t → u ≡ v → Q t v → Q s u
both_at Q {s} {t} {u} {v} es ev q = subst (λ x. Q x u) (sym es) (subst (Q t) (sym ev) q)

-- The len places from a on become as f says, with the values that g says.
module _ (w : Words) (m : Model) (kept : Kept w m) (a len : ℕ) (fits : a + len ≤ places m) (f : ℕ → State) (g : ℕ → ℕ) where
  pub fits_states : a + len ≤ length m.states
  fits_states = omega (arith, kept.states_long)

  fits_values : a + len ≤ length m.values
  fits_values = omega (arith, kept.values_long)

  pub states_long : length (rewritten a len f m.states) ≡ places m
  states_long = length-rewritten a len f m.states fits_states ∙ kept.states_long

  pub values_long : length (rewritten a len g m.values) ≡ places m
  values_long = length-rewritten a len g m.values fits_values ∙ kept.values_long

  pub unchanged : (i : ℕ) → (i < a) ⊎ (a + len ≤ i) → (get_or (rewritten a len f m.states) i raw_state ≡ state_at m i) × (get_or (rewritten a len g m.values) i 0 ≡ entry_at m i)
  unchanged i (inl before) = (get_or_rewritten_before a len f m.states fits_states i raw_state before, get_or_rewritten_before a len g m.values fits_values i 0 before)
  unchanged i (inr behind) = (get_or_rewritten_behind a len f m.states fits_states i raw_state behind, get_or_rewritten_behind a len g m.values fits_values i 0 behind)

  -- what holds of every place of the stretch as rewritten, and of every other as it was, holds of all
  pub each_place : (Q : ℕ → State → ℕ → Type 0) → ((i : ℕ) → a ≤ i → i < a + len → Q i (f i) (g i)) → ((i : ℕ) → (i < a) ⊎ (a + len ≤ i) → Q i (state_at m i) (entry_at m i)) → (i : ℕ) → Q i (get_or (rewritten a len f m.states) i raw_state) (get_or (rewritten a len g m.values) i 0)
  each_place Q inside outside i =
      ⊎_elim
      (λ in-it. both_at (Q i) (get_or-rewritten a len f m.states fits_states i raw_state in-it.0 in-it.1) (get_or-rewritten a len g m.values fits_values i 0 in-it.0 in-it.1) (inside i in-it.0 in-it.1))
      (λ out. both_at (Q i) (unchanged i out).0 (unchanged i out).1 (outside i out))
      (in_or_out a len i)

  pub each_turned : owes m ≡ false → ((i : ℕ) → a ≤ i → i < a + len → Turned m i (f i) (g i)) → (i : ℕ) → i < places m → Turned m i (get_or (rewritten a len f m.states) i raw_state) (get_or (rewritten a len g m.values) i 0)
  each_turned paid inside = each_place (λ i s v. i < places m → Turned m i s v) (λ i low high _. inside i low high) (λ i _ within. stays w m kept paid i within (state_at m i) (entry_at m i) refl refl)

abbrev verified_at : Model → ℕ → State
verified_at m i = with_status Verified 0 (state_at m i)

-- an open place with a sound condition may be verified; it is open for a mark
verifiable : (w : Words) (m : Model) → Kept w m → (i : ℕ) → i < places m → (open_status (status_at m i) ≡ true) × (sound_at m i ≡ true) → Turned m i (verified_at m i) (pulses_at m i)
verifiable w m kept i within fit = record {
  marks = refl;
  not_raw = λ e. let z : ◌≡◌ {A = ℕ} 0 1 = cc in omega arith;
  counted = λ _. refl;
  empty = λ e. absurd (false≢true e);
  grounds = (fit.1, ⊎_elim (λ unsound. absurd (both_ways (sound_at m i) unsound fit.1)) (λ some. some) (open_doubtful (status_at m i) (sound_at m i) (state_at m i).marks fit.0 (kept.grounds i within)));
}

-- verification of places that are all open and sound
module _ (w : Words) (m : Model) (kept : Kept w m) (a len : ℕ) (fits : a + len ≤ places m) (fit : (i : ℕ) → a ≤ i → i < a + len → (open_status (status_at m i) ≡ true) × (sound_at m i ≡ true)) where
  -- no estimate arises
  estimate_before : (k : ℕ) → some_in (verified a len m) k is_estimated ≡ true → some_in m k is_estimated ≡ true
  estimate_before k some = ⊎_elim (λ yes. yes)
      (λ no. absurd (both_ways (some_in (verified a len m) k is_estimated) (no_anywhere _ (start_of m k) (length_of m k) (each_place w m kept a len fits (verified_at m) (pulses_at m) (λ i s v. start_of m k ≤ i → i < start_of m k + length_of m k → is_estimated s.status ≡ false) (λ i _ _ _ _. refl) (λ i _. anywhere_no (λ j. is_estimated (status_at m j)) (start_of m k) (length_of m k) no i))) some))
      (cases_Bool (some_in m k is_estimated))

  -- a region with an estimate has no open place, and so none that is verified
  estimate_same : (k : ℕ) → k < region_count m.readings → some_in m k is_estimated ≡ true → Same w m kept (verified a len m).states (verified a len m).values k
  estimate_same k known some = record { states = λ i low high. (stay i low high).0; values = λ i low high. (stay i low high).1 }
    where
      stay : (i : ℕ) → start_of m k ≤ i → i < end_of m k → (get_or (verified a len m).states i raw_state ≡ state_at m i) × (get_or (verified a len m).values i 0 ≡ entry_at m i)
      stay i low high =
          let whole = anywhere_no (λ j. open_status (status_at m j)) (start_of m k) (length_of m k) (kept.whole k known some) i low (let t = region_end_lem w m kept k in omega arith) in
          unchanged w m kept a len fits (verified_at m) (pulses_at m) i (⊎_elim (λ in-it. absurd (both_ways (open_status (status_at m i)) whole (fit i in-it.0 in-it.1).0)) (λ out. out) (in_or_out a len i))

  kept_verified : owes m ≡ false → m.posted ≡ false → Kept w (verified a len m)
  kept_verified paid unposted = kept_changed w m kept (verified a len m).states (verified a len m).values w.used paid unposted (states_long w m kept a len fits (verified_at m) (pulses_at m)) (values_long w m kept a len fits (verified_at m) (pulses_at m)) (each_turned w m kept a len fits (verified_at m) (pulses_at m) paid (λ i low high. verifiable w m kept i (omega arith) (fit i low high)))
      (λ k known some. let before = estimate_before k some in same_some w m kept (verified a len m).states (verified a len m).values k (estimate_same k known before) open_status ∙ kept.whole k known before)
      (λ k is_region_inner some. let before = estimate_before k some in same_settled w m kept (verified a len m).states (verified a len m).values k (estimate_same k (inner_below m.readings k is_region_inner) before) w.used refl (kept.settled k is_region_inner before))

pub kept_verification : (w : Words) (m : Model) (a len : ℕ) → Kept w m → refusal (verification a len) m ≡ None → Kept w (verified a len m)
kept_verification w m a len kept e =
    let began = ready m _ e in
    let fit = passed _ _ began.further in
    let each : first_where (λ i. not (is_open (state_at m i) && sound_at m i)) a len ≡ None = nowhere PlaceNotVerifiable _ (passed (at PlaceNotVerifiable _) [] fit.1).0 in
    let within = ltb-false (places m) (a + len) (or_parts (eqb len 0) (ltb (places m) (a + len)) (not_when PlacesOrRegionUnfit _ fit.0)).1 in
    kept_verified w m kept a len (omega arith)
    (λ i low high. and_parts (is_open (state_at m i)) (sound_at m i) (not-false _ (none_where (λ j. not (is_open (state_at m j) && sound_at m j)) a len each i low high)))
    began.paid began.unposted
