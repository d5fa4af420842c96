-- A book whose places are all raw and whose owed rules are all owing, as after its opening, a delivery or a reading.
use Rattle.std.proofs.Common.{◌≡◌, ℕ, ◌<◌, Bool, false, eqb, List, length, get_or, sym, refl, ap, ◌∙◌, subst}
use Rattle.std.proofs.lemmas.List.{length-replicate, get_or-replicate}
use Rattle.std.proofs.lemmas.Bool.{both_ways, eqb-true, not-false, false≢true}
use Rattle.intervals.specs.declared.interval.Interval.{Interval}
use Rattle.readings.specs.declared.reading.Reading.{Reading}
use Rattle.readings.specs.Rising.{Rising, Within}
use Rattle.sharing.specs.declared.state.Status.{Status}
use Rattle.sharing.specs.declared.state.Status.TheVariants.{Raw}
use Rattle.sharing.specs.Weights.{open_status}
use Rattle.history.specs.Calls.{raw_again}
use Rattle.history.specs.Model.{Opening, places_of, missing, raw_state, sound_at, state_at, status_at, is_measured, is_estimated}
use Rattle.history.proofs.Kept.{Words, Kept, Grounds}
use Rattle.history.proofs.Unestimated.{none_whole, none_settled}

module _ (w : Words) (o : Opening) (xs : List Interval) (rs : List Reading) where
  raw_state_lem : (i : ℕ) → i < places_of o → state_at (raw_again o xs rs) i ≡ raw_state
  raw_state_lem i h = get_or-replicate (places_of o) i raw_state raw_state h

  -- no place has a status that p asks for, if raw is none
  never : (p : Status → Bool) → p Raw ≡ false → (i : ℕ) → i < places_of o → p (status_at (raw_again o xs rs) i) ≡ false
  never p other i h = ap (λ s. p s.status) (raw_state_lem i h) ∙ other

  pub kept_raw : o ≡ w.opening → rs ≡ w.readings → (o.owed ≡ 0 → ⊥) → Rising rs → Within (places_of o) rs → length xs ≡ places_of o → ((i : ℕ) → i < places_of o → get_or xs i missing ≡ w.delivered i) → false ≡ w.posted → ((i : ℕ) → w.questioned i → ⊥) → Kept w (raw_again o xs rs)
  kept_raw same-opening same-readings some up inside long same unposted unasked =
      let unestimated = never is_estimated refl in
      record {
        opening = same-opening;
        readings = same-readings;
        owed = some;
        rising = up;
        within = inside;
        intervals_long = long;
        states_long = length-replicate (places_of o) raw_state;
        values_long = length-replicate (places_of o) 0;
        held = same;
        posting = unposted;
        raw = λ owing i h. ap (λ s. s.status) (raw_state_lem i h);
        judged = λ paid i h e. some (eqb-true o.owed 0 (not-false (eqb o.owed 0) paid));
        marks = λ i h marked. absurd (marked (ap (λ s. s.marks) (raw_state_lem i h)));
        marked = λ i h asked _. unasked i asked;
        counted = λ i h e. absurd (both_ways _ (never is_measured refl i h) e);
        empty = λ i h e. absurd (both_ways _ (never open_status refl i h) e);
        grounds = λ i h. subst (λ s. Grounds s.status (sound_at (raw_again o xs rs) i) s.marks) (sym (raw_state_lem i h)) tt;
        whole = none_whole w (raw_again o xs rs) up inside unestimated;
        settled = none_settled w (raw_again o xs rs) up inside unestimated;
        closed = λ e. absurd (false≢true e);
      }
