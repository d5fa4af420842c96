-- Calls that change the states and values of some places and nothing else: what has to be shown of the places, and
-- that regions whose places stay keep what they had.
use Rattle.std.proofs.Common.{◌≡◌, ℕ, ◌+◌, ◌-◌, ◌<◌, ◌≤◌, Bool, true, false, cond, ltb, ◌⊎◌, List, length, get_or, Option, sym, ap, ◌∙◌, subst, inl, inr, ⊎_elim, arith}
use Rattle.std.proofs.lemmas.Bool.{cases_lt, cases_eq, both_ways, and_parts, ltb-true, false≢true}
use Rattle.readings.specs.declared.reading.Reading.{Reading}
use Rattle.readings.specs.Laws.{Ordered}
use Rattle.readings.specs.Regions.{inner, region_count}
use Rattle.readings.proofs.Covering.{region_covers, regions_ordered}
use Rattle.sharing.specs.declared.state.State.{State}
use Rattle.sharing.specs.declared.state.Status.{Status}
use Rattle.sharing.specs.declared.state.Status.TheVariants.{Raw, Measured, Verified, Open, Estimated}
use Rattle.sharing.specs.Laws.{Near}
use Rattle.sharing.specs.Weights.{weight_of, open_status}
use Rattle.history.specs.Answers.{owes}
use Rattle.history.specs.Calls.{Weighing, changed_to}
use Rattle.history.specs.Model.{Model, places, pulses_at, sound_at, state_at, status_at, entry_at, is_measured, is_estimated, raw_state, start_of, end_of, length_of, advance_of, some_in}
use Rattle.history.specs.Stretches.{total}
use Rattle.history.proofs.Kept.{Words, Kept, Doubtful, Grounds, SettledIn, shared_amount, shared_weight}
use Rattle.history.proofs.Stretches.{total_ext, anywhere_ext}

-- the same words with other profiles used
abbrev pub with_used : Words → (ℕ → Option Weighing) → Words
with_used w u = record {
  opening = w.opening;
  readings = w.readings;
  delivered = w.delivered;
  questioned = w.questioned;
  used = u;
  posted = w.posted;
}

-- what place i may become, in a book in which no rule is owing
pub record Turned (m : Model) (i : ℕ) (s : State) (v : ℕ) : Type 0 where
  pub marks : s.marks ≡ (state_at m i).marks
  pub not_raw : s.status ≡ Raw → ⊥
  pub counted : is_measured s.status ≡ true → v ≡ pulses_at m i
  pub empty : open_status s.status ≡ true → v ≡ 0
  pub grounds : Grounds s.status (sound_at m i) (state_at m i).marks

-- a place that stays as it is
pub stays : (w : Words) (m : Model) → Kept w m → owes m ≡ false → (i : ℕ) → i < places m → (s : State) (v : ℕ) → s ≡ state_at m i → v ≡ entry_at m i → Turned m i s v
stays w m kept paid i within s v es ev = record {
  marks = ap (λ x. x.marks) es;
  not_raw = λ e. kept.judged paid i within (ap (λ x. x.status) (sym es) ∙ e);
  counted = λ e. ev ∙ kept.counted i within (ap (λ x. is_measured x.status) (sym es) ∙ e);
  empty = λ e. ev ∙ kept.empty i within (ap (λ x. open_status x.status) (sym es) ∙ e);
  grounds = subst (λ x. Grounds x.status (sound_at m i) (state_at m i).marks) (sym es) (kept.grounds i within);
}

-- an open place is doubtful, and so is an estimated one
pub open_doubtful : (st : Status) (sound : Bool) (marks : ℕ) → open_status st ≡ true → Grounds st sound marks → Doubtful sound marks
open_doubtful Raw sound marks e g = absurd (false≢true e)
open_doubtful Measured sound marks e g = absurd (false≢true e)
open_doubtful Verified sound marks e g = absurd (false≢true e)
open_doubtful Open sound marks e g = g
open_doubtful Estimated sound marks e g = g

pub estimated_doubtful : (st : Status) (sound : Bool) (marks : ℕ) → is_estimated st ≡ true → Grounds st sound marks → Doubtful sound marks
estimated_doubtful Raw sound marks e g = absurd (false≢true e)
estimated_doubtful Measured sound marks e g = absurd (false≢true e)
estimated_doubtful Verified sound marks e g = absurd (false≢true e)
estimated_doubtful Open sound marks e g = g
estimated_doubtful Estimated sound marks e g = g

-- an inner region is one of the regions
pub inner_below : (rs : List Reading) (k : ℕ) → inner rs k ≡ true → k < region_count rs
inner_below rs k e = let h = ltb-true k (length rs) (and_parts (ltb 0 k) (ltb k (length rs)) e).1 in omega arith

-- a region lies within the lists
pub record Roomy (m : Model) (k : ℕ) : Type 0 where
  pub forward : start_of m k ≤ end_of m k
  pub states : end_of m k ≤ length m.states
  pub values : end_of m k ≤ length m.values

module _ (w : Words) (m : Model) (kept : Kept w m) where
  pub region_ordered : (k : ℕ) → Ordered (places m) m.readings k
  region_ordered k = regions_ordered (places m) m.readings k kept.rising kept.within

  -- the stretch of a region ends where the region ends, within the cycle
  pub region_end_lem : (k : ℕ) → start_of m k + length_of m k ≡ end_of m k
  region_end_lem k = let o = region_ordered k in omega (arith, o.forward)

  pub region_inside : (k : ℕ) → end_of m k ≤ places m
  region_inside k = (region_ordered k).inside

  pub roomy : (k : ℕ) → Roomy m k
  roomy k = record { forward = (region_ordered k).forward; states = omega (arith, region_inside k, kept.states_long); values = omega (arith, region_inside k, kept.values_long) }

  -- a place of one region lies outside every other
  pub outside : (j k : ℕ) → j < region_count m.readings → k < region_count m.readings → (j ≡ k → ⊥) → (i : ℕ) → start_of m j ≤ i → i < end_of m j → (i < start_of m k) ⊎ (start_of m k + length_of m k ≤ i)
  outside j k known-j known-k apart i low high =
      let only = region_covers (places m) m.readings i kept.rising (let h = region_inside j in omega arith) in
      ⊎_elim inl (λ from. ⊎_elim (λ to. absurd (apart (only.alone j known-j (low, high) ∙ sym (only.alone k known-k (from, to))))) (λ past. inr (let e = region_end_lem k in omega arith)) (cases_lt i (end_of m k))) (cases_lt i (start_of m k))

  module _ (ss : List State) (vs : List ℕ) where
    -- region k keeps the states and values of its places
    pub record Same (k : ℕ) : Type 0 where
      pub states : (i : ℕ) → start_of m k ≤ i → i < end_of m k → get_or ss i raw_state ≡ state_at m i
      pub values : (i : ℕ) → start_of m k ≤ i → i < end_of m k → get_or vs i 0 ≡ entry_at m i

    module _ (k : ℕ) (same : Same k) where
      last : {i : ℕ} → i < start_of m k + length_of m k → i < end_of m k
      last {i} h = let e = region_end_lem k in omega arith

      pub same_some : (p : Status → Bool) → some_in (changed_to ss vs m) k p ≡ some_in m k p
      same_some p = anywhere_ext (λ i. p (get_or ss i raw_state).status) (λ i. p (status_at m i)) (start_of m k) (length_of m k) (λ i low high. ap (λ s. p s.status) (same.states i low (last high)))

      same_total : (f : State → ℕ → ℕ) → total (λ i. f (get_or ss i raw_state) i) (start_of m k) (length_of m k) ≡ total (λ i. f (state_at m i) i) (start_of m k) (length_of m k)
      same_total f = total_ext (λ i. f (get_or ss i raw_state) i) (λ i. f (state_at m i) i) (start_of m k) (length_of m k) (λ i low high. ap (λ s. f s i) (same.states i low (last high)))

      pub same_settled : (u : ℕ → Option Weighing) → u k ≡ w.used k → SettledIn w m k → SettledIn (with_used w u) (changed_to ss vs m) k
      same_settled u eu settled = record {
        adds = total_ext (λ i. get_or vs i 0) (entry_at m) (start_of m k) (length_of m k) (λ i low high. same.values i low (last high)) ∙ settled.adds;
        profile = settled.profile;
        last = eu ∙ settled.last;
        weighed = λ i low high e. settled.weighed i low high (ap (λ s. is_estimated s.status) (sym (same.states i low high)) ∙ e);
        shared = λ i low high e.
            let amounts : shared_amount (changed_to ss vs m) k ≡ shared_amount m k = ap (λ t. advance_of m k - t) (same_total (λ s j. cond (is_estimated s.status) 0 (pulses_at m j))) in
            let whole : shared_weight (changed_to ss vs m) k settled.profile ≡ shared_weight m k settled.profile = same_total (λ s j. cond (is_estimated s.status) (weight_of (settled.profile j)) 0) in
            let near = settled.shared i low high (ap (λ s. is_estimated s.status) (sym (same.states i low high)) ∙ e) in
            subst (λ v. Near (shared_amount (changed_to ss vs m) k) (shared_weight (changed_to ss vs m) k settled.profile) (weight_of (settled.profile i)) v) (sym (same.values i low high))
            (subst (λ a. Near a (shared_weight (changed_to ss vs m) k settled.profile) (weight_of (settled.profile i)) (entry_at m i)) (sym amounts)
            (subst (λ y. Near (shared_amount m k) y (weight_of (settled.profile i)) (entry_at m i)) (sym whole) near));
      }

    -- every place is turned as it may be, and the regions keep what they must
    pub kept_changed : (u : ℕ → Option Weighing) → owes m ≡ false → m.posted ≡ false → length ss ≡ places m → length vs ≡ places m → ((i : ℕ) → i < places m → Turned m i (get_or ss i raw_state) (get_or vs i 0)) → ((k : ℕ) → k < region_count m.readings → some_in (changed_to ss vs m) k is_estimated ≡ true → some_in (changed_to ss vs m) k open_status ≡ false) → ((k : ℕ) → inner m.readings k ≡ true → some_in (changed_to ss vs m) k is_estimated ≡ true → SettledIn (with_used w u) (changed_to ss vs m) k) → Kept (with_used w u) (changed_to ss vs m)
    kept_changed u paid unposted long_states long_values turned whole settled = record {
      opening = kept.opening;
      readings = kept.readings;
      owed = kept.owed;
      rising = kept.rising;
      within = kept.within;
      intervals_long = kept.intervals_long;
      states_long = long_states;
      values_long = long_values;
      held = kept.held;
      posting = kept.posting;
      raw = λ owing. absurd (both_ways (owes m) paid owing);
      judged = λ _ i h. (turned i h).not_raw;
      marks = λ i h some. kept.marks i h (λ none. some ((turned i h).marks ∙ none));
      marked = λ i h asked none. kept.marked i h asked (sym (turned i h).marks ∙ none);
      counted = λ i h. (turned i h).counted;
      empty = λ i h. (turned i h).empty;
      grounds = λ i h. subst (Grounds (get_or ss i raw_state).status (sound_at m i)) (sym (turned i h).marks) (turned i h).grounds;
      whole = whole;
      settled = settled;
      closed = λ posted. absurd (both_ways m.posted unposted posted);
    }

    -- a change of one region k alone: of the other regions nothing has to be shown
    pub kept_region : (k : ℕ) → k < region_count m.readings → (u : ℕ → Option Weighing) → ((j : ℕ) → (j ≡ k → ⊥) → u j ≡ w.used j) → owes m ≡ false → m.posted ≡ false → length ss ≡ places m → length vs ≡ places m → ((i : ℕ) → (i < start_of m k) ⊎ (start_of m k + length_of m k ≤ i) → (get_or ss i raw_state ≡ state_at m i) × (get_or vs i 0 ≡ entry_at m i)) → ((i : ℕ) → i < places m → Turned m i (get_or ss i raw_state) (get_or vs i 0)) → (some_in (changed_to ss vs m) k is_estimated ≡ true → some_in (changed_to ss vs m) k open_status ≡ false) → (inner m.readings k ≡ true → some_in (changed_to ss vs m) k is_estimated ≡ true → SettledIn (with_used w u) (changed_to ss vs m) k) → Kept (with_used w u) (changed_to ss vs m)
    kept_region k known u others paid unposted long_states long_values kept-outside turned whole-k settled-k =
        kept_changed u paid unposted long_states long_values turned
        (λ j known-j some. ⊎_elim
        (λ e. subst (λ n. some_in (changed_to ss vs m) n open_status ≡ false) (sym e) (whole-k (subst (λ n. some_in (changed_to ss vs m) n is_estimated ≡ true) e some)))
        (λ apart. let s = same j known-j apart in same_some j s open_status ∙ kept.whole j known-j (sym (same_some j s is_estimated) ∙ some))
        (cases_eq j k))
        (λ j is_region_inner some. ⊎_elim
        (λ e. subst (SettledIn (with_used w u) (changed_to ss vs m)) (sym e) (settled-k (subst (λ n. inner m.readings n ≡ true) e is_region_inner) (subst (λ n. some_in (changed_to ss vs m) n is_estimated ≡ true) e some)))
        (λ apart. let s = same j (inner_known j is_region_inner) apart in same_settled j s u (others j apart) (kept.settled j is_region_inner (sym (same_some j s is_estimated) ∙ some)))
        (cases_eq j k))
      where
        same : (j : ℕ) → j < region_count m.readings → (j ≡ k → ⊥) → Same j
        same j known-j apart = record {
          states = λ i low high. (kept-outside i (outside j k known-j known apart i low high)).0;
          values = λ i low high. (kept-outside i (outside j k known-j known apart i low high)).1;
        }

        inner_known : (j : ℕ) → inner m.readings j ≡ true → j < region_count m.readings
        inner_known j e = inner_below m.readings j e
