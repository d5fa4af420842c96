-- What is kept lasts through an accepted run of a rule.
use Rattle.std.proofs.Common.{◌≡◌, ℕ, ◌^◌, ◌<◌, Bool, true, false, cond, not, ◌&&◌, eqb, ◌⊎◌, List, length, get_or, None, sym, refl, ap, ◌∙◌, subst, inl, inr, ⊎_elim, arith}
use lib.Bits.{or_add_and}
use Rattle.std.proofs.lemmas.Nat.{pow_pos, shr_le, and_le_l}
use Rattle.std.proofs.lemmas.Bool.{and_cases, and_parts, both_ways, cases_Bool, cond-false, eqb-true, eqb-false, false≢true, not_from_true, not_from_false, ne_eqb}
use Rattle.fault.specs.declared.refusal.Refusal.TheVariants.{BookPosted, RuleNotOwed, RuleRunAlready}
use Rattle.sharing.specs.declared.state.State.{State}
use Rattle.sharing.specs.declared.state.Status.TheVariants.{Raw, Measured, Open}
use Rattle.sharing.specs.Weights.{open_status}
use Rattle.history.specs.Answers.{refusal, when, owes}
use Rattle.history.specs.Calls.{Questioning, rule, marked, judged, measured_entry, marked_states, owing_after, ruled}
use Rattle.history.specs.Stretches.{over}
use Rattle.history.specs.Model.{Model, has_bit, places, pulses_at, sound_at, state_at, status_at, entry_at, is_measured, is_estimated, held_of, raw_state}
use Rattle.history.proofs.Checks.{passed, not_when, unless}
use Rattle.history.proofs.Kept.{Words, Kept, Doubtful, Grounds}
use Rattle.history.proofs.Stretches.{length_over, get_or-over}
use Rattle.history.proofs.Unestimated.{none_whole, none_settled}

-- the words after the run: only what is questioned differs
abbrev pub after_rule : Words → (ℕ → Type 0) → Words
after_rule w q = record {
  opening = w.opening;
  readings = w.readings;
  delivered = w.delivered;
  questioned = q;
  used = w.used;
  posted = w.posted;
}

-- a book in which a rule is owing owes
pub some_owing : (m : Model) (k : ℕ) → has_bit m.owing k ≡ true → owes m ≡ true
some_owing m k e = not_from_false _ (ne_eqb m.owing 0 (λ none. let one = eqb-true _ 1 e in omega (arith, shr_le m.owing k)))

-- an accepted run is that of an owed rule which is owing, in a book that is not posted
pub rule_accepted : (k : ℕ) (f : Questioning) (m : Model) → refusal (rule k f) m ≡ None → (m.posted ≡ false) × (has_bit m.opening.owed k ≡ true) × (has_bit m.owing k ≡ true)
rule_accepted k f m e =
    let unposted = passed (when BookPosted m.posted) _ e in
    let owed = passed (when RuleNotOwed (not (has_bit m.opening.owed k))) _ unposted.1 in
    let owing = passed (when RuleRunAlready (not (has_bit m.owing k))) _ owed.1 in
    (not_when BookPosted m.posted unposted.0, unless RuleNotOwed (has_bit m.opening.owed k) owed.0, unless RuleRunAlready (has_bit m.owing k) owing.0)

-- a place after the run: its state, its entry in the value sheet, and what was delivered to it
record Place (s : State) (entry pulses : ℕ) (sound : Bool) : Type 0 where
  counted : is_measured s.status ≡ true → entry ≡ pulses
  empty : open_status s.status ≡ true → entry ≡ 0
  grounds : Grounds s.status sound s.marks
  unestimated : is_estimated s.status ≡ false

place_raw : (s : State) (entry pulses : ℕ) (sound : Bool) → s.status ≡ Raw → Place s entry pulses sound
place_raw s entry pulses sound raw = record {
  counted = λ e. absurd (false≢true (ap is_measured (sym raw) ∙ e));
  empty = λ e. absurd (false≢true (ap open_status (sym raw) ∙ e));
  grounds = subst (λ st. Grounds st sound s.marks) (sym raw) tt;
  unestimated = ap is_estimated raw;
}

-- clean: sound and without a mark
place_by : (clean sound : Bool) (marks pulses : ℕ) → (clean ≡ true → (sound ≡ true) × (marks ≡ 0)) → (clean ≡ false → Doubtful sound marks) → Place (record { status = cond clean Measured Open; marks = marks; code = 0 }) (cond clean pulses 0) pulses sound
place_by true sound marks pulses good doubt = record {
  counted = λ e. refl;
  empty = λ e. absurd (false≢true e);
  grounds = good refl;
  unestimated = refl;
}
place_by false sound marks pulses good doubt = record {
  counted = λ e. absurd (false≢true e);
  empty = λ e. refl;
  grounds = doubt refl;
  unestimated = refl;
}

place_judged : (sound : Bool) (s : State) (pulses : ℕ) → Place (judged sound s) (measured_entry sound s pulses) pulses sound
place_judged sound s pulses =
    place_by (sound && eqb s.marks 0) sound s.marks pulses
    (λ e. let both = and_parts sound (eqb s.marks 0) e in (both.0, eqb-true s.marks 0 both.1))
    (λ e. ⊎_elim inl (λ some. inr (eqb-false s.marks 0 some)) (and_cases sound (eqb s.marks 0) e))

not_raw : (clean : Bool) → cond clean Measured Open ≡ Raw → ⊥
not_raw true e = let z : ◌≡◌ {A = ℕ} 0 1 = cc in omega arith
not_raw false e = let z : ◌≡◌ {A = ℕ} 0 1 = cc in omega arith

-- the data held stay; states, values, owing rules and whether it is posted become these
abbrev pub keeping_data : List State → List ℕ → ℕ → Bool → Model → Model
keeping_data ss vs owing posted m = record {
  opening = m.opening;
  intervals = m.intervals;
  readings = m.readings;
  states = ss;
  values = vs;
  owing = owing;
  posted = posted;
}

-- place i once rule k, with the meaning f, has marked it
abbrev pub marked_at : ℕ → Questioning → Model → ℕ → State
marked_at k f m i = marked k (f (held_of m) i) (state_at m i)

abbrev pub judged_states : ℕ → Questioning → Model → List State
judged_states k f m = over 0 (places m) (λ i. judged (sound_at m i) (marked_at k f m i))

abbrev pub judged_values : ℕ → Questioning → Model → List ℕ
judged_values k f m = over 0 (places m) (λ i. measured_entry (sound_at m i) (marked_at k f m i) (pulses_at m i))

-- with the run of rule k no rule is owing any more
abbrev pub is_last : ℕ → Model → Bool
is_last k m = eqb (owing_after k m.owing) 0

-- a rule takes no mark off, and its own is not 0
stays_marked : (k : ℕ) (asks : Bool) (s : State) → (s.marks ≡ 0 → ⊥) ⊎ (asks ≡ true) → (marked k asks s).marks ≡ 0 → ⊥
stays_marked k true s some none = omega (arith, or_add_and s.marks (2 ^ k), and_le_l s.marks (2 ^ k), pow_pos k)
stays_marked k false s (inl some) none = some none
stays_marked k false s (inr asks) none = false≢true asks

module _ (w : Words) (m : Model) (k : ℕ) (f : Questioning) (q : ℕ → Type 0) (c : Kept w m) (unposted : m.posted ≡ false) (owing : owes m ≡ true) (before : (i : ℕ) → w.questioned i → q i) (asked : (i : ℕ) → i < places m → f (held_of m) i ≡ true → q i) (only : (i : ℕ) → q i → w.questioned i ⊎ (f (held_of m) i ≡ true)) where
  abbrev after : ℕ → State
  after = marked_at k f m

  mark_asked : (i : ℕ) → i < places m → ((after i).marks ≡ 0 → ⊥) → q i
  mark_asked i h some =
      ⊎_elim (asked i h) (λ unasked. before i (c.marks i h (λ none. some (cond-false (f (held_of m) i) _ _ unasked ∙ none)))) (cases_Bool (f (held_of m) i))

  asked_mark : (i : ℕ) → i < places m → q i → (after i).marks ≡ 0 → ⊥
  asked_mark i h now = stays_marked k (f (held_of m) i) (state_at m i) (⊎_elim (λ was. inl (c.marked i h was)) inr (only i now))

  module _ (ss : List State) (vs : List ℕ) (left : ℕ) where
    abbrev book : Model
    book = keeping_data ss vs left m.posted m

    kept_ruled : length ss ≡ places m → length vs ≡ places m → (owes book ≡ true → (i : ℕ) → i < places m → status_at book i ≡ Raw) → (owes book ≡ false → (i : ℕ) → i < places m → status_at book i ≡ Raw → ⊥) → ((i : ℕ) → i < places m → (state_at book i).marks ≡ (after i).marks) → ((i : ℕ) → i < places m → Place (state_at book i) (entry_at book i) (pulses_at m i) (sound_at m i)) → Kept (after_rule w q) book
    kept_ruled states_long values_long raw judged same place =
        let none : (i : ℕ) → i < places m → is_estimated (status_at book i) ≡ false = λ i h. (place i h).unestimated in
        record {
          opening = c.opening;
          readings = c.readings;
          owed = c.owed;
          rising = c.rising;
          within = c.within;
          intervals_long = c.intervals_long;
          states_long = states_long;
          values_long = values_long;
          held = c.held;
          posting = c.posting;
          raw = raw;
          judged = judged;
          marks = λ i h some. mark_asked i h (λ none. some (same i h ∙ none));
          marked = λ i h now none. asked_mark i h now (sym (same i h) ∙ none);
          counted = λ i h. (place i h).counted;
          empty = λ i h. (place i h).empty;
          grounds = λ i h. (place i h).grounds;
          whole = none_whole (after_rule w q) book c.rising c.within none;
          settled = none_settled (after_rule w q) book c.rising c.within none;
          closed = λ e. absurd (both_ways m.posted unposted e);
        }

  kept_by : (last : Bool) → is_last k m ≡ last → Kept (after_rule w q) (keeping_data (cond last (judged_states k f m) (marked_states k f m)) (cond last (judged_values k f m) m.values) (owing_after k m.owing) m.posted m)
  kept_by true e =
      let state : (i : ℕ) → i < places m → get_or (judged_states k f m) i raw_state ≡ judged (sound_at m i) (after i) = λ i h. get_or-over (places m) _ i raw_state h in
      let entry : (i : ℕ) → i < places m → get_or (judged_values k f m) i 0 ≡ measured_entry (sound_at m i) (after i) (pulses_at m i) = λ i h. get_or-over (places m) _ i 0 h in
      kept_ruled (judged_states k f m) (judged_values k f m) (owing_after k m.owing) (length_over 0 (places m) _) (length_over 0 (places m) _)
      (λ still. absurd (both_ways _ (not_from_true _ e) still))
      (λ paid i h raw. not_raw (sound_at m i && eqb (after i).marks 0) (ap (λ s. s.status) (sym (state i h)) ∙ raw))
      (λ i h. ap (λ s. s.marks) (state i h))
      (λ i h. rw (state i h, entry i h) (place_judged (sound_at m i) (after i) (pulses_at m i)))
  kept_by false e =
      let state : (i : ℕ) → i < places m → get_or (marked_states k f m) i raw_state ≡ after i = λ i h. get_or-over (places m) _ i raw_state h in
      let raw : (i : ℕ) → i < places m → (get_or (marked_states k f m) i raw_state).status ≡ Raw = λ i h. ap (λ s. s.status) (state i h) ∙ c.raw owing i h in
      kept_ruled (marked_states k f m) m.values (owing_after k m.owing) (length_over 0 (places m) _) c.values_long
      (λ still. raw)
      (λ paid. absurd (both_ways _ paid (not_from_false _ e)))
      (λ i h. ap (λ s. s.marks) (state i h))
      (λ i h. place_raw (get_or (marked_states k f m) i raw_state) (entry_at m i) (pulses_at m i) (sound_at m i) (raw i h))

pub kept_rule : (w : Words) (m : Model) (k : ℕ) (f : Questioning) (q : ℕ → Type 0) → Kept w m → refusal (rule k f) m ≡ None → ((i : ℕ) → w.questioned i → q i) → ((i : ℕ) → i < places m → f (held_of m) i ≡ true → q i) → ((i : ℕ) → q i → w.questioned i ⊎ (f (held_of m) i ≡ true)) → Kept (after_rule w q) (ruled k f m)
kept_rule w m k f q c e before asked only =
    let a = rule_accepted k f m e in
    kept_by w m k f q c a.0 (some_owing m k a.2) before asked only (is_last k m) refl
