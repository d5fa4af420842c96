-- After a settlement no place of the region is open.
use Rattle.std.proofs.Common.{◌≡◌, ℕ, ◌+◌, ◌-◌, ◌<◌, ◌≤◌, Bool, true, false, not, List, [], ◌∷◌, ◌++◌, length, get_or, take, drop, Some, Option, refl, ap, ◌∙◌, ⊎_elim, arith, length-drop}
use Rattle.std.proofs.lemmas.List.FromFn.{get_or-map-range_with_len}
use Rattle.std.proofs.lemmas.List.{append-nil, drop_all, get_or_append_left, get_or-append_right, get_or_past, length-take-le, take_all}
use Rattle.std.proofs.lemmas.Bool.{cases_lt}
use Rattle.fault.specs.declared.record.Fault.{Fault}
use Rattle.fault.specs.declared.refusal.Refusal.TheVariants.{BookPosted, RuleStillOwing, PlacesOrRegionUnfit, NothingToChange}
use Rattle.fault.specs.Faults.{fault_at}
use Rattle.readings.specs.Regions.{inner}
use Rattle.sharing.specs.Weights.{is_open, open_status}
use Rattle.history.specs.Answers.{done, answer_by, after_by, answer, refusal, when, first, owes}
use Rattle.history.specs.Calls.{settlement, Weighing, settled, estimated_by}
use Rattle.history.specs.Model.{Model, raw_state, state_at, start_of, length_of, some_in}
use Rattle.history.specs.Sanity.{SettledOnce}
use Rattle.history.specs.Stretches.{over, rewritten}
use Rattle.history.proofs.Estimating.{open_no_more}
use Rattle.history.proofs.Settles.{passed_by, settles}
use Rattle.history.proofs.Stretches.{length_over, no_anywhere}

module _ {X : Type 0} (p : X → Bool) (a n : ℕ) (f : ℕ → X) (xs : List X) (d : X) (here : (i : ℕ) → p (f i) ≡ false) (past : p d ≡ false) where
  abbrev ys : List X
  ys = over a n f

  long : length ys ≡ n
  long = length_over a n f

  of_over : (j : ℕ) → p (get_or ys j d) ≡ false
  of_over j = ⊎_elim
      (λ low. ap p (get_or-map-range_with_len f a n j (a + j) d low (omega arith)) ∙ here (a + j))
      (λ high. ap p (get_or_past ys j d (omega (arith, long))) ∙ past)
      (cases_lt j n)

  -- what is written over a stretch stands there, however short the list was
  pub not_in_rewritten : (i : ℕ) → a ≤ i → i < a + n → p (get_or (rewritten a n f xs) i d) ≡ false
  not_in_rewritten i low high = ⊎_elim short reaches (cases_lt (length xs) a)
    where
      rest : List X
      rest = drop (length ys) (drop a xs)

      reaches : a ≤ length xs → p (get_or (rewritten a n f xs) i d) ≡ false
      reaches le =
          ap p (get_or-append_right (take a xs) (ys ++ rest) a i d (length-take-le a xs le) low ∙ get_or_append_left ys rest d (i - a) (omega (arith, long))) ∙ of_over (i - a)

      short : length xs < a → p (get_or (rewritten a n f xs) i d) ≡ false
      short lt =
          let none : drop a xs ≡ [] = drop_all a xs (omega arith) in
          let empty : rest ≡ [] = drop_all (length ys) (drop a xs) (omega (arith, length-drop a xs)) in
          ap (λ zs. p (get_or (zs ++ (ys ++ rest)) i d)) (take_all a xs (omega arith))
          ∙ ap (λ zs. p (get_or (xs ++ (ys ++ zs)) i d)) empty
          ∙ ap (λ zs. p (get_or (xs ++ zs) i d)) (append-nil ys)
          ∙ ap p (get_or-append_right xs ys (length xs) i d refl (omega arith))
          ∙ of_over (i - length xs)

none_open : (m : Model) (k : ℕ) (P : Weighing) → some_in (settled k P m) k open_status ≡ false
none_open m k P = no_anywhere (λ i. is_open (state_at (settled k P m) i)) (start_of m k) (length_of m k)
    (not_in_rewritten is_open (start_of m k) (length_of m k) (λ i. estimated_by (P i) (state_at m i)) m.states raw_state (λ i. open_no_more (P i) (state_at m i)) refl)

nothing_left : (posted owing in-readings some : Bool) (others : List (Option Fault)) → posted ≡ false → owing ≡ false → in-readings ≡ true → some ≡ false → first (when BookPosted posted ∷ when RuleStillOwing owing ∷ when PlacesOrRegionUnfit (not in-readings) ∷ when NothingToChange (not some) ∷ others) ≡ Some (fault_at NothingToChange 0)
nothing_left posted owing in-readings some others e1 e2 e3 e4 = rw (e1, e2, e3, e4)

pub settled_once : SettledOnce
settled_once m k P Q ok =
    let e = passed_by (refusal (settlement k P) m) done ok in
    let s = settles m k P e in
    ap (λ o. answer (settlement k Q) (after_by o (settled k P m) m)) e
    ∙ ap (λ o. answer_by o done) (nothing_left m.posted (owes m) (inner m.readings k) (some_in (settled k P m) k open_status) _ s.unposted s.paid s.is_region_inner (none_open m k P))
