-- What a settlement that is accepted has passed.
use Rattle.std.proofs.Common.{◌≡◌, ℕ, zero, suc, ◌<◌, ◌≤◌, Bool, true, false, not, ◌&&◌, eqb, ltb, ◌⊎◌, List, [], ◌∷◌, get_or, Some, None, sum, Option, refl, inl, inr, ⊎_elim, arith}
use Rattle.std.proofs.lemmas.Bool.{and_cases, eqb-false, eqb-true, not-false, ltb-false}
use Rattle.fault.specs.declared.record.Fault.{Fault}
use Rattle.fault.specs.declared.refusal.Refusal.TheVariants.{BookPosted, RuleStillOwing, PlacesOrRegionUnfit, NothingToChange, MeasuredAboveAdvance, PlaceWithoutWeight, TotalWeightZero}
use Rattle.readings.specs.Regions.{inner}
use Rattle.sharing.specs.Weights.{open_status, unweighted}
use Rattle.history.specs.Answers.{Answer, answer_by, first, owes, checks, refusal}
use Rattle.history.specs.Calls.{Weighing, settlement, amount_of, states_in, weights_in}
use Rattle.history.specs.History.{accepted}
use Rattle.history.specs.Model.{Model, start_of, advance_of, some_in, measured_of}
use Rattle.history.proofs.Checks.{passed, not_when, unless, nowhere}

pub passed_by : (o : Option Fault) (a : Answer) → accepted (answer_by o a) ≡ true → o ≡ None
passed_by None a e = refl
passed_by (Some f) a e = let z : ◌≡◌ {A = ℕ} 0 1 = cc in absurd (omega arith)

-- an amount that no weight bears
abbrev pub unborne : ℕ → ℕ → Bool
unborne amount whole = eqb whole 0 && not (eqb amount 0)

-- of an amount X and the weight Y that it is shared over, one that is not turned down
weight_bears : (X Y : ℕ) → unborne X Y ≡ false → (0 < Y) ⊎ (X ≡ 0)
weight_bears X Y e = ⊎_elim
    (λ some. inl (let ne = eqb-false Y 0 some in omega arith))
    (λ none. inr (eqb-true X 0 (not-false (eqb X 0) none)))
    (and_cases (eqb Y 0) (not (eqb X 0)) e)

-- what a settlement that is not turned down has passed
pub record Settles (m : Model) (k : ℕ) (P : Weighing) : Type 0 where
  pub unposted : m.posted ≡ false
  pub paid : owes m ≡ false
  pub is_region_inner : inner m.readings k ≡ true
  pub some_open : some_in m k open_status ≡ true
  pub below : measured_of m k ≤ advance_of m k
  pub weighed : unweighted P (start_of m k) (states_in m k) ≡ None
  pub borne : (0 < sum (weights_in m k P)) ⊎ (amount_of m k ≡ 0)

all_passed : (xs : List (Option Fault)) → first xs ≡ None → (j : ℕ) → get_or xs j None ≡ None
all_passed [] e j = refl
all_passed (x ∷ xs) e zero = (passed x xs e).0
all_passed (x ∷ xs) e (suc j) = all_passed xs (passed x xs e).1 j

pub settles : (m : Model) (k : ℕ) (P : Weighing) → refusal (settlement k P) m ≡ None → Settles m k P
settles m k P e = record {
  unposted = not_when BookPosted m.posted (pass 0);
  paid = not_when RuleStillOwing (owes m) (pass 1);
  is_region_inner = unless PlacesOrRegionUnfit (inner m.readings k) (pass 2);
  some_open = unless NothingToChange (some_in m k open_status) (pass 3);
  below = ltb-false (advance_of m k) (measured_of m k) (not_when MeasuredAboveAdvance (ltb (advance_of m k) (measured_of m k)) (pass 4));
  weighed = nowhere PlaceWithoutWeight (unweighted P (start_of m k) (states_in m k)) (pass 5);
  borne = weight_bears (amount_of m k) (sum (weights_in m k P)) (not_when TotalWeightZero (unborne (amount_of m k) (sum (weights_in m k P))) (pass 6));
}
  where
    pass : (j : ℕ) → get_or (checks (settlement k P) m) j None ≡ None
    pass = all_passed (checks (settlement k P) m) e
