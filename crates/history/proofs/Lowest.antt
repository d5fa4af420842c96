-- The checks of a call stand in the order of their numbers, so that the first that applies is the lowest.
use Rattle.std.proofs.Common.{◌≡◌, ℕ, ◌≤◌, Bool, true, false, List, [], ◌∷◌, Some, None, Option, ap, ⊎_elim, arith}
use Rattle.fault.specs.declared.record.Fault.{Fault}
use Rattle.fault.specs.declared.refusal.Refusal.{Refusal}
use Rattle.fault.specs.declared.refusal.Refusal.TheVariants.{ConditionUnknown, PulsesTooHigh, PlacesPastCycle, BlockMisshapen, DriftTooLarge, OtherMeterDelivers, BookPosted, ReadingBeyondDials, BoundaryNotRising, ReadingsFull, RuleRunAlready, RuleNotOwed, PlaceNotVerifiable, PlacesOrRegionUnfit, RuleStillOwing, TotalWeightZero, PlaceWithoutWeight, MeasuredAboveAdvance, NothingToChange, RegionOutOfBalance, PlaceStillOpen}
use Rattle.fault.specs.Faults.{fault_at}
use Rattle.fault.specs.Numbers.{refusal_number}
use Rattle.history.specs.Answers.{when, at, first, checks, refusal, returned}
use Rattle.history.specs.Calls.{Call, delivery, reading, rule, verification, settlement, filling, withdrawal, posting}
use Rattle.history.specs.Model.{Model}
use Rattle.history.specs.Sanity.{Applies, LowestReturned}
use Rattle.history.proofs.Listed.{refused_by, accepts}

abbrev number_of : Fault → ℕ
number_of f = refusal_number f.refusal

-- no number below n, and none below that of the first
record InOrder (n : ℕ) (xs : List (Option Fault)) : Type 0 where
  least : (g : Fault) → Applies g xs → n ≤ number_of g
  lowest : (f g : Fault) → first xs ≡ Some f → Applies g xs → number_of f ≤ number_of g

end : (n : ℕ) → InOrder n []
end n = record { least = λ g a. absurd a; lowest = λ f g e a. absurd a }

some_is : (f g : Fault) → Some f ≡ Some g → number_of f ≡ number_of g
some_is f g e = let same : f ≡ g = cc in ap number_of same

none_is_not : (g : Fault) → None ≡ Some g → ⊥
none_is_not g e = let z : ◌≡◌ {A = ℕ} 0 1 = cc in omega arith

-- a check that does not apply, and one that does
passes : (n k : ℕ) (xs : List (Option Fault)) → n ≤ k → InOrder k xs → InOrder n (None ∷ xs)
passes n k xs h more = record {
  least = λ g a. ⊎_elim (λ e. absurd (none_is_not g e)) (λ b. let l = more.least g b in omega arith) a;
  lowest = λ f g e a. ⊎_elim (λ e. absurd (none_is_not g e)) (more.lowest f g e) a;
}

applies : (n : ℕ) (r : Refusal) (p : ℕ) (xs : List (Option Fault)) → n ≤ refusal_number r → InOrder (refusal_number r) xs → InOrder n (Some (fault_at r p) ∷ xs)
applies n r p xs h more = record {
  least = λ g a. ⊎_elim (λ e. let s = some_is (fault_at r p) g e in omega arith) (λ b. let l = more.least g b in omega arith) a;
  lowest = λ f g e a. let s = some_is (fault_at r p) f e in ⊎_elim (λ e. let t = some_is (fault_at r p) g e in omega arith) (λ b. let l = more.least g b in omega arith) a;
}

then_when : (n : ℕ) (r : Refusal) (b : Bool) (xs : List (Option Fault)) → n ≤ refusal_number r → InOrder (refusal_number r) xs → InOrder n (when r b ∷ xs)
then_when n r false xs h more = passes n (refusal_number r) xs h more
then_when n r true xs h more = applies n r 0 xs h more

then_at : (n : ℕ) (r : Refusal) (o : Option ℕ) (xs : List (Option Fault)) → n ≤ refusal_number r → InOrder (refusal_number r) xs → InOrder n (at r o ∷ xs)
then_at n r None xs h more = passes n (refusal_number r) xs h more
then_at n r (Some p) xs h more = applies n r p xs h more

in_order : (c : Call) (m : Model) → InOrder 0 (checks c m)
in_order (delivery number drift bytes) m = then_when 0 BookPosted _ _ (omega arith) (then_when 5 OtherMeterDelivers _ _ (omega arith) (then_when 6 DriftTooLarge _ _ (omega arith) (then_when 7 BlockMisshapen _ _ (omega arith) (then_when 8 PlacesPastCycle _ _ (omega arith) (then_at 9 PulsesTooHigh _ _ (omega arith) (then_at 10 ConditionUnknown _ _ (omega arith) (end 11)))))))
in_order (reading b x) m = then_when 0 BookPosted _ _ (omega arith) (then_when 5 ReadingsFull _ _ (omega arith) (then_when 12 BoundaryNotRising _ _ (omega arith) (then_when 13 ReadingBeyondDials _ _ (omega arith) (end 14))))
in_order (rule k g) m = then_when 0 BookPosted _ _ (omega arith) (then_when 5 RuleNotOwed _ _ (omega arith) (then_when 15 RuleRunAlready _ _ (omega arith) (end 16)))
in_order (verification a len) m = then_when 0 BookPosted _ _ (omega arith) (then_when 5 RuleStillOwing _ _ (omega arith) (then_when 17 PlacesOrRegionUnfit _ _ (omega arith) (then_at 18 PlaceNotVerifiable _ _ (omega arith) (end 20))))
in_order (settlement k P) m = then_when 0 BookPosted _ _ (omega arith) (then_when 5 RuleStillOwing _ _ (omega arith) (then_when 17 PlacesOrRegionUnfit _ _ (omega arith) (then_when 18 NothingToChange _ _ (omega arith) (then_when 21 MeasuredAboveAdvance _ _ (omega arith) (then_at 22 PlaceWithoutWeight _ _ (omega arith) (then_when 23 TotalWeightZero _ _ (omega arith) (end 24)))))))
in_order (filling k P) m = then_when 0 BookPosted _ _ (omega arith) (then_when 5 RuleStillOwing _ _ (omega arith) (then_when 17 PlacesOrRegionUnfit _ _ (omega arith) (then_when 18 NothingToChange _ _ (omega arith) (then_at 21 PlaceWithoutWeight _ _ (omega arith) (end 23)))))
in_order (withdrawal k) m = then_when 0 BookPosted _ _ (omega arith) (then_when 5 RuleStillOwing _ _ (omega arith) (then_when 17 PlacesOrRegionUnfit _ _ (omega arith) (then_when 18 NothingToChange _ _ (omega arith) (end 21))))
in_order posting m = then_when 0 BookPosted _ _ (omega arith) (then_when 5 RuleStillOwing _ _ (omega arith) (then_at 17 PlaceStillOpen _ _ (omega arith) (then_at 25 RegionOutOfBalance _ _ (omega arith) (end 26))))

pub lowest_returned : LowestReturned
lowest_returned c m f g e a = (in_order c m).lowest f g (refused_by (refusal c m) (returned c m) f (accepts c m f) e) a
