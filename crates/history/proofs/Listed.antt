-- Which refusals the calls give.
use Rattle.std.proofs.Common.{◌≡◌, ℕ, Bool, true, false, List, [], ◌∷◌, Some, None, Option, refl, subst, arith}
use Rattle.std.proofs.lemmas.Bool.{both_ways}
use Rattle.fault.specs.declared.record.Fault.{Fault}
use Rattle.fault.specs.declared.refusal.Refusal.{Refusal}
use Rattle.fault.specs.declared.refusal.Refusal.TheVariants.{ConditionUnknown, PulsesTooHigh, PlacesPastCycle, BlockMisshapen, DriftTooLarge, OtherMeterDelivers, BookPosted, ReadingBeyondDials, BoundaryNotRising, ReadingsFull, RuleRunAlready, RuleNotOwed, PlaceNotVerifiable, PlacesOrRegionUnfit, RuleStillOwing, TotalWeightZero, PlaceWithoutWeight, MeasuredAboveAdvance, NothingToChange, RegionOutOfBalance, PlaceStillOpen}
use Rattle.fault.specs.Faults.{fault_at}
use Rattle.fault.specs.Numbers.{refusal_number}
use Rattle.history.specs.Answers.{Answer, refused, answer_by, refusal, returned, when, at, first, checks}
use Rattle.history.specs.Calls.{Call, delivery, reading, rule, verification, settlement, filling, withdrawal, posting}
use Rattle.history.specs.Model.{Model}
use Rattle.history.specs.Sanity.{OfBook, of_book, positioned, RefusedAsListed}

-- the first refusal of such a list, if there is one, is of a book
record Listed (xs : List (Option Fault)) : Type 0 where
  of_book_lem : (f : Fault) → first xs ≡ Some f → OfBook f

same : (f g : Fault) → OfBook g → Some g ≡ Some f → OfBook f
same f g l e = let same-fault : g ≡ f = cc in subst OfBook same-fault l

end : Listed []
end = record { of_book_lem = λ f e. let z : ◌≡◌ {A = ℕ} 0 1 = cc in absurd (omega arith) }

then_when : (r : Refusal) (b : Bool) (xs : List (Option Fault)) → of_book (refusal_number r) ≡ true → Listed xs → Listed (when r b ∷ xs)
then_when r false xs e more = record { of_book_lem = more.of_book_lem }
then_when r true xs e more = record { of_book_lem = λ f. same f (fault_at r 0) (record { made = refl; listed = e; position = λ _. refl }) }

then_at : (r : Refusal) (o : Option ℕ) (xs : List (Option Fault)) → of_book (refusal_number r) ≡ true → positioned (refusal_number r) ≡ true → Listed xs → Listed (at r o ∷ xs)
then_at r None xs e p more = record { of_book_lem = more.of_book_lem }
then_at r (Some place) xs e p more = record { of_book_lem = λ f. same f (fault_at r place) (record { made = refl; listed = e; position = λ q. absurd (both_ways (positioned (refusal_number r)) q p) }) }

listed : (c : Call) (m : Model) → Listed (checks c m)
listed (delivery number drift bytes) m = then_when BookPosted _ _ refl (then_when OtherMeterDelivers _ _ refl (then_when DriftTooLarge _ _ refl (then_when BlockMisshapen _ _ refl (then_when PlacesPastCycle _ _ refl (then_at PulsesTooHigh _ _ refl refl (then_at ConditionUnknown _ _ refl refl end))))))
listed (reading b x) m = then_when BookPosted _ _ refl (then_when ReadingsFull _ _ refl (then_when BoundaryNotRising _ _ refl (then_when ReadingBeyondDials _ _ refl end)))
listed (rule k g) m = then_when BookPosted _ _ refl (then_when RuleNotOwed _ _ refl (then_when RuleRunAlready _ _ refl end))
listed (verification a len) m = then_when BookPosted _ _ refl (then_when RuleStillOwing _ _ refl (then_when PlacesOrRegionUnfit _ _ refl (then_at PlaceNotVerifiable _ _ refl refl end)))
listed (settlement k P) m = then_when BookPosted _ _ refl (then_when RuleStillOwing _ _ refl (then_when PlacesOrRegionUnfit _ _ refl (then_when NothingToChange _ _ refl (then_when MeasuredAboveAdvance _ _ refl (then_at PlaceWithoutWeight _ _ refl refl (then_when TotalWeightZero _ _ refl end))))))
listed (filling k P) m = then_when BookPosted _ _ refl (then_when RuleStillOwing _ _ refl (then_when PlacesOrRegionUnfit _ _ refl (then_when NothingToChange _ _ refl (then_at PlaceWithoutWeight _ _ refl refl end))))
listed (withdrawal k) m = then_when BookPosted _ _ refl (then_when RuleStillOwing _ _ refl (then_when PlacesOrRegionUnfit _ _ refl (then_when NothingToChange _ _ refl end)))
listed posting m = then_when BookPosted _ _ refl (then_when RuleStillOwing _ _ refl (then_at PlaceStillOpen _ _ refl refl (then_at RegionOutOfBalance _ _ refl refl end)))

pub accepts : (c : Call) (m : Model) (f : Fault) → returned c m ≡ refused f → ⊥
accepts (delivery number drift bytes) m f e = let z : ◌≡◌ {A = ℕ} 0 1 = cc in omega arith
accepts (reading b x) m f e = let z : ◌≡◌ {A = ℕ} 0 1 = cc in omega arith
accepts (rule k g) m f e = let z : ◌≡◌ {A = ℕ} 0 1 = cc in omega arith
accepts (verification a len) m f e = let z : ◌≡◌ {A = ℕ} 0 1 = cc in omega arith
accepts (settlement k P) m f e = let z : ◌≡◌ {A = ℕ} 0 1 = cc in omega arith
accepts (filling k P) m f e = let z : ◌≡◌ {A = ℕ} 0 1 = cc in omega arith
accepts (withdrawal k) m f e = let z : ◌≡◌ {A = ℕ} 0 1 = cc in omega arith
accepts posting m f e = let z : ◌≡◌ {A = ℕ} 0 1 = cc in omega arith

pub refused_by : (o : Option Fault) (a : Answer) (f : Fault) → (a ≡ refused f → ⊥) → answer_by o a ≡ refused f → o ≡ Some f
refused_by None a f accepted e = absurd (accepted e)
refused_by (Some g) a f accepted e = cc

pub refused_as_listed : RefusedAsListed
refused_as_listed c m f e = (listed c m).of_book_lem f (refused_by (refusal c m) (returned c m) f (accepts c m f) e)
