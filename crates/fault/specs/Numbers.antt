-- The number of each refusal and of each layer, as users know them.
use Rattle.std.specs.Prelude.{◌≡◌, ℕ}
use Rattle.fault.specs.declared.layer.Layer.{Layer}
use Rattle.fault.specs.declared.layer.Layer.TheVariants.{Block, Book, Profile, Call, Program}
use Rattle.fault.specs.declared.refusal.Refusal.{Refusal}
use Rattle.fault.specs.declared.refusal.Refusal.TheVariants.{OpeningOutsideLimits, ReferenceDaysUnfit, DeviceClockOff, OtherMeterAnswered, BookPosted, OtherMeterDelivers, DriftTooLarge, BlockMisshapen, PlacesPastCycle, PulsesTooHigh, ConditionUnknown, ReadingsFull, BoundaryNotRising, ReadingBeyondDials, RuleNotOwed, RuleRunAlready, RuleStillOwing, PlacesOrRegionUnfit, BufferTooShort, PlaceNotVerifiable, NothingToChange, MeasuredAboveAdvance, PlaceWithoutWeight, TotalWeightZero, PlaceStillOpen, RegionOutOfBalance, LineUnreadable}

abbrev pub layer_number : Layer → ℕ
layer_number Block = 1
layer_number Book = 2
layer_number Profile = 3
layer_number Call = 4
layer_number Program = 5

abbrev pub refusal_number : Refusal → ℕ
refusal_number OpeningOutsideLimits = 1
refusal_number ReferenceDaysUnfit = 2
refusal_number DeviceClockOff = 3
refusal_number OtherMeterAnswered = 4
refusal_number BookPosted = 5
refusal_number OtherMeterDelivers = 6
refusal_number DriftTooLarge = 7
refusal_number BlockMisshapen = 8
refusal_number PlacesPastCycle = 9
refusal_number PulsesTooHigh = 10
refusal_number ConditionUnknown = 11
refusal_number ReadingsFull = 12
refusal_number BoundaryNotRising = 13
refusal_number ReadingBeyondDials = 14
refusal_number RuleNotOwed = 15
refusal_number RuleRunAlready = 16
refusal_number RuleStillOwing = 17
refusal_number PlacesOrRegionUnfit = 18
refusal_number BufferTooShort = 19
refusal_number PlaceNotVerifiable = 20
refusal_number NothingToChange = 21
refusal_number MeasuredAboveAdvance = 22
refusal_number PlaceWithoutWeight = 23
refusal_number TotalWeightZero = 24
refusal_number PlaceStillOpen = 25
refusal_number RegionOutOfBalance = 26
refusal_number LineUnreadable = 27

-- No two refusals have one number.
abbrev pub NumbersApart : Type 0
NumbersApart = (x y : Refusal) → refusal_number x ≡ refusal_number y → x ≡ y
