-- The layer that gives each refusal. A full set of 27 clauses, so that a new refusal cannot be left without one.
use Rattle.fault.specs.declared.layer.Layer.{Layer}
use Rattle.fault.specs.declared.layer.Layer.TheVariants.{Block, Book, Profile, Call, Program}
use Rattle.fault.specs.declared.refusal.Refusal.{Refusal}
use Rattle.fault.specs.declared.refusal.Refusal.TheVariants.{OpeningOutsideLimits, ReferenceDaysUnfit, DeviceClockOff, OtherMeterAnswered, BookPosted, OtherMeterDelivers, DriftTooLarge, BlockMisshapen, PlacesPastCycle, PulsesTooHigh, ConditionUnknown, ReadingsFull, BoundaryNotRising, ReadingBeyondDials, RuleNotOwed, RuleRunAlready, RuleStillOwing, PlacesOrRegionUnfit, BufferTooShort, PlaceNotVerifiable, NothingToChange, MeasuredAboveAdvance, PlaceWithoutWeight, TotalWeightZero, PlaceStillOpen, RegionOutOfBalance, LineUnreadable}

abbrev pub layer_of : Refusal → Layer
layer_of OpeningOutsideLimits = Book
layer_of ReferenceDaysUnfit = Profile
layer_of DeviceClockOff = Call
layer_of OtherMeterAnswered = Call
layer_of BookPosted = Book
layer_of OtherMeterDelivers = Book
layer_of DriftTooLarge = Book
layer_of BlockMisshapen = Block
layer_of PlacesPastCycle = Book
layer_of PulsesTooHigh = Block
layer_of ConditionUnknown = Block
layer_of ReadingsFull = Book
layer_of BoundaryNotRising = Book
layer_of ReadingBeyondDials = Book
layer_of RuleNotOwed = Book
layer_of RuleRunAlready = Book
layer_of RuleStillOwing = Book
layer_of PlacesOrRegionUnfit = Book
layer_of BufferTooShort = Book
layer_of PlaceNotVerifiable = Book
layer_of NothingToChange = Book
layer_of MeasuredAboveAdvance = Book
layer_of PlaceWithoutWeight = Profile
layer_of TotalWeightZero = Book
layer_of PlaceStillOpen = Book
layer_of RegionOutOfBalance = Book
layer_of LineUnreadable = Program
