-- What a call answers: the first refusal that applies, in the order listed, or that it is accepted.
use Rattle.std.specs.Prelude.{ℕ, suc, ◌+◌, ◌^◌, Bool, cond, not, ◌&&◌, ◌||◌, List, [], ◌∷◌, length, ℤ, pos, negsuc, Some, None, sum, Option, ◌==◌, nat_le, nat_lt}
use Rattle.std.specs.Int.{abs_diff}
use Rattle.delivery.specs.Blocks.{shaped, place_count, block_parts, first_above}
use Rattle.fault.specs.declared.record.Fault.{Fault}
use Rattle.fault.specs.declared.refusal.Refusal.{Refusal}
use Rattle.fault.specs.declared.refusal.Refusal.TheVariants.{BookPosted, OtherMeterDelivers, DriftTooLarge, BlockMisshapen, PlacesPastCycle, PulsesTooHigh, ConditionUnknown, ReadingsFull, BoundaryNotRising, ReadingBeyondDials, RuleNotOwed, RuleRunAlready, RuleStillOwing, PlacesOrRegionUnfit, PlaceNotVerifiable, NothingToChange, MeasuredAboveAdvance, PlaceWithoutWeight, TotalWeightZero, PlaceStillOpen, RegionOutOfBalance}
use Rattle.fault.specs.Faults.{fault_at}
use Rattle.readings.specs.Entering.{above_last}
use Rattle.readings.specs.Regions.{region_count, inner}
use Rattle.sharing.specs.Weights.{is_open, open_status, unweighted}
use Rattle.history.specs.Calls.{Call, delivery, reading, rule, verification, settlement, filling, withdrawal, posting, changed, amount_of, states_in, weights_in}
use Rattle.history.specs.Model.{Model, has_bit, places, sound_at, state_at, is_estimated, entry_at, start_of, advance_of, allowed_of, some_in, values_of, measured_of}
use Rattle.history.specs.Stretches.{first_where, total}

-- Which meter's deliveries a book takes.
abbrev pub takes_from : Model → ℕ → Bool
takes_from m number = number == m.opening.number

-- a drift of more than this many seconds, either way
abbrev pub drift_beyond : ℕ → ℤ → Bool
drift_beyond limit (pos s) = nat_lt limit s
drift_beyond limit (negsuc s) = nat_lt limit (suc s)

-- a refusal where something holds, and one that names where
abbrev pub when : Refusal → Bool → Option Fault
when r holds = cond holds (Some (fault_at r 0)) None

abbrev pub at : Refusal → Option ℕ → Option Fault
at r None = None
at r (Some position) = Some (fault_at r position)

abbrev pub first : List (Option Fault) → Option Fault
first [] = None
first (None ∷ later) = first later
first (Some f ∷ later) = Some f

abbrev pub owes : Model → Bool
owes m = not (m.owing == 0)

-- a region of this number is not there
abbrev pub no_region : Model → ℕ → Bool
no_region m k = nat_le (region_count m.readings) k

-- an inner region without an estimate whose values are too far from its advance
abbrev pub out_of_balance : Model → ℕ → Bool
out_of_balance m k = (inner m.readings k && not (some_in m k is_estimated)) && nat_lt (allowed_of m k) (abs_diff (values_of m k) (advance_of m k))

-- The refusals of each call, in order.
abbrev pub checks : Call → Model → List (Option Fault)
checks (delivery number drift bytes) m =
    when BookPosted m.posted
    ∷ when OtherMeterDelivers (not (takes_from m number))
    ∷ when DriftTooLarge (drift_beyond 180 drift)
    ∷ when BlockMisshapen (not (shaped bytes))
    ∷ when PlacesPastCycle (nat_lt (places m) ((block_parts bytes).first + place_count bytes))
    ∷ at PulsesTooHigh (first_above 65535 (block_parts bytes).first (block_parts bytes).pulses)
    ∷ at ConditionUnknown (first_above 3 (block_parts bytes).first (block_parts bytes).conditions)
    ∷ []
checks (reading b x) m =
    when BookPosted m.posted
    ∷ when ReadingsFull (nat_le 32 (length m.readings))
    ∷ when BoundaryNotRising (nat_lt (places m) b || not (above_last m.readings b))
    ∷ when ReadingBeyondDials (nat_le (10 ^ m.opening.dials) x)
    ∷ []
checks (rule k f) m =
    when BookPosted m.posted
    ∷ when RuleNotOwed (not (has_bit m.opening.owed k))
    ∷ when RuleRunAlready (not (has_bit m.owing k))
    ∷ []
checks (verification a len) m =
    when BookPosted m.posted
    ∷ when RuleStillOwing (owes m)
    ∷ when PlacesOrRegionUnfit (len == 0 || nat_lt (places m) (a + len))
    ∷ at PlaceNotVerifiable (first_where (λ i. not (is_open (state_at m i) && sound_at m i)) a len)
    ∷ []
checks (settlement k P) m =
    when BookPosted m.posted
    ∷ when RuleStillOwing (owes m)
    ∷ when PlacesOrRegionUnfit (not (inner m.readings k))
    ∷ when NothingToChange (not (some_in m k open_status))
    ∷ when MeasuredAboveAdvance (nat_lt (advance_of m k) (measured_of m k))
    ∷ at PlaceWithoutWeight (unweighted P (start_of m k) (states_in m k))
    ∷ when TotalWeightZero (sum (weights_in m k P) == 0 && not (amount_of m k == 0))
    ∷ []
checks (filling k P) m =
    when BookPosted m.posted
    ∷ when RuleStillOwing (owes m)
    ∷ when PlacesOrRegionUnfit (no_region m k || inner m.readings k)
    ∷ when NothingToChange (not (some_in m k open_status))
    ∷ at PlaceWithoutWeight (unweighted P (start_of m k) (states_in m k))
    ∷ []
checks (withdrawal k) m =
    when BookPosted m.posted
    ∷ when RuleStillOwing (owes m)
    ∷ when PlacesOrRegionUnfit (no_region m k)
    ∷ when NothingToChange (not (some_in m k is_estimated))
    ∷ []
checks posting m =
    when BookPosted m.posted
    ∷ when RuleStillOwing (owes m)
    ∷ at PlaceStillOpen (first_where (λ i. is_open (state_at m i)) 0 (places m))
    ∷ at RegionOutOfBalance (first_where (out_of_balance m) 0 (region_count m.readings))
    ∷ []

pub data Answer : Type 0 where
  done : Answer
  -- what posting returns: all values together
  totalled : ℕ → Answer
  refused : Fault → Answer

-- what an accepted call returns
abbrev pub returned : Call → Model → Answer
returned (delivery number drift bytes) m = done
returned (reading b x) m = done
returned (rule k f) m = done
returned (verification a len) m = done
returned (settlement k P) m = done
returned (filling k P) m = done
returned (withdrawal k) m = done
returned posting m = totalled (total (entry_at m) 0 (places m))

abbrev pub answer_by : Option Fault → Answer → Answer
answer_by None accepted = accepted
answer_by (Some f) accepted = refused f

abbrev pub after_by : Option Fault → Model → Model → Model
after_by None change m = change
after_by (Some f) change m = m

abbrev pub refusal : Call → Model → Option Fault
refusal c m = first (checks c m)

abbrev pub answer : Call → Model → Answer
answer c m = answer_by (refusal c m) (returned c m)

-- a refusal leaves the book itself
abbrev pub after : Call → Model → Model
after c m = after_by (refusal c m) (changed c m) m
