-- What entering one more reading gives: the row with the reading at its end, or the earliest refusal that applies.
use Rattle.std.specs.Prelude.{ℕ, ◌-◌, ◌^◌, Bool, cond, not, ◌||◌, List, [], ◌∷◌, ◌++◌, length, Ok, Err, Result, ◌==◌, nat_le, nat_lt, slice_index_or}
use Rattle.fault.specs.Faults.{fault_at}
use Rattle.fault.specs.declared.record.Fault.{Fault}
use Rattle.fault.specs.declared.refusal.Refusal.TheVariants.{ReadingsFull, BoundaryNotRising, ReadingBeyondDials}
use Rattle.readings.specs.declared.reading.Reading.{Reading}
use Rattle.readings.specs.Rising.{no_reading}

-- the boundary b is above the last one, if there is one
abbrev pub above_last : List Reading → ℕ → Bool
above_last rs b = length rs == 0 || nat_lt (slice_index_or rs (length rs - 1) no_reading).boundary b

-- the reading x of a register of g dials, at the boundary b of a cycle of n places: refused where 32 readings stand
-- already, where the boundary is above n or not above the last, and where the dials cannot show the reading
abbrev pub entered_row : ℕ → ℕ → List Reading → ℕ → ℕ → Result (List Reading) Fault
entered_row n g rs b x =
    cond (nat_le 32 (length rs)) (Err (fault_at ReadingsFull 0))
    (cond (nat_lt n b || not (above_last rs b)) (Err (fault_at BoundaryNotRising 0))
    (cond (nat_le (10 ^ g) x) (Err (fault_at ReadingBeyondDials 0))
    (Ok (rs ++ (record { boundary = b; register = x } ∷ [])))))
