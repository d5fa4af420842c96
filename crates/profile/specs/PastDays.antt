-- The days before the cycle that a place may be weighed by, and when a sheet of them is taken.
use Rattle.std.specs.Prelude.{ℕ, ◌*◌, Bool, cond, ◌&&◌, List, length, Ok, Err, Result, ◌==◌, nat_le, nat_lt}
use Rattle.std.specs.List.{list_all}
use Rattle.fault.specs.declared.record.Fault.{Fault}
use Rattle.fault.specs.declared.refusal.Refusal.TheVariants.{ReferenceDaysUnfit}
use Rattle.fault.specs.Faults.{fault_at}
use Rattle.constants.specs.Limits.{places_a_day_known}

-- the newest day comes first: day 0 is the day before the cycle
pub record PastDays : Type 0 where
  -- the weekday that the cycle begins on, 0 for Monday to 6 for Sunday
  pub first_weekday : ℕ
  pub places_a_day : ℕ
  pub days : ℕ
  -- the counts of day 0 from midnight on, then those of day 1, and so on
  pub counts : List ℕ
  -- one for each day, 0 for a usable one
  pub marks : List ℕ

-- each count is one that a place may have
abbrev pub counts_kept : List ℕ → Bool
counts_kept cs = list_all (λ c. nat_le c 65535) cs

abbrev pub fit : PastDays → Bool
fit d = nat_lt d.first_weekday 7 && (places_a_day_known d.places_a_day && (nat_le d.days 90 && (length d.counts == d.days * d.places_a_day && (length d.marks == d.days && counts_kept d.counts))))

abbrev pub sheet : ℕ → ℕ → ℕ → List ℕ → List ℕ → PastDays
sheet first p n cs ms = record { first_weekday = first; places_a_day = p; days = n; counts = cs; marks = ms }

-- reference days hold the sheet that they are made from, and are refused where it does not fit
abbrev pub taken : PastDays → Result PastDays Fault
taken d = cond (fit d) (Ok d) (Err (fault_at ReferenceDaysUnfit 0))
