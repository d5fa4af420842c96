-- What holds of the weights by reference days.
use Rattle.std.specs.Prelude.{◌≡◌, ℕ, ◌+◌, ◌/◌, ◌%◌, ◌≤◌, ◌&&◌, List, IfSome, filter, Option, ◌==◌}
use Rattle.std.specs.Option.{option_map}
use Rattle.std.specs.List.{range_with_len, AllByRecursion}
use Rattle.profile.specs.declared.method.Method.TheVariants.{ReferenceDays}
use Rattle.profile.specs.Codes.{method_code}
use Rattle.profile.specs.PastDays.{PastDays}
use Rattle.profile.specs.Averages.{weekday_back, weekday_at, usable, similar_days, reference_counts, average, reference_weight}

-- counting on from a day before the cycle by the days that it lies back gives the weekday of the cycle's first day
abbrev pub WeekdaysRunBack : Type 0
WeekdaysRunBack = (first j : ℕ) → (weekday_back first j + (j + 1)) % 7 ≡ first % 7

-- the days that a place may be weighed by are the usable ones that lie whole weeks before its own, whatever the
-- weekday that the cycle begins on
abbrev pub WholeWeeksBack : PastDays → ℕ → Type 0
WholeWeeksBack d place = similar_days d (weekday_at d place) ≡ filter (λ j. usable d j && (place / d.places_a_day + (j + 1)) % 7 == 0) (range_with_len 0 d.days)

-- at least the smallest of the counts, and at most the largest
abbrev pub Between : List ℕ → ℕ → Type 0
Between xs w = ((b : ℕ) → AllByRecursion (λ x. b ≤ x) xs → b ≤ w) × ((b : ℕ) → AllByRecursion (λ x. x ≤ b) xs → w ≤ b)

abbrev pub BetweenCounts : PastDays → ℕ → Option (ℕ × ℕ) → Type 0
BetweenCounts d place answer = IfSome answer (λ a. Between (reference_counts d place) a.0)

-- the weight is the average itself at every place: none is too large
abbrev pub WeighsByAverage : PastDays → Type 0
WeighsByAverage d = (place : ℕ) → reference_weight d place ≡ option_map (λ w. (w, method_code ReferenceDays)) (average (reference_counts d place))
