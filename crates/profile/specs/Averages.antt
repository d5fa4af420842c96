-- Reference days: a place is weighed by what was counted at its time of day on days before the cycle that had its
-- weekday.
use Rattle.std.specs.Prelude.{ℕ, ◌+◌, ◌*◌, ◌/◌, ◌%◌, Bool, ◌&&◌, List, [], ◌∷◌, map, length, take, Some, None, sum, filter, Option, ◌==◌, slice_index, slice_index_or}
use Rattle.std.specs.List.{range_with_len}
use Rattle.profile.specs.declared.method.Method.TheVariants.{ReferenceDays}
use Rattle.profile.specs.Meanings.{weighed}
use Rattle.profile.specs.PastDays.{PastDays}

-- day j lies j + 1 days before the cycle's first day; a day back in the week is six days on
abbrev pub weekday_back : ℕ → ℕ → ℕ
weekday_back first j = (first + 6 * (j + 1)) % 7

abbrev pub weekday_at : PastDays → ℕ → ℕ
weekday_at d place = (d.first_weekday + place / d.places_a_day) % 7

abbrev pub time_of_day : PastDays → ℕ → ℕ
time_of_day d place = place % d.places_a_day

-- a day without a mark would not be
abbrev pub usable : PastDays → ℕ → Bool
usable d j = slice_index_or d.marks j 1 == 0

-- whether a place of the weekday may be weighed by day j
abbrev pub similar : PastDays → ℕ → ℕ → Bool
similar d weekday j = usable d j && weekday_back d.first_weekday j == weekday

-- the usable days of a weekday, the newest first
abbrev pub similar_days : PastDays → ℕ → List ℕ
similar_days d weekday = filter (similar d weekday) (range_with_len 0 d.days)

abbrev pub count_on : PastDays → ℕ → ℕ → ℕ
count_on d time j = slice_index d.counts (j * d.places_a_day + time)

-- the counts that a place is weighed by: at its time of day on the three newest usable days of its weekday, or on two
-- or one where there are no more
abbrev pub reference_counts : PastDays → ℕ → List ℕ
reference_counts d place = map (count_on d (time_of_day d place)) (take 3 (similar_days d (weekday_at d place)))

-- rounded down; no counts have no average
abbrev pub average : List ℕ → Option ℕ
average [] = None
average (x ∷ xs) = Some (sum (x ∷ xs) / length (x ∷ xs))

abbrev pub reference_weight : PastDays → ℕ → Option (ℕ × ℕ)
reference_weight d place = weighed ReferenceDays (average (reference_counts d place))
