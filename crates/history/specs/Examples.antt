-- Example histories: each status is reached, a region is settled, a book is posted, and each refusal is given.
use Rattle.std.specs.Prelude.{◌≡◌, ℕ, ◌+◌, ◌*◌, ◌<◌, Bool, true, false, cond, ◌&&◌, List, [], ◌∷◌, ◌++◌, map, replicate, pos, negsuc, Some, None, Option, ◌==◌}
use Rattle.std.specs.List.{range_with_len}
use Rattle.delivery.specs.Blocks.{block}
use Rattle.intervals.specs.declared.condition.Condition.TheVariants.{Good, Overflow, TestMode}
use Rattle.intervals.specs.declared.interval.Interval.{Interval}
use Rattle.fault.specs.declared.refusal.Refusal.{Refusal}
use Rattle.fault.specs.declared.refusal.Refusal.TheVariants.{BookPosted, OtherMeterDelivers, DriftTooLarge, BlockMisshapen, PlacesPastCycle, PulsesTooHigh, ConditionUnknown, ReadingsFull, BoundaryNotRising, ReadingBeyondDials, RuleNotOwed, RuleRunAlready, RuleStillOwing, PlacesOrRegionUnfit, PlaceNotVerifiable, NothingToChange, MeasuredAboveAdvance, PlaceWithoutWeight, TotalWeightZero, PlaceStillOpen, RegionOutOfBalance}
use Rattle.fault.specs.Faults.{fault_at}
use Rattle.fault.specs.Numbers.{refusal_number}
use Rattle.readings.specs.Regions.{region_count, advance}
use Rattle.sharing.specs.declared.state.State.{State}
use Rattle.sharing.specs.declared.state.Status.{Status}
use Rattle.sharing.specs.declared.state.Status.TheVariants.{Raw, Measured, Verified, Open, Estimated}
use Rattle.validation.specs.Conditions.{condition_questions}
use Rattle.usage_rules.specs.Spikes.{spike_questions}
use Rattle.validation.specs.Sums.{sum_questions}
use Rattle.usage_rules.specs.Usage.{high_low_questions}
use Rattle.history.specs.Answers.{Answer, done, totalled, refused, answer, after}
use Rattle.history.specs.Calls.{Call, delivery, reading, rule, verification, settlement, filling, withdrawal, posting, Weighing, Questioning}
use Rattle.history.specs.History.{History, opened, later, accepted, delivered_at, held_by, Ran, Questioned, used, was_posted, Of}
use Rattle.history.specs.Law.{has_estimate, is_inner, advanced, amount, weight, over_inner, slack, between_readings}
use Rattle.history.specs.Model.{Opening, Model, opening_limits, new_book, missing, places, status_at, is_estimated, start_of, end_of, length_of, value_at, values_of}
use Rattle.history.specs.Stretches.{over, total}

-- Calls made one after the other

abbrev pub book_from : Model → List Call → Model
book_from m [] = m
book_from m (c ∷ cs) = book_from (after c m) cs

abbrev pub answers_from : Model → List Call → List Answer
answers_from m [] = []
answers_from m (c ∷ cs) = answer c m ∷ answers_from (after c m) cs

abbrev pub history_from : History → Model → List Call → History
history_from h m [] = h
history_from h m (c ∷ cs) = history_from (later h c (answer c m)) (after c m) cs

abbrev pub book_of : Opening → List Call → Model
book_of o cs = book_from (new_book o) cs

abbrev pub history_of : Opening → List Call → History
history_of o cs = history_from (opened o) (new_book o) cs

-- Any calls on a book opened within its limits are a history that leads to a book.
abbrev pub Leading : Type 0
Leading = (o : Opening) (cs : List Call) → opening_limits o ≡ true → Of (history_of o cs) (book_of o cs)

-- Calls

abbrev pub good : ℕ → Interval
good n = record { pulses = n; condition = Good }

abbrev pub overflowed : ℕ → Interval
overflowed n = record { pulses = n; condition = Overflow }

abbrev pub tested : ℕ → Interval
tested n = record { pulses = n; condition = TestMode }

-- over a call to meter 77 without drift
abbrev pub delivers : ℕ → List Interval → Call
delivers first xs = delivery 77 (pos 0) (block first xs)

abbrev pub overflow : Call
overflow = rule 0 (condition_questions Overflow)

abbrev pub test_mode : Call
test_mode = rule 1 (condition_questions TestMode)

abbrev pub sum_rule : Call
sum_rule = rule 2 sum_questions

abbrev pub spike : Call
spike = rule 3 spike_questions

abbrev pub high_low : Call
high_low = rule 4 high_low_questions

-- profiles: the same everywhere, other weights and codes at each place, three weights and no more, and none
abbrev pub even : ℕ → Weighing
even w i = Some (w, 1)

abbrev pub by_place : Weighing
by_place i = Some (i + 5, i + 1)

abbrev pub doubling : Weighing
doubling i = cond (i == 5) (Some (1, 9)) (cond (i == 7) (Some (2, 8)) (cond (i == 8) (Some (4, 7)) None))

abbrev pub nowhere : Weighing
nowhere i = None

abbrev pub opening : ℕ → ℕ → ℕ → ℕ → ℕ → ℕ → Option (ℕ × ℕ) → Opening
opening d p w g q owed past = record {
  days = d;
  places_a_day = p;
  first_weekday = w;
  dials = g;
  pulses_per_unit = q;
  owed = owed;
  number = 77;
  past = past;
}

-- A cycle of one day from a Monday, 4 dials, 10 pulses a unit, meter 77, without past usage
abbrev pub one_day : ℕ → ℕ → Opening
one_day p owed = opening 1 p 0 4 10 owed None

-- The limits of an opening

abbrev pub fit_openings : List Opening
fit_openings = opening 1 24 0 4 1 1 None ∷ opening 31 96 6 6 1000 255 (Some (65535 * 2976, 2976)) ∷ opening 1 48 0 4 1 1 (Some (0, 1)) ∷ []

abbrev pub unfit_openings : List Opening
unfit_openings =
    opening 0 24 0 4 1 1 None
    ∷ opening 32 24 0 4 1 1 None
    ∷ opening 1 47 0 4 1 1 None
    ∷ opening 1 24 7 4 1 1 None
    ∷ opening 1 24 0 3 1 1 None
    ∷ opening 1 24 0 7 1 1 None
    ∷ opening 1 24 0 4 0 1 None
    ∷ opening 1 24 0 4 1001 1 None
    ∷ opening 1 24 0 4 1 0 None
    ∷ opening 1 24 0 4 1 256 None
    ∷ opening 1 24 0 4 1 1 (Some (0, 0))
    ∷ opening 1 24 0 4 1 1 (Some (0, 2977))
    ∷ opening 1 24 0 4 1 1 (Some (65536, 1))
    ∷ []

pub record Limited : Type 0 where
  pub fit : map opening_limits fit_openings ≡ replicate 3 true
  pub unfit : map opening_limits unfit_openings ≡ replicate 13 false

-- One day: three measured places, 21 estimates that share 200 pulses, posted

abbrev pub printed_calls : List Call
printed_calls = reading 0 9990 ∷ delivers 0 (good 40 ∷ good 50 ∷ good 60 ∷ []) ∷ reading 24 25 ∷ overflow ∷ test_mode ∷ sum_rule ∷ spike ∷ high_low ∷ settlement 1 (even 1) ∷ posting ∷ []

abbrev pub printed_book : Model
printed_book = book_of (one_day 24 31) printed_calls

-- first place, end, advance, values together and count of estimates
abbrev pub region_line : Model → ℕ → List ℕ
region_line m k = start_of m k ∷ end_of m k ∷ advance m.opening.dials m.readings k ∷ values_of m k ∷ total (λ i. cond (is_estimated (status_at m i)) 1 0) (start_of m k) (length_of m k) ∷ []

pub record Printed : Type 0 where
  pub answers : answers_from (new_book (one_day 24 31)) printed_calls ≡ replicate 9 done ++ (totalled 350 ∷ [])
  pub regions : over 0 (region_count printed_book.readings) (region_line printed_book) ≡ (0 ∷ 0 ∷ 0 ∷ 0 ∷ 0 ∷ []) ∷ (0 ∷ 24 ∷ 35 ∷ 350 ∷ 21 ∷ []) ∷ (24 ∷ 24 ∷ 0 ∷ 0 ∷ 0 ∷ []) ∷ []

-- Each kind of call accepted. The sum rule questions two places, where 111 pulses stand against 9 units. An editor
-- verifies one and settles the other, fills what lies behind, thinks better of it, and posts.

abbrev pub questioned_calls : List Call
questioned_calls = reading 0 0 ∷ delivers 0 (good 40 ∷ good 50 ∷ good 61 ∷ []) ∷ reading 1 4 ∷ reading 3 13 ∷ sum_rule ∷ []

abbrev pub edited_calls : List Call
edited_calls = questioned_calls ++ (verification 1 1 ∷ settlement 2 (even 1) ∷ filling 3 (even 7) ∷ withdrawal 3 ∷ filling 3 (even 5) ∷ [])

-- one region with three measured places and 21 open ones, the register having gone on by x units
abbrev pub gap_calls : ℕ → List Call
gap_calls x = reading 0 0 ∷ delivers 0 (good 40 ∷ good 50 ∷ good 60 ∷ []) ∷ reading 24 x ∷ sum_rule ∷ []

-- of a book to which the sum rule alone is owed
abbrev pub book_after : List Call → Model
book_after cs = book_of (one_day 24 4) cs

abbrev pub state : Status → ℕ → ℕ → State
state st marks code = record { status = st; marks = marks; code = code }

pub record Edited : Type 0 where
  pub answers : answers_from (new_book (one_day 24 4)) (edited_calls ++ (posting ∷ [])) ≡ replicate 10 done ++ (totalled 235 ∷ [])
  pub questioned : (book_after questioned_calls).states ≡ state Measured 0 0 ∷ state Open 4 0 ∷ state Open 4 0 ∷ replicate 21 (state Open 0 0)
  pub sheet : (book_after questioned_calls).values ≡ 40 ∷ replicate 23 0
  pub states : (book_after edited_calls).states ≡ state Measured 0 0 ∷ state Verified 4 0 ∷ state Estimated 4 1 ∷ replicate 21 (state Estimated 0 1)
  pub values : over 0 24 (value_at (book_after edited_calls)) ≡ Some 40 ∷ Some 50 ∷ Some 40 ∷ replicate 21 (Some 5)
  -- where nothing is left to share, weights of 0 do
  pub nothing : over 0 24 (value_at (book_after (gap_calls 15 ++ (settlement 1 (even 0) ∷ [])))) ≡ Some 40 ∷ Some 50 ∷ Some 60 ∷ replicate 21 (Some 0)
  -- a withdrawal undoes a filling
  pub withdrawn : book_after (questioned_calls ++ (filling 3 (even 7) ∷ withdrawal 3 ∷ [])) ≡ book_after questioned_calls
  -- a reading undoes all editing, and the rule is owing again
  pub raw : (book_after (edited_calls ++ (reading 24 200 ∷ []))).states ≡ replicate 24 (state Raw 0 0)
  pub sheet_raw : (book_after (edited_calls ++ (reading 24 200 ∷ []))).values ≡ replicate 24 0
  pub owing_again : (book_after (edited_calls ++ (reading 24 200 ∷ []))).owing ≡ 4

-- Two days of 24 places, to which the first four rules are owed, with readings before the places 4, 10, 20 and 40. Places
-- 1, 3, 5, 7 and 8 are unsound, place 12 is the spike of the first day and place 30 that of the second, and the pulses of
-- the third inner region are far from its advance.

abbrev pub two_days : Opening
two_days = opening 2 24 0 4 10 15 None

abbrev pub two_day_calls : List Call
two_day_calls =
    delivers 0 (good 10 ∷ overflowed 10 ∷ good 10 ∷ overflowed 10 ∷ good 10 ∷ overflowed 10 ∷ good 10 ∷ tested 10 ∷ [])
    ∷ delivers 9 (replicate 3 (good 10) ++ (good 50 ∷ replicate 17 (good 10)) ++ (good 900 ∷ replicate 17 (good 10)))
    ∷ reading 4 9990 ∷ reading 10 9994 ∷ reading 20 8 ∷ reading 40 29
    ∷ overflow ∷ test_mode ∷ sum_rule ∷ spike ∷ []

-- what is sound and questioned is verified in part, and the rest estimated
abbrev pub two_day_edits : List Call
two_day_edits = verification 12 1 ∷ verification 31 2 ∷ settlement 1 doubling ∷ settlement 3 (even 1) ∷ filling 0 by_place ∷ posting ∷ []

abbrev pub two_day_book : Model
two_day_book = book_of two_days two_day_calls

pub record TwoDays : Type 0 where
  pub judged : two_day_book.states ≡
      state Measured 0 0 ∷ state Open 1 0 ∷ state Measured 0 0 ∷ state Open 1 0
      ∷ state Measured 0 0 ∷ state Open 1 0 ∷ state Measured 0 0 ∷ state Open 2 0 ∷ state Open 0 0 ∷ state Measured 0 0
      ∷ replicate 2 (state Measured 0 0) ++ (state Open 8 0 ∷ replicate 7 (state Measured 0 0))
      ++ (replicate 10 (state Open 4 0) ++ (state Open 12 0 ∷ replicate 9 (state Open 4 0)))
      ++ replicate 8 (state Measured 0 0)
  pub answers : answers_from two_day_book two_day_edits ≡ replicate 5 done ++ (totalled 504 ∷ [])
  pub states : (book_from two_day_book two_day_edits).states ≡
      state Measured 0 0 ∷ state Estimated 1 2 ∷ state Measured 0 0 ∷ state Estimated 1 4
      ∷ state Measured 0 0 ∷ state Estimated 1 9 ∷ state Measured 0 0 ∷ state Estimated 2 8 ∷ state Estimated 0 7 ∷ state Measured 0 0
      ∷ replicate 2 (state Measured 0 0) ++ (state Verified 8 0 ∷ replicate 7 (state Measured 0 0))
      ++ (replicate 10 (state Estimated 4 1) ++ (state Estimated 12 1 ∷ replicate 2 (state Verified 4 0)) ++ replicate 7 (state Estimated 4 1))
      ++ replicate 8 (state Measured 0 0)
  pub values : (book_from two_day_book two_day_edits).values ≡
      10 ∷ 6 ∷ 10 ∷ 8
      ∷ 10 ∷ 1 ∷ 10 ∷ 3 ∷ 6 ∷ 10
      ∷ 10 ∷ 10 ∷ 50 ∷ replicate 7 10
      ++ (10 ∷ 11 ∷ 10 ∷ 11 ∷ 10 ∷ 11 ∷ 10 ∷ 11 ∷ 11 ∷ 10 ∷ 11 ∷ 10 ∷ 10 ∷ 10 ∷ 11 ∷ 10 ∷ 11 ∷ 10 ∷ 11 ∷ 11 ∷ [])
      ++ replicate 8 10
  -- a place without a weight is named by its number in the cycle
  pub unweighted : answer (settlement 3 doubling) two_day_book ≡ refused (fault_at PlaceWithoutWeight 20)
  -- what is unsound is open though no rule questions it
  pub unsound : (book_after (delivers 0 (overflowed 40 ∷ tested 50 ∷ []) ∷ sum_rule ∷ [])).states ≡ replicate 24 (state Open 0 0)

-- 110 pulses against 9 units, within the units allowed; the place before the first reading has no advance to differ from
abbrev pub balanced_calls : List Call
balanced_calls = delivers 0 (good 40 ∷ good 50 ∷ good 60 ∷ []) ∷ reading 1 0 ∷ reading 3 9 ∷ sum_rule ∷ filling 2 (even 7) ∷ posting ∷ []

-- What these histories say

abbrev pub printed_history : History
printed_history = history_of (one_day 24 31) printed_calls

abbrev pub balanced_history : History
balanced_history = history_of (one_day 24 4) balanced_calls

abbrev pub questioned_history : History
questioned_history = history_of (one_day 24 4) questioned_calls

pub record Told : Type 0 where
  -- the latest delivery that covers a place counts, and a refused one does not
  pub delivered : over 0 4 (delivered_at (history_of (one_day 24 4) (delivers 0 (good 40 ∷ good 50 ∷ good 60 ∷ []) ∷ delivers 1 (good 51 ∷ []) ∷ delivers 2 (good 61 ∷ good 65536 ∷ []) ∷ []))) ≡ good 40 ∷ good 51 ∷ good 60 ∷ missing ∷ []
  pub questioned : Questioned questioned_history 1
  pub unquestioned : sum_questions (held_by questioned_history) 0 ≡ false
  -- after a reading or a delivery no rule has run, unless it is refused
  pub stale : (k : ℕ) (f : Questioning) → Ran (later questioned_history (reading 24 200) done) k f → ⊥
  pub stale_too : (k : ℕ) (f : Questioning) → Ran (later questioned_history (delivers 3 (good 70 ∷ [])) done) k f → ⊥
  pub lasting : Ran (later questioned_history (reading 2 9) (refused (fault_at BoundaryNotRising 0))) 2 sum_questions
  pub last : used printed_history 1 ≡ Some (even 1)
  pub unused : used printed_history 2 ≡ None
  pub shared : amount printed_history printed_book 1 ≡ 200
  -- what was delivered to an estimated place does not count
  pub shared_questioned : amount (history_of (one_day 24 4) edited_calls) (book_after edited_calls) 2 ≡ 40
  pub weighed : weight printed_history printed_book 1 (even 1) ≡ 21
  -- two units are allowed for a region without an estimate, and none with one
  pub exact : slack printed_history printed_book ≡ 0
  pub allowed : slack balanced_history (book_after balanced_calls) ≡ 20
  pub pulses : between_readings balanced_history (book_after balanced_calls) ≡ 110
  pub advances : over_inner balanced_history (advanced balanced_history) ≡ 90

-- What is reached. Of the histories that lead to a book:

-- some book has a place of each status
abbrev pub ReachesStatuses : Type 0
ReachesStatuses = (s : Status) → (h : History) × (m : Model) × (i : ℕ) × Of h m × (i < places m) × (status_at m i ≡ s)

-- some book has an inner region with an estimate
abbrev pub ReachesSettled : Type 0
ReachesSettled = (h : History) × (m : Model) × (k : ℕ) × Of h m × (is_inner h k ≡ true) × (has_estimate h m k ≡ true)

-- some book is posted, with an inner region that has no estimate
abbrev pub ReachesPosted : Type 0
ReachesPosted = (h : History) × (m : Model) × (k : ℕ) × Of h m × (was_posted h ≡ true) × (is_inner h k ≡ true) × (has_estimate h m k ≡ false)

-- both questioned places verified
abbrev pub verified_calls : List Call
verified_calls = questioned_calls ++ (verification 1 2 ∷ filling 3 (even 7) ∷ [])

-- A refusal reached: after these calls the last one is turned down so.
pub record Refusing : Type 0 where
  pub opening : Opening
  pub calls : List Call
  pub last : Call
  pub refusal : Refusal
  pub position : ℕ

abbrev pub refusing : List Call → Call → Refusal → ℕ → Refusing
refusing cs c r p = record { opening = one_day 24 4; calls = cs; last = c; refusal = r; position = p }

-- a block of three places from place 3 on, with the condition c at the last
abbrev pub three_bytes : ℕ → List ℕ
three_bytes c = 3 ∷ 0 ∷ 3 ∷ 0 ∷ 0 ∷ 0 ∷ 0 ∷ 0 ∷ 0 ∷ 0 ∷ 0 ∷ 0 ∷ 0 ∷ 0 ∷ 0 ∷ 0 ∷ 0 ∷ 0 ∷ c ∷ []

abbrev pub refusings : List Refusing
refusings =
    refusing balanced_calls (reading 24 20) BookPosted 0
    ∷ refusing [] (delivery 78 (pos 0) (block 0 (good 1 ∷ []))) OtherMeterDelivers 0
    ∷ refusing [] (delivery 77 (negsuc 180) (block 0 (good 1 ∷ []))) DriftTooLarge 0
    ∷ refusing [] (delivery 77 (negsuc 179) (block 0 [])) BlockMisshapen 0
    ∷ refusing [] (delivers 22 (good 1 ∷ good 2 ∷ good 3 ∷ [])) PlacesPastCycle 0
    ∷ refusing [] (delivers 22 (good 65535 ∷ good 65536 ∷ [])) PulsesTooHigh 23
    ∷ refusing [] (delivery 77 (pos 180) (three_bytes 4)) ConditionUnknown 5
    -- a longer day, since 24 places have no more than 25 boundaries
    ∷ record { opening = one_day 48 4; calls = over 0 32 (λ b. reading b 0); last = reading 32 0; refusal = ReadingsFull; position = 0 }
    ∷ refusing (reading 5 0 ∷ []) (reading 5 1) BoundaryNotRising 0
    ∷ refusing (reading 5 0 ∷ []) (reading 6 10000) ReadingBeyondDials 0
    ∷ refusing [] overflow RuleNotOwed 0
    ∷ refusing (sum_rule ∷ []) sum_rule RuleRunAlready 0
    ∷ refusing [] posting RuleStillOwing 0
    ∷ refusing (gap_calls 35) (settlement 2 (even 1)) PlacesOrRegionUnfit 0
    ∷ refusing questioned_calls (verification 1 3) PlaceNotVerifiable 3
    ∷ refusing (gap_calls 35) (withdrawal 1) NothingToChange 0
    ∷ refusing (gap_calls 14) (settlement 1 (even 1)) MeasuredAboveAdvance 0
    ∷ refusing (gap_calls 35) (settlement 1 nowhere) PlaceWithoutWeight 3
    ∷ refusing (gap_calls 35) (settlement 1 (even 0)) TotalWeightZero 0
    ∷ refusing (gap_calls 35) posting PlaceStillOpen 3
    ∷ refusing verified_calls posting RegionOutOfBalance 2
    ∷ []

-- other ways to the same refusals
abbrev pub other_ways : List Refusing
other_ways =
    refusing [] (delivery 77 (pos 181) (block 0 (good 1 ∷ []))) DriftTooLarge 0
    ∷ refusing [] (delivery 77 (pos 0) (0 ∷ 0 ∷ 1 ∷ [])) BlockMisshapen 0
    ∷ refusing [] (delivery 77 (pos 0) (0 ∷ 0 ∷ 1 ∷ 0 ∷ [])) BlockMisshapen 0
    ∷ refusing [] (reading 25 0) BoundaryNotRising 0
    ∷ refusing questioned_calls (verification 1 0) PlacesOrRegionUnfit 0
    ∷ refusing questioned_calls (verification 23 2) PlacesOrRegionUnfit 0
    ∷ refusing questioned_calls (settlement 0 (even 1)) PlacesOrRegionUnfit 0
    ∷ refusing questioned_calls (settlement 4 (even 1)) PlacesOrRegionUnfit 0
    ∷ refusing questioned_calls (filling 2 (even 1)) PlacesOrRegionUnfit 0
    ∷ refusing questioned_calls (filling 4 (even 1)) PlacesOrRegionUnfit 0
    ∷ refusing edited_calls (withdrawal 4) PlacesOrRegionUnfit 0
    ∷ refusing questioned_calls (verification 0 2) PlaceNotVerifiable 0
    ∷ refusing questioned_calls (settlement 1 (even 1)) NothingToChange 0
    ∷ refusing questioned_calls (filling 0 (even 1)) NothingToChange 0
    ∷ refusing questioned_calls (filling 3 nowhere) PlaceWithoutWeight 3
    ∷ refusing edited_calls (verification 1 2) PlaceNotVerifiable 1
    ∷ []

-- and of a place that is not sound, though no rule questions it
abbrev pub unsound_ways : List Refusing
unsound_ways =
    refusing (delivers 0 (overflowed 40 ∷ []) ∷ sum_rule ∷ []) (verification 0 1) PlaceNotVerifiable 0
    ∷ refusing (delivers 0 (tested 40 ∷ []) ∷ sum_rule ∷ []) (verification 0 1) PlaceNotVerifiable 0
    ∷ []

abbrev pub all_accepted : List Answer → Bool
all_accepted [] = true
all_accepted (a ∷ more) = accepted a && all_accepted more

-- a history of accepted calls leads to a book at which the last call is answered so
pub record Reached (e : Refusing) : Type 0 where
  pub leads : Of (history_of e.opening e.calls) (book_of e.opening e.calls)
  pub before : all_accepted (answers_from (new_book e.opening) e.calls) ≡ true
  pub turned_down : answer e.last (book_of e.opening e.calls) ≡ refused (fault_at e.refusal e.position)

abbrev pub EachReached : List Refusing → Type 0
EachReached [] = Unit {0}
EachReached (e ∷ es) = Reached e × EachReached es

-- Every refusal that a call on a book can give is reached.
abbrev pub ReachesAll : Type 0
ReachesAll = EachReached refusings × EachReached other_ways × (map (λ e. refusal_number e.refusal) refusings ≡ range_with_len 5 14 ++ range_with_len 20 7)
