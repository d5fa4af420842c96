-- The worked cases of the rules, as facts about the definitions.
use Rattle.std.specs.Prelude.{◌≡◌, ℕ, true, false, List, [], ◌∷◌, map, Some, None}
use Rattle.intervals.specs.declared.condition.Condition.TheVariants.{Good}
use Rattle.intervals.specs.declared.interval.Interval.{Interval}
use Rattle.constants.specs.Dials.{advance_between}
use Rattle.peaks.specs.Counts.{spike_of}
use Rattle.profile.specs.Line.{on_line}
use Rattle.sharing.specs.Shares.{shares}
use Rattle.validation.specs.Sums.{beyond_allowed}
use Rattle.usage_rules.specs.Usage.{high_or_low}

-- places that counted so many pulses, all good
abbrev pub day : List ℕ → List Interval
day counts = map (λ n. record { pulses = n; condition = Good }) counts

pub record Worked : Type 0 where
  -- a register of 5 dials from 99,968 to 294
  pub rolls_over : advance_between 5 99968 294 ≡ 326
  -- that region with 10 pulses a unit, and 2 units allowed
  pub sum_3239 : beyond_allowed 10 326 2 3239 ≡ true
  pub sum_3240 : beyond_allowed 10 326 2 3240 ≡ false
  pub sum_3280 : beyond_allowed 10 326 2 3280 ≡ false
  pub sum_3281 : beyond_allowed 10 326 2 3281 ≡ true
  -- a day whose highest count is 100 and whose sixth highest is 36, or 35
  pub spike_36 : spike_of (day (60 ∷ 100 ∷ 36 ∷ 60 ∷ 60 ∷ 1 ∷ 60 ∷ [])) ≡ None
  pub spike_35 : spike_of (day (60 ∷ 100 ∷ 35 ∷ 60 ∷ 60 ∷ 1 ∷ 60 ∷ [])) ≡ Some 100
  -- a day whose highest count is 10, or 11, and whose sixth highest is 0
  pub spike_10 : spike_of (day (0 ∷ 10 ∷ 0 ∷ 0 ∷ 0 ∷ 0 ∷ [])) ≡ None
  pub spike_11 : spike_of (day (0 ∷ 11 ∷ 0 ∷ 0 ∷ 0 ∷ 0 ∷ [])) ≡ Some 11
  -- past usage of 2,400 pulses over 24 places, against 24 places
  pub usage_3600 : high_or_low (Some (2400, 24)) 24 3600 ≡ false
  pub usage_3601 : high_or_low (Some (2400, 24)) 24 3601 ≡ true
  -- 10 over the weights 1, 2 and 4
  pub shared : shares 10 7 0 (1 ∷ 2 ∷ 4 ∷ []) ≡ 1 ∷ 3 ∷ 6 ∷ []
  -- two places between 10 and 20
  pub line_first : on_line 10 20 2 1 ≡ 13
  pub line_second : on_line 10 20 2 2 ≡ 16
