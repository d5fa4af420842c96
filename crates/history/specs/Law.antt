-- The law of runs: what holds of the statuses and values of a book after every history that leads to it, in words of
-- the history alone.
use Rattle.std.specs.Prelude.{◌≡◌, ℕ, ◌+◌, ◌-◌, ◌*◌, ◌<◌, ◌≤◌, Bool, true, false, cond, ◌⊎◌, length, is_some, Some}
use Rattle.std.specs.Option.{unwrap_or}
use Rattle.intervals.specs.Conditions.{sound}
use Rattle.readings.specs.Regions.{region_start, region_end, inner, advance, allowed_units}
use Rattle.sharing.specs.Laws.{Near}
use Rattle.sharing.specs.Weights.{weight_of, open_status}
use Rattle.history.specs.Calls.{Weighing}
use Rattle.history.specs.History.{History, opening_of, delivered_at, readings_of, Questioned, used, was_posted, Of}
use Rattle.history.specs.Model.{Model, places_of, status_at, value_at, is_measured, is_estimated}
use Rattle.history.specs.Stretches.{total, any_where}

-- The history's regions

abbrev pub places_in : History → ℕ
places_in h = places_of (opening_of h)

abbrev pub begins : History → ℕ → ℕ
begins h k = region_start (readings_of h) k

abbrev pub ends : History → ℕ → ℕ
ends h k = region_end (places_in h) (readings_of h) k

abbrev pub is_inner : History → ℕ → Bool
is_inner h k = inner (readings_of h) k

-- the advance of a region in pulses
abbrev pub advanced : History → ℕ → ℕ
advanced h k = advance (opening_of h).dials (readings_of h) k * (opening_of h).pulses_per_unit

-- f added up over the places of a region
abbrev pub in_region : History → ℕ → (ℕ → ℕ) → ℕ
in_region h k f = total f (begins h k) (ends h k - begins h k)

-- The book's report

abbrev pub estimated_in : Model → ℕ → Bool
estimated_in m i = is_estimated (status_at m i)

abbrev pub value : Model → ℕ → ℕ
value m i = unwrap_or (value_at m i) 0

abbrev pub has_estimate : History → Model → ℕ → Bool
has_estimate h m k = any_where (estimated_in m) (begins h k) (ends h k - begins h k)

-- Measured. A measured or verified place has the pulses delivered to it. An estimate stands only where the condition
-- delivered is not sound, or where an owed rule questioned the place.
pub record Measured (h : History) (m : Model) : Type 0 where
  pub counted : (i : ℕ) → i < places_in h → is_measured (status_at m i) ≡ true → value_at m i ≡ Some (delivered_at h i).pulses
  pub doubtful : (i : ℕ) → i < places_in h → estimated_in m i ≡ true → (sound (delivered_at h i).condition ≡ false) ⊎ Questioned h i

-- What was shared in a region: its advance less the pulses delivered to its places without estimate. The difference is
-- never cut off at 0, since the values of a settled region add to its advance.
abbrev pub amount : History → Model → ℕ → ℕ
amount h m k = advanced h k - in_region h k (λ i. cond (estimated_in m i) 0 (delivered_at h i).pulses)

-- the profile's weights at the estimates of a region
abbrev pub weight : History → Model → ℕ → Weighing → ℕ
weight h m k P = in_region h k (λ i. cond (estimated_in m i) (weight_of (P i)) 0)

-- Settled. An inner region with an estimate has no open place, and its values add to its advance exactly. Each estimate
-- has a weight under the profile last used there, lies less than one pulse from its exact share, and is 0 where the
-- weights together are.
pub record Settled (h : History) (m : Model) (k : ℕ) : Type 0 where
  pub whole : (i : ℕ) → begins h k ≤ i → i < ends h k → open_status (status_at m i) ≡ false
  pub adds : in_region h k (value m) ≡ advanced h k
  pub profile : Weighing
  pub last : used h k ≡ Some profile
  pub weighed : (i : ℕ) → begins h k ≤ i → i < ends h k → estimated_in m i ≡ true → is_some (profile i) ≡ true
  pub shared : (i : ℕ) → begins h k ≤ i → i < ends h k → estimated_in m i ≡ true → Near (amount h m k) (weight h m k profile) (weight_of (profile i)) (value m i)

-- f added up over the inner regions
abbrev pub over_inner : History → (ℕ → ℕ) → ℕ
over_inner h f = total f 1 (length (readings_of h) - 1)

-- the pulses by which the values from the first reading to the last may be off: the units allowed for each inner
-- region without an estimate
abbrev pub slack : History → Model → ℕ
slack h m = over_inner h (λ k. cond (has_estimate h m k) 0 (allowed_units (readings_of h) k * (opening_of h).pulses_per_unit))

-- all values from the first reading to the last
abbrev pub between_readings : History → Model → ℕ
between_readings h m = total (value m) (begins h 1) (begins h (length (readings_of h)) - begins h 1)

-- Posted. Every place has a value, and from the first reading to the last the values come to the advances within the
-- slack.
pub record Posted (h : History) (m : Model) : Type 0 where
  pub complete : (i : ℕ) → i < places_in h → is_some (value_at m i) ≡ true
  pub above : between_readings h m ≤ over_inner h (advanced h) + slack h m
  pub below : over_inner h (advanced h) ≤ between_readings h m + slack h m

pub record Law (h : History) (m : Model) : Type 0 where
  pub measured : Measured h m
  pub settled : (k : ℕ) → is_inner h k ≡ true → has_estimate h m k ≡ true → Settled h m k
  pub posted : was_posted h ≡ true → Posted h m

-- The law of runs.
abbrev pub LawOfRuns : Type 0
LawOfRuns = (h : History) (m : Model) → Of h m → Law h m
