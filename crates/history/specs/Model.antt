-- The plain book of one meter's cycle.
use Rattle.std.specs.Prelude.{ℕ, ◌-◌, ◌*◌, ◌/◌, ◌%◌, ◌^◌, Bool, true, false, cond, ◌&&◌, List, [], replicate, Some, None, Option, ◌==◌, nat_le, slice_index, slice_index_or}
use Rattle.intervals.specs.Conditions.{sound}
use Rattle.intervals.specs.declared.condition.Condition.TheVariants.{Missing}
use Rattle.intervals.specs.declared.interval.Interval.{Interval}
use Rattle.readings.specs.declared.reading.Reading.{Reading}
use Rattle.held.specs.HeldData.{HeldData}
use Rattle.constants.specs.Limits.{cycle_limits, register_limits}
use Rattle.readings.specs.Regions.{region_start, region_end, advance, allowed_units}
use Rattle.sharing.specs.declared.state.State.{State}
use Rattle.sharing.specs.declared.state.Status.{Status}
use Rattle.sharing.specs.declared.state.Status.TheVariants.{Raw, Measured, Verified, Open, Estimated}
use Rattle.history.specs.Stretches.{any_where, total}

-- what a book is opened with; the owed rules are a mask with bit j for rule j
pub record Opening : Type 0 where
  pub days : ℕ
  pub places_a_day : ℕ
  pub first_weekday : ℕ
  pub dials : ℕ
  pub pulses_per_unit : ℕ
  pub owed : ℕ
  pub number : ℕ
  -- pulses and places of the past usage, if there is any
  pub past : Option (ℕ × ℕ)

-- past usage has 1 to 2,976 places of at most 65,535 pulses each
abbrev pub past_limits : Option (ℕ × ℕ) → Bool
past_limits None = true
past_limits (Some u) = nat_le 1 u.1 && (nat_le u.1 2976 && nat_le u.0 (65535 * u.1))

abbrev pub opening_limits : Opening → Bool
opening_limits o = cycle_limits o.days o.places_a_day o.first_weekday && (register_limits o.dials o.pulses_per_unit && ((nat_le 1 o.owed && nat_le o.owed 255) && past_limits o.past))

abbrev pub places_of : Opening → ℕ
places_of o = o.days * o.places_a_day

pub record Model : Type 0 where
  pub opening : Opening
  pub intervals : List Interval
  pub readings : List Reading
  pub states : List State
  -- the value sheet: 0 where a place has no value
  pub values : List ℕ
  -- the owed rules that have not run since the last delivery or reading, as a mask
  pub owing : ℕ
  pub posted : Bool

abbrev pub has_bit : ℕ → ℕ → Bool
has_bit mask j = mask / 2 ^ j % 2 == 1

-- what nothing was delivered to
abbrev pub missing : Interval
missing = record { pulses = 0; condition = Missing }

abbrev pub raw_state : State
raw_state = record { status = Raw; marks = 0; code = 0 }

abbrev pub new_book : Opening → Model
new_book o = record {
  opening = o;
  intervals = replicate (places_of o) missing;
  readings = [];
  states = replicate (places_of o) raw_state;
  values = replicate (places_of o) 0;
  owing = o.owed;
  posted = false;
}

-- Places

abbrev pub places : Model → ℕ
places m = places_of m.opening

abbrev pub interval_at : Model → ℕ → Interval
interval_at m i = slice_index_or m.intervals i missing

abbrev pub pulses_at : Model → ℕ → ℕ
pulses_at m i = (interval_at m i).pulses

abbrev pub sound_at : Model → ℕ → Bool
sound_at m i = sound (interval_at m i).condition

abbrev pub state_at : Model → ℕ → State
state_at m i = slice_index_or m.states i raw_state

abbrev pub status_at : Model → ℕ → Status
status_at m i = (state_at m i).status

-- a measured or a verified place counts as measured
abbrev pub is_measured : Status → Bool
is_measured Raw = false
is_measured Measured = true
is_measured Verified = true
is_measured Open = false
is_measured Estimated = false

abbrev pub is_estimated : Status → Bool
is_estimated Raw = false
is_estimated Measured = false
is_estimated Verified = false
is_estimated Open = false
is_estimated Estimated = true

-- the value of a place with this status, whose entry in the value sheet is v
abbrev pub value_of : Status → ℕ → Option ℕ
value_of Raw v = None
value_of Measured v = Some v
value_of Verified v = Some v
value_of Open v = None
value_of Estimated v = Some v

abbrev pub entry_at : Model → ℕ → ℕ
entry_at m i = slice_index m.values i

abbrev pub value_at : Model → ℕ → Option ℕ
value_at m i = value_of (status_at m i) (entry_at m i)

-- The data held

abbrev pub held_in : Opening → List Interval → List Reading → HeldData
held_in o xs rs = record {
  days = o.days;
  places_a_day = o.places_a_day;
  first_weekday = o.first_weekday;
  dials = o.dials;
  pulses_per_unit = o.pulses_per_unit;
  past = o.past;
  intervals = xs;
  readings = rs;
}

abbrev pub held_of : Model → HeldData
held_of m = held_in m.opening m.intervals m.readings

-- Regions

abbrev pub start_of : Model → ℕ → ℕ
start_of m k = region_start m.readings k

abbrev pub end_of : Model → ℕ → ℕ
end_of m k = region_end (places m) m.readings k

abbrev pub length_of : Model → ℕ → ℕ
length_of m k = end_of m k - start_of m k

-- the register's advance over a region, in pulses
abbrev pub advance_of : Model → ℕ → ℕ
advance_of m k = advance m.opening.dials m.readings k * m.opening.pulses_per_unit

-- the pulses by which the values of a region may differ from that
abbrev pub allowed_of : Model → ℕ → ℕ
allowed_of m k = allowed_units m.readings k * m.opening.pulses_per_unit

abbrev pub some_in : Model → ℕ → (Status → Bool) → Bool
some_in m k p = any_where (λ i. p (status_at m i)) (start_of m k) (length_of m k)

-- the values of a region together
abbrev pub values_of : Model → ℕ → ℕ
values_of m k = total (entry_at m) (start_of m k) (length_of m k)

-- the measured and verified pulses of a region
abbrev pub measured_of : Model → ℕ → ℕ
measured_of m k = total (λ i. cond (is_measured (status_at m i)) (pulses_at m i) 0) (start_of m k) (length_of m k)
