-- The calls that change a book, and what each changes when it is accepted.
use Rattle.std.specs.Prelude.{ℕ, ◌-◌, ◌^◌, Bool, true, false, cond, ◌&&◌, List, [], ◌∷◌, ◌++◌, replicate, ℤ, Some, None, sum, Option, ◌==◌, bit_or}
use Rattle.delivery.specs.Blocks.{block_parts, intervals_of}
use Rattle.intervals.specs.declared.interval.Interval.{Interval}
use Rattle.held.specs.HeldData.{HeldData}
use Rattle.sharing.specs.declared.state.State.{State}
use Rattle.sharing.specs.declared.state.Status.{Status}
use Rattle.sharing.specs.declared.state.Status.TheVariants.{Measured, Verified, Open, Estimated}
use Rattle.sharing.specs.Shares.{shares, placed}
use Rattle.sharing.specs.Weights.{is_open, weight_of, weights}
use Rattle.history.specs.Model.{Model, Opening, places, places_of, pulses_at, sound_at, state_at, status_at, entry_at, is_estimated, held_of, start_of, end_of, length_of, advance_of, measured_of, raw_state}
use Rattle.history.specs.Stretches.{over, overwritten, rewritten, part}

-- what a profile means, and what a rule means
abbrev pub Weighing : Type 0
Weighing = ℕ → Option (ℕ × ℕ)

abbrev pub Questioning : Type 0
Questioning = HeldData → ℕ → Bool

pub data Call : Type 0 where
  -- the number and the drift of the call that delivers, and the block
  delivery : ℕ → ℤ → List ℕ → Call
  -- boundary and what the register shows
  reading : ℕ → ℕ → Call
  -- the rule's number and meaning
  rule : ℕ → Questioning → Call
  -- first place and count
  verification : ℕ → ℕ → Call
  -- region and what the profile means
  settlement : ℕ → Weighing → Call
  filling : ℕ → Weighing → Call
  withdrawal : ℕ → Call
  posting : Call

-- A delivery or a reading makes every place raw again, takes off all marks and makes every owed rule owing.
abbrev pub raw_again : Opening → List Interval → List Rattle.readings.specs.declared.reading.Reading.Reading → Model
raw_again o xs rs = record {
  opening = o;
  intervals = xs;
  readings = rs;
  states = replicate (places_of o) raw_state;
  values = replicate (places_of o) 0;
  owing = o.owed;
  posted = false;
}

-- what a block brings, and where
abbrev pub brought : List ℕ → List Interval
brought bytes = intervals_of (block_parts bytes).pulses (block_parts bytes).conditions

abbrev pub delivered : List ℕ → Model → Model
delivered bytes m = raw_again m.opening (overwritten (block_parts bytes).first (brought bytes) m.intervals) m.readings

abbrev pub entered : ℕ → ℕ → Model → Model
entered b x m = raw_again m.opening m.intervals (m.readings ++ (record { boundary = b; register = x } ∷ []))

-- the book with other states and values
abbrev pub changed_to : List State → List ℕ → Model → Model
changed_to ss vs m = record {
  opening = m.opening;
  intervals = m.intervals;
  readings = m.readings;
  states = ss;
  values = vs;
  owing = m.owing;
  posted = m.posted;
}

abbrev pub with_status : Status → ℕ → State → State
with_status st code s = record { status = st; marks = s.marks; code = code }

-- A rule marks exactly the places it questions, with its own bit.
abbrev pub marked : ℕ → Bool → State → State
marked k questioned s = record { status = s.status; marks = cond questioned (bit_or s.marks (2 ^ k)) s.marks; code = s.code }

-- When the last owed rule has run, a place with a sound condition and no mark is measured, any other is open.
abbrev pub judged : Bool → State → State
judged sound s = with_status (cond (sound && s.marks == 0) Measured Open) 0 s

abbrev pub measured_entry : Bool → State → ℕ → ℕ
measured_entry sound s pulses = cond (sound && s.marks == 0) pulses 0

-- the states after rule k, with the meaning f, has marked its places
abbrev pub marked_states : ℕ → Questioning → Model → List State
marked_states k f m = over 0 (places m) (λ i. marked k (f (held_of m) i) (state_at m i))

abbrev pub owing_after : ℕ → ℕ → ℕ
owing_after k owing = owing - 2 ^ k

abbrev pub ruled : ℕ → Questioning → Model → Model
ruled k f m = record {
  opening = m.opening;
  intervals = m.intervals;
  readings = m.readings;
  states = cond (owing_after k m.owing == 0) (over 0 (places m) (λ i. judged (sound_at m i) (marked k (f (held_of m) i) (state_at m i)))) (marked_states k f m);
  values = cond (owing_after k m.owing == 0) (over 0 (places m) (λ i. measured_entry (sound_at m i) (marked k (f (held_of m) i) (state_at m i)) (pulses_at m i))) m.values;
  owing = owing_after k m.owing;
  posted = m.posted;
}

abbrev pub verified : ℕ → ℕ → Model → Model
verified a len m = changed_to (rewritten a len (λ i. with_status Verified 0 (state_at m i)) m.states) (rewritten a len (pulses_at m) m.values) m

-- What is to be shared in a region: its advance less the measured and verified pulses.
abbrev pub amount_of : Model → ℕ → ℕ
amount_of m k = advance_of m k - measured_of m k

abbrev pub states_in : Model → ℕ → List State
states_in m k = part (start_of m k) (end_of m k) m.states

abbrev pub weights_in : Model → ℕ → Weighing → List ℕ
weights_in m k P = weights P (start_of m k) (states_in m k)

abbrev pub code_of : Option (ℕ × ℕ) → ℕ
code_of None = 0
code_of (Some a) = a.1

-- an open place becomes estimated, with the code of its weight's method
abbrev pub estimated_by : Option (ℕ × ℕ) → State → State
estimated_by answer s = cond (is_open s) (with_status Estimated (code_of answer) s) s

abbrev pub estimated_states : ℕ → Weighing → Model → List State
estimated_states k P m = rewritten (start_of m k) (length_of m k) (λ i. estimated_by (P i) (state_at m i)) m.states

abbrev pub settled : ℕ → Weighing → Model → Model
settled k P m = changed_to (estimated_states k P m) (overwritten (start_of m k) (placed (states_in m k) (shares (amount_of m k) (sum (weights_in m k P)) 0 (weights_in m k P)) (part (start_of m k) (end_of m k) m.values)) m.values) m

-- Filling gives each open place its weight.
abbrev pub filled : ℕ → Weighing → Model → Model
filled k P m = changed_to (estimated_states k P m) (rewritten (start_of m k) (length_of m k) (λ i. cond (is_open (state_at m i)) (weight_of (P i)) (entry_at m i)) m.values) m

-- Withdrawal opens all estimated places of a region.
abbrev pub reopened : State → State
reopened s = cond (is_estimated s.status) (with_status Open 0 s) s

abbrev pub withdrawn : ℕ → Model → Model
withdrawn k m = changed_to (rewritten (start_of m k) (length_of m k) (λ i. reopened (state_at m i)) m.states) (rewritten (start_of m k) (length_of m k) (λ i. cond (is_estimated (status_at m i)) 0 (entry_at m i)) m.values) m

abbrev pub closed : Model → Model
closed m = record {
  opening = m.opening;
  intervals = m.intervals;
  readings = m.readings;
  states = m.states;
  values = m.values;
  owing = m.owing;
  posted = true;
}

-- what an accepted call changes
abbrev pub changed : Call → Model → Model
changed (delivery number drift bytes) m = delivered bytes m
changed (reading b x) m = entered b x m
changed (rule k f) m = ruled k f m
changed (verification a len) m = verified a len m
changed (settlement k P) m = settled k P m
changed (filling k P) m = filled k P m
changed (withdrawal k) m = withdrawn k m
changed posting m = closed m
