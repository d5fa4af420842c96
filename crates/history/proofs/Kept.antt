-- What every history keeps true of the book that it leads to. It speaks of a history only through the words below, so
-- that a call which changes none of them needs no argument about the history.
use Rattle.std.proofs.Common.{◌≡◌, ℕ, ◌-◌, ◌<◌, ◌≤◌, Bool, true, false, cond, ◌⊎◌, List, length, is_some, Some, Option}
use Rattle.intervals.specs.declared.interval.Interval.{Interval}
use Rattle.readings.specs.declared.reading.Reading.{Reading}
use Rattle.readings.specs.Regions.{inner, region_count}
use Rattle.readings.specs.Rising.{Rising, Within}
use Rattle.sharing.specs.declared.state.Status.{Status}
use Rattle.sharing.specs.declared.state.Status.TheVariants.{Raw, Measured, Verified, Open, Estimated}
use Rattle.sharing.specs.Laws.{Near}
use Rattle.sharing.specs.Weights.{weight_of, open_status}
use Rattle.history.specs.Answers.{owes, out_of_balance}
use Rattle.history.specs.Calls.{Weighing}
use Rattle.history.specs.History.{History, opening_of, readings_of, delivered_at, Questioned, used, was_posted}
use Rattle.history.specs.Model.{Opening, Model, places, interval_at, pulses_at, sound_at, state_at, status_at, entry_at, is_measured, is_estimated, start_of, end_of, length_of, advance_of, some_in, values_of}
use Rattle.history.specs.Stretches.{total}

-- what a history says
pub record Words : Type 1 where
  pub opening : Opening
  pub readings : List Reading
  pub delivered : ℕ → Interval
  pub questioned : ℕ → Type 0
  pub used : ℕ → Option Weighing
  pub posted : Bool

abbrev pub words_of : History → Words
words_of h = record {
  opening = opening_of h;
  readings = readings_of h;
  delivered = delivered_at h;
  questioned = Questioned h;
  used = used h;
  posted = was_posted h;
}

-- the amount shared in a region and the weights behind it, read off the estimates that stand
abbrev pub shared_amount : Model → ℕ → ℕ
shared_amount m k = advance_of m k - total (λ i. cond (is_estimated (status_at m i)) 0 (pulses_at m i)) (start_of m k) (length_of m k)

abbrev pub shared_weight : Model → ℕ → Weighing → ℕ
shared_weight m k P = total (λ i. cond (is_estimated (status_at m i)) (weight_of (P i)) 0) (start_of m k) (length_of m k)

-- the grounds on which a place has its status: whether its condition is sound, and its marks
abbrev pub Doubtful : Bool → ℕ → Type 0
Doubtful sound marks = (sound ≡ false) ⊎ (marks ≡ 0 → ⊥)

abbrev pub Grounds : Status → Bool → ℕ → Type 0
Grounds Raw sound marks = Unit {0}
Grounds Measured sound marks = (sound ≡ true) × (marks ≡ 0)
Grounds Verified sound marks = (sound ≡ true) × (marks ≡ 0 → ⊥)
Grounds Open sound marks = Doubtful sound marks
Grounds Estimated sound marks = Doubtful sound marks

pub record SettledIn (w : Words) (m : Model) (k : ℕ) : Type 0 where
  pub adds : values_of m k ≡ advance_of m k
  pub profile : Weighing
  pub last : w.used k ≡ Some profile
  pub weighed : (i : ℕ) → start_of m k ≤ i → i < end_of m k → is_estimated (status_at m i) ≡ true → is_some (profile i) ≡ true
  pub shared : (i : ℕ) → start_of m k ≤ i → i < end_of m k → is_estimated (status_at m i) ≡ true → Near (shared_amount m k) (shared_weight m k profile) (weight_of (profile i)) (entry_at m i)

-- no place is open, and no region is out of balance
pub record PostedIn (m : Model) : Type 0 where
  pub paid : owes m ≡ false
  pub complete : (i : ℕ) → i < places m → open_status (status_at m i) ≡ false
  pub balanced : (k : ℕ) → k < region_count m.readings → out_of_balance m k ≡ false

pub record Kept (w : Words) (m : Model) : Type 0 where
  pub opening : m.opening ≡ w.opening
  pub readings : m.readings ≡ w.readings
  -- some rule is owed
  pub owed : m.opening.owed ≡ 0 → ⊥
  pub rising : Rising m.readings
  pub within : Within (places m) m.readings
  pub intervals_long : length m.intervals ≡ places m
  pub states_long : length m.states ≡ places m
  pub values_long : length m.values ≡ places m
  pub held : (i : ℕ) → i < places m → interval_at m i ≡ w.delivered i
  pub posting : m.posted ≡ w.posted
  -- while a rule is owing every place is raw, and else none is
  pub raw : owes m ≡ true → (i : ℕ) → i < places m → status_at m i ≡ Raw
  pub judged : owes m ≡ false → (i : ℕ) → i < places m → status_at m i ≡ Raw → ⊥
  -- a mark comes from a rule that questioned the place, and each that did left one
  pub marks : (i : ℕ) → i < places m → ((state_at m i).marks ≡ 0 → ⊥) → w.questioned i
  pub marked : (i : ℕ) → i < places m → w.questioned i → (state_at m i).marks ≡ 0 → ⊥
  pub counted : (i : ℕ) → i < places m → is_measured (status_at m i) ≡ true → entry_at m i ≡ pulses_at m i
  pub empty : (i : ℕ) → i < places m → open_status (status_at m i) ≡ true → entry_at m i ≡ 0
  pub grounds : (i : ℕ) → i < places m → Grounds (status_at m i) (sound_at m i) (state_at m i).marks
  -- a region with an estimate has no open place
  pub whole : (k : ℕ) → k < region_count m.readings → some_in m k is_estimated ≡ true → some_in m k open_status ≡ false
  pub settled : (k : ℕ) → inner m.readings k ≡ true → some_in m k is_estimated ≡ true → SettledIn w m k
  pub closed : m.posted ≡ true → PostedIn m
