-- What is kept lasts through an accepted posting.
use Rattle.std.proofs.Common.{◌≡◌, ℕ, true, None, refl, arith}
use Rattle.fault.specs.declared.refusal.Refusal.TheVariants.{BookPosted, RuleStillOwing, PlaceStillOpen, RegionOutOfBalance}
use Rattle.readings.specs.Regions.{region_count}
use Rattle.sharing.specs.Weights.{is_open}
use Rattle.history.specs.Answers.{refusal, when, at, owes, out_of_balance}
use Rattle.history.specs.Calls.{posting, closed}
use Rattle.history.specs.Model.{Model, places, state_at}
use Rattle.history.specs.Stretches.{first_where}
use Rattle.history.proofs.Checks.{passed, not_when, nowhere}
use Rattle.history.proofs.Kept.{Words, Kept, SettledIn, PostedIn}
use Rattle.history.proofs.Stretches.{none_where}

abbrev pub after_posting : Words → Words
after_posting w = record {
  opening = w.opening;
  readings = w.readings;
  delivered = w.delivered;
  questioned = w.questioned;
  used = w.used;
  posted = true;
}

posted_in : (m : Model) → refusal posting m ≡ None → PostedIn (closed m)
posted_in m e =
    let unposted = passed (when BookPosted m.posted) _ e in
    let owing = passed (when RuleStillOwing (owes m)) _ unposted.1 in
    let open-places = passed (at PlaceStillOpen (first_where (λ i. is_open (state_at m i)) 0 (places m))) _ owing.1 in
    let regions = passed (at RegionOutOfBalance (first_where (out_of_balance m) 0 (region_count m.readings))) _ open-places.1 in
    record {
      paid = not_when RuleStillOwing (owes m) owing.0;
      complete = λ i h. none_where (λ j. is_open (state_at m j)) 0 (places m) (nowhere PlaceStillOpen _ open-places.0) i (omega arith) (omega arith);
      balanced = λ k h. none_where (out_of_balance m) 0 (region_count m.readings) (nowhere RegionOutOfBalance _ regions.0) k (omega arith) (omega arith);
    }

settled_in : (w : Words) (m : Model) (k : ℕ) → SettledIn w m k → SettledIn (after_posting w) (closed m) k
settled_in w m k s = record { adds = s.adds; profile = s.profile; last = s.last; weighed = s.weighed; shared = s.shared }

pub kept_posting : (w : Words) (m : Model) → Kept w m → refusal posting m ≡ None → Kept (after_posting w) (closed m)
kept_posting w m c e = record {
  opening = c.opening;
  readings = c.readings;
  owed = c.owed;
  rising = c.rising;
  within = c.within;
  intervals_long = c.intervals_long;
  states_long = c.states_long;
  values_long = c.values_long;
  held = c.held;
  posting = refl;
  raw = c.raw;
  judged = c.judged;
  marks = c.marks;
  marked = c.marked;
  counted = c.counted;
  empty = c.empty;
  grounds = c.grounds;
  whole = c.whole;
  settled = λ k inner some. settled_in w m k (c.settled k inner some);
  closed = λ _. posted_in m e;
}
