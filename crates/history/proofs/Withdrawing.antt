-- Withdrawal opens the estimated places of a region, after which no estimate stands there.
use Rattle.std.proofs.Common.{◌≡◌, ℕ, ◌<◌, true, None, refl, arith}
use Rattle.std.proofs.lemmas.Bool.{both_ways, leb-false, false≢true}
use Rattle.fault.specs.declared.refusal.Refusal.TheVariants.{PlacesOrRegionUnfit}
use Rattle.readings.specs.Regions.{region_count}
use Rattle.sharing.specs.declared.state.Status.TheVariants.{Open}
use Rattle.history.specs.Answers.{no_region, refusal}
use Rattle.history.specs.Calls.{withdrawal, with_status, withdrawn}
use Rattle.history.specs.Model.{Model, places, sound_at, state_at, status_at, is_estimated, some_in}
use Rattle.history.proofs.Changed.{Turned, estimated_doubtful}
use Rattle.history.proofs.Checks.{passed, not_when}
use Rattle.history.proofs.Filling.{kept_turned}
use Rattle.history.proofs.Kept.{Words, Kept}
use Rattle.history.proofs.Verifying.{ready}

-- an estimated place may be opened again
openable : (w : Words) (m : Model) → Kept w m → (i : ℕ) → i < places m → is_estimated (status_at m i) ≡ true → Turned m i (with_status Open 0 (state_at m i)) 0
openable w m kept i within estimated = record {
  marks = refl;
  not_raw = λ e. let z : ◌≡◌ {A = ℕ} 0 1 = cc in omega arith;
  counted = λ e. absurd (false≢true e);
  empty = λ _. refl;
  grounds = estimated_doubtful (status_at m i) (sound_at m i) (state_at m i).marks estimated (kept.grounds i within);
}

pub kept_withdrawal : (w : Words) (m : Model) (k : ℕ) → Kept w m → refusal (withdrawal k) m ≡ None → Kept w (withdrawn k m)
kept_withdrawal w m k kept e =
    let began = ready m _ e in
    let known = leb-false (region_count m.readings) k (not_when PlacesOrRegionUnfit (no_region m k) (passed _ _ began.further).0) in
    kept_turned w m k is_estimated Open (λ _. 0) (λ _. 0) kept known began.paid began.unposted refl
    (openable w m kept)
    (λ none some. absurd (both_ways (some_in (withdrawn k m) k is_estimated) none some))
