-- A book without estimates: what is kept of estimates holds of it at once.
use Rattle.std.proofs.Common.{◌≡◌, ℕ, ◌<◌, true, false, arith}
use Rattle.std.proofs.lemmas.Bool.{both_ways}
use Rattle.readings.specs.Regions.{inner, region_count}
use Rattle.readings.specs.Rising.{Rising, Within}
use Rattle.readings.proofs.Covering.{regions_ordered}
use Rattle.sharing.specs.Weights.{open_status}
use Rattle.history.specs.Model.{Model, places, status_at, is_estimated, start_of, length_of, some_in}
use Rattle.history.proofs.Kept.{Words, SettledIn}
use Rattle.history.proofs.Stretches.{no_anywhere}

module _ (w : Words) (m : Model) (up : Rising m.readings) (inside : Within (places m) m.readings) (none : (i : ℕ) → i < places m → is_estimated (status_at m i) ≡ false) where
  none_in : (k : ℕ) → some_in m k is_estimated ≡ false
  none_in k =
      let o = regions_ordered (places m) m.readings k up inside in
      no_anywhere (λ i. is_estimated (status_at m i)) (start_of m k) (length_of m k) (λ i low high. none i (omega (arith, o.forward, o.inside)))

  pub none_whole : (k : ℕ) → k < region_count m.readings → some_in m k is_estimated ≡ true → some_in m k open_status ≡ false
  none_whole k h e = absurd (both_ways (some_in m k is_estimated) (none_in k) e)

  pub none_settled : (k : ℕ) → inner m.readings k ≡ true → some_in m k is_estimated ≡ true → SettledIn w m k
  none_settled k h e = absurd (both_ways (some_in m k is_estimated) (none_in k) e)
