-- The places of a region are answered alike.
use Rattle.std.proofs.Common.{◌≡◌, ℕ, ◌<◌, ◌≤◌, Bool, sym, ap, ◌∙◌, arith}
use Rattle.std.proofs.lemmas.Bool.{lt-ltb}
use Rattle.held.specs.HeldData.{HeldData, places}
use Rattle.readings.specs.Laws.{LiesIn}
use Rattle.readings.specs.Regions.{region_at, region_end}
use Rattle.readings.specs.Rising.{Rising, Within}
use Rattle.readings.proofs.Covering.{region_covers, regions_ordered}
use Rattle.validation.specs.Sums.{region_questioned, sum_questions}

-- a place of the cycle is answered as its region is
of_region : (h : HeldData) (i : ℕ) → i < places h → sum_questions h i ≡ region_questioned h (region_at h.readings i)
of_region h i inside = rw (lt-ltb i (places h) inside)

-- every place that lies in the region of place i is answered as that region is
pub same_region : (h : HeldData) (i j : ℕ) → Rising h.readings → Within (places h) h.readings → i < places h → LiesIn (places h) h.readings j (region_at h.readings i) → sum_questions h j ≡ sum_questions h i
same_region h i j up within inside lies =
    let k : ℕ = region_at h.readings i in
    let b : j < places h = omega (arith, lies.1, (regions_ordered (places h) h.readings k up within).inside) in
    let e : k ≡ region_at h.readings j = (region_covers (places h) h.readings j up b).alone k (region_covers (places h) h.readings i up inside).known lies in
    of_region h j b ∙ ap (region_questioned h) (sym e) ∙ sym (of_region h i inside)

-- up to the end of the region at hand every place from i on is answered s
abbrev Answered : HeldData → ℕ → ℕ → Bool → Type 0
Answered h i end s = (j : ℕ) → i ≤ j → j < end → sum_questions h j ≡ s

-- before place i is looked at: the region at hand may end there
abbrev pub Reached : HeldData → ℕ → ℕ → Bool → Type 0
Reached h i end s = (i < places h → i ≤ end) × Answered h i end s

-- once it is looked at: the region at hand is its own
abbrev pub AtHand : HeldData → ℕ → ℕ → Bool → Type 0
AtHand h i end s = (i < places h → i < end) × Answered h i end s

pub begun : (h : HeldData) (i : ℕ) → Rising h.readings → Within (places h) h.readings → AtHand h i (region_end (places h) h.readings (region_at h.readings i)) (region_questioned h (region_at h.readings i))
begun h i up within = (
  λ inside. (region_covers (places h) h.readings i up inside).lies.1,
  λ j l m.
      let inside : i < places h = omega (arith, (regions_ordered (places h) h.readings (region_at h.readings i) up within).inside) in
      let lies = (region_covers (places h) h.readings i up inside).lies in
      same_region h i j up within inside (omega (arith, lies.0), m) ∙ of_region h i inside,
)
