-- Counting the readings that stand at a place or before it: as boundaries rise, they stand before all others.
use Rattle.std.proofs.Common.{◌≡◌, ℕ, zero, suc, ◌≤◌, Bool, true, false, leb, List, [], ◌∷◌, length, get_or, ap, subst, ⊎_elim, arith}
use Rattle.std.specs.List.Sorted.{IsPartitionedBy, IsPartitionPoint}
use Rattle.std.proofs.lemmas.List.{get_or_default}
use Rattle.std.proofs.lemmas.Bool.{leb-true, le-leb, cases_lt}
use Rattle.readings.specs.declared.reading.Reading.{Reading}
use Rattle.readings.specs.Rising.{no_reading, Rising}
use Rattle.readings.specs.Regions.{region_at}

abbrev pub stands_by : ℕ → Reading → Bool
stands_by place r = leb r.boundary place

pub partitioned : (rs : List Reading) (place : ℕ) → Rising rs → IsPartitionedBy (stands_by place) rs
partitioned rs place up i j d h l e =
    ⊎_elim
    (λ b. let later = leb-true (get_or rs j d).boundary place e in
    let before = up i j b l in
    let earlier = ap (λ r. r.boundary) (get_or_default rs i d no_reading (omega arith)) in
    let last = ap (λ r. r.boundary) (get_or_default rs j d no_reading l) in
    le-leb (get_or rs i d).boundary place (omega arith))
    (λ b. let same : j ≡ i = omega arith in subst (λ k. stands_by place (get_or rs k d) ≡ true) same e)
    (cases_lt i j)

pub partition_counts : (rs : List Reading) (place k : ℕ) → k ≤ length rs → IsPartitionPoint (λ r. stands_by place r ≡ true) (λ r. stands_by place r ≡ false) rs k → k ≡ region_at rs place
partition_counts [] place k h p = omega arith
partition_counts (r ∷ rs) place zero h p =
    let rest = partition_counts rs place zero (omega arith) (λ i d l b. absurd (omega arith), λ i d l b. p.1 (suc i) d (omega arith) (omega arith)) in
    rw (p.1 0 no_reading (omega arith) (omega arith)) (omega (arith, rest))
partition_counts (r ∷ rs) place (suc k) h p =
    let rest = partition_counts rs place k (omega arith) (λ i d l b. p.0 (suc i) d (omega arith) (omega arith), λ i d l b. p.1 (suc i) d (omega arith) (omega arith)) in
    rw (p.0 0 no_reading (omega arith) (omega arith)) (omega (arith, rest))
