-- The regions of readings whose boundaries rise cover the cycle, each place once and in order.
use Rattle.std.proofs.Common.{◌≡◌, ℕ, zero, suc, ◌-◌, ◌<◌, ◌≤◌, eqb, ltb, List, [], ◌∷◌, length, get_or, ⊎_elim, arith}
use Rattle.std.proofs.lemmas.Bool.{cases_lt, cases_order, lt-ltb, le-ltb, ne_eqb, cond-true, cond-false}
use Rattle.std.proofs.lemmas.Bool.Decides.{leb_tells}
use Rattle.readings.specs.declared.reading.Reading.{Reading}
use Rattle.readings.specs.Rising.{no_reading, Rising, Within}
use Rattle.readings.specs.Regions.{region_count, region_start, region_end, region_at}
use Rattle.readings.specs.Laws.{LiesIn, OnlyRegion, Ordered}
use Rattle.std.proofs.lemmas.Grind.{common_steps}

abbrev edge : List Reading → ℕ → ℕ
edge rs j = (get_or rs j no_reading).boundary

rising_rest : (r : Reading) (rs : List Reading) → Rising (r ∷ rs) → Rising rs
rising_rest r rs up i j h l = up (suc i) (suc j) (omega arith) (omega arith)

pub region_at_most : (rs : List Reading) (i : ℕ) → region_at rs i ≤ length rs
region_at_most [] i = omega arith
region_at_most (r ∷ rs) i =
    let h = region_at_most rs i in
    ⊎_elim (λ e. rw e.0 (omega arith)) (λ e. rw e.0 (omega arith)) (leb_tells r.boundary i)

-- the readings that are counted at a place stand at it or before it
pub counted_before : (rs : List Reading) (i j : ℕ) → Rising rs → j < region_at rs i → edge rs j ≤ i
counted_before [] i j up h = omega arith
counted_before (r ∷ rs) i zero up h =
    ⊎_elim (λ e. e.1)
    (λ e. let k : 0 < region_at rs i = omega (arith, rw e.0 at h) in
    let l = region_at_most rs i in
    let first = counted_before rs i 0 (rising_rest r rs up) k in
    omega (arith, up 0 1 (omega arith) (omega arith)))
    (leb_tells r.boundary i)
counted_before (r ∷ rs) i (suc j) up h =
    counted_before rs i j (rising_rest r rs up)
    (⊎_elim (λ e. omega (arith, rw e.0 at h)) (λ e. omega (arith, rw e.0 at h)) (leb_tells r.boundary i))

-- the others stand after it
pub uncounted_after : (rs : List Reading) (i j : ℕ) → Rising rs → j < length rs → region_at rs i ≤ j → i < edge rs j
uncounted_after [] i j up l h = omega arith
uncounted_after (r ∷ rs) i zero up l h =
    ⊎_elim (λ e. absurd (let k : ⊥ = omega (arith, rw e.0 at h) in k)) (λ e. e.1) (leb_tells r.boundary i)
uncounted_after (r ∷ rs) i (suc j) up l h =
    ⊎_elim
    (λ e. uncounted_after rs i j (rising_rest r rs up) (omega arith) (omega (arith, rw e.0 at h)))
    (λ e. omega (arith, e.1, up 0 (suc j) (omega arith) l))
    (leb_tells r.boundary i)

start_above : (rs : List Reading) (k : ℕ) → 0 < k → region_start rs k ≡ edge rs (k - 1)
start_above rs k h = cond-false (eqb k 0) 0 (edge rs (k - 1)) (ne_eqb k 0 (λ e. omega arith))

end_before : (n : ℕ) (rs : List Reading) (k : ℕ) → k < length rs → region_end n rs k ≡ edge rs k
end_before n rs k h = cond-true (ltb k (length rs)) (edge rs k) n (lt-ltb k (length rs) h)

end_last : (n : ℕ) (rs : List Reading) (k : ℕ) → length rs ≤ k → region_end n rs k ≡ n
end_last n rs k h = cond-false (ltb k (length rs)) (edge rs k) n (le-ltb k (length rs) h)

start_at_counted : (rs : List Reading) (i k : ℕ) → Rising rs → k ≤ region_at rs i → region_start rs k ≤ i
start_at_counted rs i zero up h = omega arith
start_at_counted rs i (suc k) up h = omega (arith, start_above rs (suc k) (omega arith), counted_before rs i (suc k - 1) up (omega arith))

end_past_counted : (n : ℕ) (rs : List Reading) (i k : ℕ) → Rising rs → i < n → region_at rs i ≤ k → i < region_end n rs k
end_past_counted n rs i k up h l =
    ⊎_elim (λ b. omega (arith, end_before n rs k b, uncounted_after rs i k up b l)) (λ b. omega (arith, end_last n rs k b)) (cases_lt k (length rs))

same_region : (n : ℕ) (rs : List Reading) (i j : ℕ) → Rising rs → j < region_count rs → LiesIn n rs i j → j ≡ region_at rs i
same_region n rs i j up h l =
    ⊎_elim (λ e. e)
    (⊎_elim
    (λ b. let m = region_at_most rs i in absurd (let z : ⊥ = omega (arith, l.1, end_before n rs j (omega arith), counted_before rs i j up b) in z))
    (λ b. absurd (let z : ⊥ = omega (arith, l.0, start_above rs j (omega arith), uncounted_after rs i (j - 1) up (omega arith) (omega arith)) in z)))
    (cases_order j (region_at rs i))

-- each place of the cycle lies in the region counted for it, and in no other
pub region_covers : (n : ℕ) (rs : List Reading) (i : ℕ) → Rising rs → i < n → OnlyRegion n rs i (region_at rs i)
region_covers n rs i up h = record {
  known = omega (arith, region_at_most rs i);
  lies = (start_at_counted rs i (region_at rs i) up (omega arith), end_past_counted n rs i (region_at rs i) up h (omega arith));
  alone = λ j b l. same_region n rs i j up b l;
}

pub regions_ordered : (n : ℕ) (rs : List Reading) (k : ℕ) → Rising rs → Within n rs → Ordered n rs k
regions_ordered n rs k up w = grind (arith, common_steps)
