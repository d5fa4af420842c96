-- A register that passes its last number begins again at 0: what its advance says of two readings.
use Rattle.std.proofs.Common.{◌≡◌, ℕ, ◌+◌, ◌-◌, ◌%◌, ◌^◌, ◌<◌, true, ltb, List, length, get_or, ⊎_elim, mod-lt, arith}
use native.Mathlib.Nat.{one-le-pow}
use Rattle.std.proofs.lemmas.Bool.{and_parts, ltb-true, cases_Bool, cond-true, cond-false}
use Rattle.readings.specs.declared.reading.Reading.{Reading}
use Rattle.readings.specs.Rising.{no_reading}
use Rattle.constants.specs.Dials.{advance_between}
use Rattle.readings.specs.Regions.{inner, advance}
use Rattle.readings.specs.Laws.{Rolls}
use Rattle.std.proofs.lemmas.Grind.{common_steps}

dials_show : (g : ℕ) → 0 < 10 ^ g
dials_show g = one-le-pow g 10 (omega arith)

-- less than once round
pub advance_below : (g earlier later : ℕ) → advance_between g earlier later < 10 ^ g
advance_below g e l = mod-lt (l + 10 ^ g - e) (dials_show g)

-- the dials go from the earlier reading to the later one
pub advance_arrives : (g earlier later : ℕ) → earlier < 10 ^ g → later < 10 ^ g → (earlier + advance_between g earlier later) % 10 ^ g ≡ later
advance_arrives g e l below-e below-l = grind (arith, common_steps)

inner_advance : (g : ℕ) (rs : List Reading) (k : ℕ) → inner rs k ≡ true → advance g rs k ≡ advance_between g (get_or rs (k - 1) no_reading).register (get_or rs k no_reading).register
inner_advance g rs k e = cond-true (inner rs k) _ _ e

pub region_rolls : (g : ℕ) (rs : List Reading) (k : ℕ) → Rolls g rs k
region_rolls g rs k = record {
  below = ⊎_elim
      (λ e. rw (inner_advance g rs k e) (advance_below g (get_or rs (k - 1) no_reading).register (get_or rs k no_reading).register))
      (λ e. rw (cond-false (inner rs k) (advance_between g (get_or rs (k - 1) no_reading).register (get_or rs k no_reading).register) 0 e) (dials_show g))
      (cases_Bool (inner rs k));
  arrives = λ e shown.
      let p = and_parts (ltb 0 k) (ltb k (length rs)) e in
      let low : 0 < k = ltb-true 0 k p.0 in
      let high : k < length rs = ltb-true k (length rs) p.1 in
      rw (inner_advance g rs k e) (advance_arrives g (get_or rs (k - 1) no_reading).register (get_or rs k no_reading).register (shown (k - 1) (omega arith)) (shown k high));
}
