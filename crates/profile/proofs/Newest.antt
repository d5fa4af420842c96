-- The days that the pass over a sheet picks, and what it adds up over them.
use Rattle.std.proofs.Common.{◌≡◌, ℕ, Bool, List, length, take, map, sum, filter, Bor, map-id}
use Rattle.std.proofs.Math.Nat.{sub-zero}
use denote.Param.Members.{Mut}
use Rattle.std.specs.declared.iter.Filter.{Filter}
use Rattle.std.specs.declared.iter.Take.{Take}
use Rattle.std.specs.declared.ops.Range.{Range}
use Rattle.std.specs.Fn.{CalledAt}
use Rattle.std.specs.Iterator.Adapters.{filter_source, filter_callee, filter_steps, take_source, take_count, take_steps}
use Rattle.std.specs.List.{range_with_len}
use Rattle.std.proofs.iter.Yields.{nat_range_steps}
use Rattle.std.proofs.lemmas.List.{length-map}
use Rattle.std.proofs.lemmas.Iterator.{YieldsList, YieldsList-from_range, YieldsList-from_take}
use Rattle.std.proofs.lemmas.Iterator.Consumers.{YieldsList-at, YieldsList-from_filter}

-- the three newest of n days that pass
abbrev pub newest_of : (ℕ → Bool) → ℕ → List ℕ
newest_of p n = take 3 (filter p (range_with_len 0 n))

-- they are what a chain of `filter` and `take` over the days gives
pub newest_given : {F : Type 0} (g : Mut F (Bor ℕ × Unit {0}) Bool) (p : ℕ → Bool) (n : ℕ) {f : F} {passing : Filter (Range ℕ) F} {first it : Take (Filter (Range ℕ) F)}
    → filter_source passing ≡ record { start = 0; end = n } → filter_callee passing ≡ f
    → ((j : ℕ) (b : Bool) (f' : F) → CalledAt g f j b f' → (f' ≡ f) × (b ≡ p j))
    → take_source first ≡ passing → take_count first ≡ 3 → it ≡ first
    → YieldsList (take_steps (filter_steps nat_range_steps g)) (λ j. j) it (newest_of p n)
newest_given g p n days callee calls passing three same =
    let similar_days = YieldsList-from_filter g p (YieldsList-from_range 0 n n days (sub-zero n)) callee calls
    in YieldsList-at same (YieldsList-from_take 3 (YieldsList-at passing similar_days) three)

-- what was added up and counted over the days that were given is the sum and the number of their counts
pub tallied : (count : ℕ → ℕ) (given days : List ℕ) (total found : ℕ) → map (λ j. j) given ≡ days → total ≡ sum (map count given) → found ≡ length given → ◌≡◌ {A = ℕ × ℕ} (total, found) (sum (map count days), length (map count days))
tallied count given days total found all sums finds = cc (map-id given, length-map days count)
