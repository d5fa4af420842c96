-- One more reading at the end of a row.
use Rattle.std.proofs.Common.{◌≡◌, ℕ, ◌^◌, ◌<◌, ◌≤◌, true, List, [], ◌∷◌, ◌++◌, arith}
use Rattle.std.proofs.lemmas.Grind.{common_steps}
use Rattle.readings.specs.declared.reading.Reading.{Reading}
use Rattle.readings.specs.Rising.{Rising, Within, Dialled}
use Rattle.readings.specs.Entering.{above_last}

pub within_push : (n : ℕ) (rs : List Reading) (x : Reading) → Within n rs → x.boundary ≤ n → Within n (rs ++ (x ∷ []))
within_push n rs x within fits = grind (arith, common_steps)

pub dialled_push : (g : ℕ) (rs : List Reading) (x : Reading) → Dialled g rs → x.register < 10 ^ g → Dialled g (rs ++ (x ∷ []))
dialled_push g rs x dialled shown = grind (arith, common_steps)

pub rising_push : (rs : List Reading) (x : Reading) → Rising rs → above_last rs x.boundary ≡ true → Rising (rs ++ (x ∷ []))
rising_push rs x rising above = grind (arith, common_steps)
