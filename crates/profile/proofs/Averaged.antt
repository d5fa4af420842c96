-- No average of kept counts is above 65,535, the most that a place may count.
use Rattle.std.proofs.Common.{◌≡◌, ℕ, ◌/◌, ◌≤◌, IsTrue, List, [], ◌∷◌, length, get_or, sum, refl, arith}
use Rattle.std.proofs.Math.Nat.{div-le_of_le-mul}
use Rattle.std.specs.Option.{option_map}
use Rattle.std.specs.List.{All}
use Rattle.std.proofs.lemmas.Grind.{common_steps}
use Rattle.std.proofs.lemmas.Bool.Decides.{nat_tests}
use Rattle.std.proofs.lemmas.List.Sums.{sum_by-le}
use Rattle.std.proofs.lemmas.List.Elements.{All-map}
use Rattle.profile.specs.declared.method.Method.{Method}
use Rattle.profile.specs.declared.method.Method.TheVariants.{ReferenceDays}
use Rattle.profile.specs.Codes.{method_code}
use Rattle.profile.specs.Meanings.{weighed}
use Rattle.profile.specs.PastDays.{PastDays, counts_kept}
use Rattle.profile.specs.Averages.{average, reference_counts}
use Rattle.profile.specs.Laws.{WeighsByAverage}

weighed_all : (m : Method) (xs : List ℕ) → All (λ x. x ≤ 65535) xs → weighed m (average xs) ≡ option_map (λ w. (w, method_code m)) (average xs)
weighed_all m [] all = refl
weighed_all m (x ∷ xs) all =
    let small : sum (x ∷ xs) / length (x ∷ xs) ≤ 65535 = div-le_of_le-mul (length (x ∷ xs)) (sum_by-le (λ y. y) 65535 (x ∷ xs) all)
    in grind (arith, nat_tests)

kept_at : (xs : List ℕ) (i : ℕ) → IsTrue (counts_kept xs) → get_or xs i 0 ≤ 65535
kept_at xs i kept = grind (arith, common_steps)

pub weighs_by_average : (d : PastDays) → IsTrue (counts_kept d.counts) → WeighsByAverage d
weighs_by_average d kept place = weighed_all ReferenceDays (reference_counts d place) (All-map (λ x. x ≤ 65535) _ _ (λ _ _ _. kept_at d.counts _ kept))
