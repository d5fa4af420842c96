-- What an accepted call has passed.
use Rattle.std.proofs.Common.{◌≡◌, ℕ, Bool, true, false, not, List, ◌∷◌, Some, None, Option, refl, arith}
use Rattle.fault.specs.declared.record.Fault.{Fault}
use Rattle.fault.specs.declared.refusal.Refusal.{Refusal}
use Rattle.history.specs.Answers.{when, at, first}

pub passed : (x : Option Fault) (xs : List (Option Fault)) → first (x ∷ xs) ≡ None → (x ≡ None) × (first xs ≡ None)
passed None xs e = (refl, e)
passed (Some f) xs e = let z : ◌≡◌ {A = ℕ} 0 1 = cc in absurd (omega arith)

pub not_when : (r : Refusal) (b : Bool) → when r b ≡ None → b ≡ false
not_when r false e = refl
not_when r true e = let z : ◌≡◌ {A = ℕ} 0 1 = cc in absurd (omega arith)

-- a check that turns down what does not hold
pub unless : (r : Refusal) (b : Bool) → when r (not b) ≡ None → b ≡ true
unless r true e = refl
unless r false e = let z : ◌≡◌ {A = ℕ} 0 1 = cc in absurd (omega arith)

pub nowhere : (r : Refusal) (o : Option ℕ) → at r o ≡ None → o ≡ None
nowhere r None e = refl
nowhere r (Some p) e = let z : ◌≡◌ {A = ℕ} 0 1 = cc in absurd (omega arith)
