-- What keeps the definitions of the calls honest: laws of single calls and of calls in a row.
use Rattle.std.specs.Prelude.{◌≡◌, ℕ, ◌<◌, ◌≤◌, Bool, true, false, ◌&&◌, ◌||◌, ◌⊎◌, List, [], ◌∷◌, Some, Option, ◌==◌, nat_le}
use Rattle.fault.specs.declared.record.Fault.{Fault}
use Rattle.fault.specs.declared.refusal.Refusal.TheVariants.{BookPosted, RuleStillOwing, NothingToChange}
use Rattle.fault.specs.Faults.{fault_at}
use Rattle.fault.specs.Numbers.{refusal_number}
use Rattle.history.specs.Answers.{done, refused, answer, after, checks, owes}
use Rattle.history.specs.Calls.{Call, delivery, reading, rule, verification, settlement, filling, withdrawal, posting, Questioning, Weighing}
use Rattle.history.specs.History.{History, Of, accepted}
use Rattle.history.specs.Model.{Model, has_bit, held_of, places, state_at}

-- A call that is refused changes nothing.
abbrev pub RefusedUnchanged : Type 0
RefusedUnchanged = (c : Call) (m : Model) (f : Fault) → answer c m ≡ refused f → after c m ≡ m

-- A posted book turns every call down.
abbrev pub PostedIsClosed : Type 0
PostedIsClosed = (c : Call) (m : Model) → m.posted ≡ true → answer c m ≡ refused (fault_at BookPosted 0)

abbrev pub waits_for_rules : Call → Bool
waits_for_rules (delivery number drift bytes) = false
waits_for_rules (reading b x) = false
waits_for_rules (rule k f) = false
waits_for_rules (verification a len) = true
waits_for_rules (settlement k P) = true
waits_for_rules (filling k P) = true
waits_for_rules (withdrawal k) = true
waits_for_rules posting = true

-- As long as an owed rule has not run, such a call is turned down for that.
abbrev pub RulesComeFirst : Type 0
RulesComeFirst = (c : Call) (m : Model) → waits_for_rules c ≡ true → m.posted ≡ false → owes m ≡ true → answer c m ≡ refused (fault_at RuleStillOwing 0)

-- one of the checks turns a call down with this fault
abbrev pub Applies : Fault → List (Option Fault) → Type 0
Applies g [] = ⊥
Applies g (x ∷ xs) = (x ≡ Some g) ⊎ Applies g xs

-- Of the refusals that apply the one with the lowest number is returned.
abbrev pub LowestReturned : Type 0
LowestReturned = (c : Call) (m : Model) (f g : Fault) → answer c m ≡ refused f → Applies g (checks c m) → refusal_number f.refusal ≤ refusal_number g.refusal

-- An accepted run sets the rule's own bit at exactly the places that it questions, and no other bit.
abbrev pub MarkedExactly : Type 0
MarkedExactly = (k : ℕ) (f : Questioning) (m : Model) → accepted (answer (rule k f) m) ≡ true → (i : ℕ) → i < places m → (j : ℕ) → has_bit (state_at (after (rule k f) m) i).marks j ≡ (has_bit (state_at m i).marks j || (j == k && f (held_of m) i))

-- A settled region has nothing left to settle, with any profile.
abbrev pub SettledOnce : Type 0
SettledOnce = (m : Model) (k : ℕ) (P Q : Weighing) → accepted (answer (settlement k P) m) ≡ true → answer (settlement k Q) (after (settlement k P) m) ≡ refused (fault_at NothingToChange 0)

-- a book whose region k can be withdrawn and settled again, and is then the same
pub record Resettled (k : ℕ) (P : Weighing) (m : Model) : Type 0 where
  pub withdrawn : answer (withdrawal k) m ≡ done
  pub settled : answer (settlement k P) (after (withdrawal k) m) ≡ done
  pub same : after (settlement k P) (after (withdrawal k) m) ≡ m

-- A settlement that is withdrawn and made again with the same profile gives the same book.
abbrev pub SettledAgain : Type 0
SettledAgain = (h : History) (m : Model) (k : ℕ) (P : Weighing) → Of h m → accepted (answer (settlement k P) m) ≡ true → Resettled k P (after (settlement k P) m)

-- a call on a book gives the refusals 5 to 18 and 20 to 26; six of them name a place or a region
abbrev pub of_book : ℕ → Bool
of_book n = (nat_le 5 n && nat_le n 18) || (nat_le 20 n && nat_le n 26)

abbrev pub positioned : ℕ → Bool
positioned n = (n == 10 || (n == 11 || n == 20)) || (n == 23 || (n == 25 || n == 26))

pub record OfBook (f : Fault) : Type 0 where
  pub made : f ≡ fault_at f.refusal f.position
  pub listed : of_book (refusal_number f.refusal) ≡ true
  pub position : positioned (refusal_number f.refusal) ≡ false → f.position ≡ 0

-- No call gives another refusal, and only those six have a position.
abbrev pub RefusedAsListed : Type 0
RefusedAsListed = (c : Call) (m : Model) (f : Fault) → answer c m ≡ refused f → OfBook f
