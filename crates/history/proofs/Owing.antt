-- The rules owing in a book are the owed ones that have not run since the last accepted delivery or reading.
use Rattle.std.proofs.Common.{◌≡◌, ℕ, zero, suc, ◌+◌, ◌-◌, ◌*◌, ◌/◌, ◌%◌, ◌^◌, ◌≤◌, true, false, eqb, ◌↔◌, None, sym, refl, ap, ◌∙◌, subst, inl, inr, ⊎_elim, arith}
use Rattle.std.proofs.lemmas.Nat.{pow-add, shr-shr}
use Rattle.std.proofs.lemmas.Bool.{both_ways, cases_Bool, eqb-true, eqb-false, ne_eqb}
use Rattle.history.specs.Answers.{done, refusal, returned}
use Rattle.history.specs.Calls.{Call, delivery, reading, rule, verification, settlement, filling, withdrawal, posting, Questioning, delivered, entered, ruled, changed}
use Rattle.history.specs.History.{History, opened, later, opening_of, Ran, Of}
use Rattle.history.specs.Model.{Model, has_bit, new_book}
use Rattle.history.specs.Statuses.{Awaited}
use Rattle.history.proofs.Ruling.{rule_accepted}
use Rattle.history.proofs.Runs.{by_calls, kept}

-- Masks, bit by bit from the lowest

low_bit : (n : ℕ) → has_bit n 0 ≡ eqb (n % 2) 1
low_bit n = let e : n / 1 ≡ n = omega arith in ap (λ x. eqb (x % 2) 1) e

high_bit : (n j : ℕ) → has_bit n (suc j) ≡ has_bit (n / 2) j
high_bit n j = let e : 1 + j ≡ suc j = omega arith in ap (λ x. eqb (x % 2) 1) (ap (λ k. n / 2 ^ k) (sym e) ∙ sym (shr-shr n 1 j))

power_up : (k : ℕ) → 2 ^ suc k ≡ 2 * 2 ^ k
power_up k = let e : 1 + k ≡ suc k = omega arith in ap (λ x. 2 ^ x) (sym e) ∙ pow-add 2 1 k

-- half of a mask without bit k + 1 is half the mask without bit k
half_less : (n k : ℕ) → (n - 2 ^ suc k) / 2 ≡ n / 2 - 2 ^ k
half_less n k = let e = power_up k in omega arith

bit_within : (k n : ℕ) → has_bit n k ≡ true → 2 ^ k ≤ n
bit_within zero n has = let one = eqb-true (n % 2) 1 (sym (low_bit n) ∙ has) in omega arith
bit_within (suc k) n has = let h = bit_within k (n / 2) (sym (high_bit n k) ∙ has) in let p = power_up k in omega arith

-- taking off a bit that is there takes off this one and no other
bit_off : (k n : ℕ) → has_bit n k ≡ true → has_bit (n - 2 ^ k) k ≡ false
bit_off zero n has = low_bit (n - 1) ∙ ne_eqb ((n - 1) % 2) 1 (λ odd. let one = eqb-true (n % 2) 1 (sym (low_bit n) ∙ has) in omega arith)
bit_off (suc k) n has = high_bit (n - 2 ^ suc k) k ∙ ap (λ x. has_bit x k) (half_less n k) ∙ bit_off k (n / 2) (sym (high_bit n k) ∙ has)

others_stay : (k j n : ℕ) → (k ≡ j → ⊥) → has_bit n k ≡ true → has_bit (n - 2 ^ k) j ≡ has_bit n j
others_stay zero zero n apart has = absurd (apart refl)
others_stay zero (suc j) n apart has =
    let one = eqb-true (n % 2) 1 (sym (low_bit n) ∙ has) in
    let e : (n - 1) / 2 ≡ n / 2 = omega arith in
    high_bit (n - 1) j ∙ ap (λ x. has_bit x j) e ∙ sym (high_bit n j)
others_stay (suc k) zero n apart has =
    let p = power_up k in
    let h = bit_within (suc k) n has in
    let e : (n - 2 ^ suc k) % 2 ≡ n % 2 = omega arith in
    low_bit (n - 2 ^ suc k) ∙ ap (λ x. eqb x 1) e ∙ sym (low_bit n)
others_stay (suc k) (suc j) n apart has =
    high_bit (n - 2 ^ suc k) j ∙ ap (λ x. has_bit x j) (half_less n k) ∙ others_stay k j (n / 2) (λ e. apart (ap suc e)) (sym (high_bit n k) ∙ has) ∙ sym (high_bit n j)

some_bit_below : (most n : ℕ) → n ≤ most → (n ≡ 0 → ⊥) → (k : ℕ) × (has_bit n k ≡ true)
some_bit_below zero n low some = absurd (some (omega arith))
some_bit_below (suc most) n low some = ⊎_elim
    (λ odd. (0, low_bit n ∙ odd))
    (λ even. let up = some_bit_below most (n / 2) (omega arith) (λ none. some (let e = eqb-false (n % 2) 1 even in omega arith)) in (suc up.0, high_bit n up.0 ∙ up.1))
    (cases_Bool (eqb (n % 2) 1))

-- a mask that is not 0 has a bit
pub some_bit : (n : ℕ) → (n ≡ 0 → ⊥) → (k : ℕ) × (has_bit n k ≡ true)
some_bit n some = some_bit_below n n (omega arith) some

-- Histories

abbrev pub Owing : History → Model → Type 0
Owing h m = (k : ℕ) → (has_bit m.owing k ≡ true) ↔ Awaited h k

-- every owed rule is owing and none has run, as in a new book and after a delivery or a reading
anew : (h : History) (m : Model) → m.owing ≡ (opening_of h).owed → ((k : ℕ) (f : Questioning) → Ran h k f → ⊥) → Owing h m
anew h m all none k = (λ has. (ap (λ o. has_bit o k) (sym all) ∙ has, none k), λ awaited. ap (λ o. has_bit o k) all ∙ awaited.0)

-- a rule that has run is owing no more, and any other as before
ruling : (h : History) (m : Model) (k : ℕ) (f : Questioning) → Owing h m → has_bit m.owing k ≡ true → Owing (later h (rule k f) done) (ruled k f m)
ruling h m k f o has j = (
  λ left.
      let apart : k ≡ j → ⊥ = λ e. both_ways (has_bit (m.owing - 2 ^ k) j) (subst (λ x. has_bit (m.owing - 2 ^ k) x ≡ false) e (bit_off k m.owing has)) left in
      let was = (o j).0 (sym (others_stay k j m.owing apart has) ∙ left) in
      (was.0, λ g. ⊎_elim (λ now. apart now.0) (was.1 g)),
  λ awaited. others_stay k j m.owing (λ e. awaited.1 f (inl (e, refl))) has ∙ (o j).1 (awaited.0, λ g ran. awaited.1 g (inr ran)),
)

accepted : (h : History) (m : Model) (c : Call) → Of h m → Owing h m → refusal c m ≡ None → Owing (later h c (returned c m)) (changed c m)
accepted h m (delivery number drift bytes) run o e = anew (later h (delivery number drift bytes) done) (delivered bytes m) (ap (λ o. o.owed) (kept h m run).opening) (λ _ _ ran. ran)
accepted h m (reading b x) run o e = anew (later h (reading b x) done) (entered b x m) (ap (λ o. o.owed) (kept h m run).opening) (λ _ _ ran. ran)
accepted h m (rule k f) run o e = ruling h m k f o (rule_accepted k f m e).2
accepted h m (verification a len) run o e = o
accepted h m (settlement k P) run o e = o
accepted h m (filling k P) run o e = o
accepted h m (withdrawal k) run o e = o
accepted h m posting run o e = o

pub owing_awaited : (h : History) (m : Model) → Of h m → Owing h m
owing_awaited = by_calls Owing (λ o _. anew (opened o) (new_book o) refl (λ _ _ ran. ran)) (λ _ _ _ _ o. o) accepted
