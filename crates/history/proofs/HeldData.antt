-- The data held in a book are those that its history delivered, so a rule that has run questioned the history's data.
use Rattle.std.proofs.Common.{◌≡◌, ℕ, ◌<◌, true, ◌⊎◌, None, sym, refl, ap, ◌∙◌, inl, inr, ⊎_elim, arith}
use Rattle.std.proofs.lemmas.List.{ext_get_or}
use Rattle.history.specs.Answers.{done, refusal}
use Rattle.history.specs.Calls.{Questioning, rule}
use Rattle.history.specs.History.{History, later, opening_of, delivered_at, held_by, Questioned}
use Rattle.history.specs.Model.{Model, places_of, places, missing, held_in, held_of, has_bit}
use Rattle.history.specs.Stretches.{over}
use Rattle.history.proofs.Kept.{words_of, Kept}
use Rattle.history.proofs.Ruling.{rule_accepted}
use Rattle.history.proofs.Stretches.{length_over, get_or-over}

-- what was questioned before a rule ran stays so
pub still_questioned : (h : History) (k : ℕ) (f : Questioning) (i : ℕ) → Questioned h i → Questioned (later h (rule k f) done) i
still_questioned h k f i before = (before.0, before.1, before.2, inr before.3, before.4)

module _ (h : History) (m : Model) (kept : Kept (words_of h) m) where
  same_intervals : m.intervals ≡ over 0 (places m) (delivered_at h)
  same_intervals =
      ext_get_or missing m.intervals (over 0 (places m) (delivered_at h))
      (kept.intervals_long ∙ sym (length_over 0 (places m) (delivered_at h)))
      (λ i low. let within : i < places m = omega (arith, kept.intervals_long) in kept.held i within ∙ sym (get_or-over (places m) (delivered_at h) i missing within))

  pub same_held : held_of m ≡ held_by h
  same_held =
      ap (λ xs. held_in m.opening xs m.readings) same_intervals
      ∙ ap (λ o. held_in o (over 0 (places_of o) (delivered_at h)) m.readings) kept.opening
      ∙ ap (held_in (opening_of h) (over 0 (places_of (opening_of h)) (delivered_at h))) kept.readings

  -- what an accepted rule says yes to is questioned
  pub newly_questioned : (k : ℕ) (f : Questioning) → refusal (rule k f) m ≡ None → (i : ℕ) → f (held_of m) i ≡ true → Questioned (later h (rule k f) done) i
  newly_questioned k f accepted i asks =
      (k, f, ap (λ o. has_bit o.owed k) (sym kept.opening) ∙ (rule_accepted k f m accepted).1, inl (refl, refl), ap (λ d. f d i) (sym same_held) ∙ asks)

  -- and what is questioned then was so before, or the rule says yes to it
  pub questioned_by_now : (k : ℕ) (f : Questioning) (i : ℕ) → Questioned (later h (rule k f) done) i → Questioned h i ⊎ (f (held_of m) i ≡ true)
  questioned_by_now k f i (j, g, owed, ran, asks) =
      ⊎_elim (λ now. inr (ap (λ d. f d i) same_held ∙ ap (λ x. x (held_by h) i) now.1 ∙ asks)) (λ before. inl (j, g, owed, before, asks)) ran
