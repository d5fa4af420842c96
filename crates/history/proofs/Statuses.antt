-- What every history keeps true of its book says what each status means.
use Rattle.std.proofs.Common.{◌≡◌, ℕ, ◌<◌, sym, ◌∙◌, subst, ⊎_elim}
use Rattle.std.proofs.lemmas.Bool.{cases_Bool, eqb-false, not-true}
use Rattle.sharing.specs.declared.state.Status.{Status}
use Rattle.sharing.specs.declared.state.Status.TheVariants.{Raw}
use Rattle.history.specs.Answers.{owes}
use Rattle.history.specs.History.{History}
use Rattle.history.specs.Model.{Model, places_of, places, sound_at, state_at, status_at}
use Rattle.history.specs.Statuses.{Judged, Awaited, StatusesAreJudged}
use Rattle.history.proofs.Kept.{words_of, Kept, Grounds}
use Rattle.history.proofs.Lawful.{same_sound, doubted}
use Rattle.history.proofs.Owing.{Owing, some_bit, owing_awaited}
use Rattle.history.proofs.Ruling.{some_owing}
use Rattle.history.proofs.Runs.{kept}

module _ (h : History) (m : Model) (k : Kept (words_of h) m) (o : Owing h m) (i : ℕ) (low : i < places m) where
  grounds : (st : Status) → status_at m i ≡ st → Grounds st (sound_at m i) (state_at m i).marks
  grounds st e = subst (λ s. Grounds s (sound_at m i) (state_at m i).marks) e (k.grounds i low)

  raw : status_at m i ≡ Raw → (j : ℕ) × Awaited h j
  raw e = ⊎_elim
      (λ owes. let bit = some_bit m.owing (eqb-false m.owing 0 (not-true _ owes)) in (bit.0, (o bit.0).0 bit.1))
      (λ paid. absurd (k.judged paid i low e))
      (cases_Bool (owes m))

  judged : Judged h m i
  judged = record {
    raw = raw;
    waits = λ j awaited. k.raw (some_owing m j ((o j).1 awaited)) i low;
    measured = λ e. let g = grounds _ e in (same_sound (words_of h) m k i low ∙ g.0, λ asked. k.marked i low asked g.1);
    verified = λ e. let g = grounds _ e in (same_sound (words_of h) m k i low ∙ g.0, k.marks i low g.1);
    opened = λ e. doubted (words_of h) m k i low (grounds _ e);
    estimated = λ e. doubted (words_of h) m k i low (grounds _ e);
  }

pub statuses_judged : StatusesAreJudged
statuses_judged h m run i low = let k = kept h m run in judged h m k (owing_awaited h m run) i (subst (λ o. i < places_of o) (sym k.opening) low)
