-- The law of runs: every history keeps the invariant of the book that it leads to, call by call.
use Rattle.std.proofs.Common.{◌≡◌, true, Some, None, Option, sym, refl, subst}
use Rattle.fault.specs.declared.record.Fault.{Fault}
use Rattle.history.specs.Answers.{refused, answer_by, after_by, refusal, returned}
use Rattle.history.specs.Calls.{Call, delivery, reading, rule, verification, settlement, filling, withdrawal, posting, changed}
use Rattle.history.specs.History.{History, opened, later, Questioned, Of}
use Rattle.history.specs.Law.{LawOfRuns}
use Rattle.history.specs.Model.{Opening, Model, opening_limits, new_book}
use Rattle.history.proofs.Delivering.{kept_delivery}
use Rattle.history.proofs.EnteringReading.{kept_reading}
use Rattle.history.proofs.Filling.{kept_filling}
use Rattle.history.proofs.HeldData.{still_questioned, newly_questioned, questioned_by_now}
use Rattle.history.proofs.Kept.{words_of, Kept}
use Rattle.history.proofs.Lawful.{kept_law}
use Rattle.history.proofs.New.{kept_new}
use Rattle.history.proofs.Posting.{kept_posting}
use Rattle.history.proofs.Ruling.{kept_rule}
use Rattle.history.proofs.Settling.{kept_settlement}
use Rattle.history.proofs.Verifying.{kept_verification}
use Rattle.history.proofs.Withdrawing.{kept_withdrawal}

accepted : (h : History) (m : Model) (c : Call) → Kept (words_of h) m → refusal c m ≡ None → Kept (words_of (later h c (returned c m))) (changed c m)
accepted h m (delivery number drift bytes) kept passes = kept_delivery (words_of h) m number drift bytes (Questioned (later h (delivery number drift bytes) (returned (delivery number drift bytes) m))) (λ i asked. asked.3) kept passes
accepted h m (reading b x) kept passes = kept_reading (words_of h) m b x (Questioned (later h (reading b x) (returned (reading b x) m))) (λ i asked. asked.3) kept passes
accepted h m (rule k f) kept passes =
    kept_rule (words_of h) m k f (Questioned (later h (rule k f) (returned (rule k f) m))) kept passes
    (still_questioned h k f)
    (λ i within asks. newly_questioned h m kept k f passes i asks)
    (λ i. questioned_by_now h m kept k f i)
accepted h m (verification a len) kept passes = kept_verification (words_of h) m a len kept passes
accepted h m (settlement k P) kept passes = kept_settlement (words_of h) m k P kept passes
accepted h m (filling k P) kept passes = kept_filling (words_of h) m k P kept passes
accepted h m (withdrawal k) kept passes = kept_withdrawal (words_of h) m k kept passes
accepted h m posting kept passes = kept_posting (words_of h) m kept passes

-- Whatever holds of a new book, and lasts through refused and through accepted calls, holds after every history.
module _ (P : History → Model → Type 0) (new : (o : Opening) → opening_limits o ≡ true → P (opened o) (new_book o)) (refusing : (h : History) (m : Model) (c : Call) (f : Fault) → P h m → P (later h c (refused f)) m) (accepting : (h : History) (m : Model) (c : Call) → Of h m → P h m → refusal c m ≡ None → P (later h c (returned c m)) (changed c m)) where
  answered : (h : History) (m : Model) (c : Call) (r : Option Fault) → refusal c m ≡ r → Of h m → P h m → P (later h c (answer_by r (returned c m))) (after_by r (changed c m) m)
  answered h m c None passes run p = accepting h m c run p passes
  answered h m c (Some f) _ run p = refusing h m c f p

  pub by_calls : (h : History) (m : Model) → Of h m → P h m
  by_calls (opened o) m run = subst (P (opened o)) (sym run.1) (new o run.0)
  by_calls (later h c a) m run =
      let before = run.0 in
      let step = answered h before c (refusal c before) refl run.1 (by_calls h before run.1) in
      subst (λ b. P (later h c b) m) (sym run.2) (subst (P (later h c (answer_by (refusal c before) (returned c before)))) (sym run.3) step)

-- a refused call leaves the book, and every word of the history
pub kept : (h : History) (m : Model) → Of h m → Kept (words_of h) m
kept = by_calls (λ h m. Kept (words_of h) m) kept_new (λ _ _ _ _ k. k) (λ h m c _. accepted h m c)

pub law_of_runs : LawOfRuns
law_of_runs h m run = kept_law h m (kept h m run)
