-- What each status says of a place after every history, in words of the history alone.
use Rattle.std.specs.Prelude.{◌≡◌, ℕ, ◌<◌, true}
use Rattle.intervals.specs.Conditions.{sound}
use Rattle.sharing.specs.declared.state.Status.TheVariants.{Raw, Measured, Verified, Open, Estimated}
use Rattle.history.specs.Calls.{Questioning}
use Rattle.history.specs.History.{History, opening_of, delivered_at, Ran, Questioned, Doubted, Of}
use Rattle.history.specs.Law.{places_in}
use Rattle.history.specs.Model.{Model, has_bit, status_at}

-- rule k is owed and has not run since the last accepted delivery or reading
abbrev pub Awaited : History → ℕ → Type 0
Awaited h k = (has_bit (opening_of h).owed k ≡ true) × ((f : Questioning) → Ran h k f → ⊥)

pub record Judged (h : History) (m : Model) (i : ℕ) : Type 0 where
  -- a place is raw exactly while some rule is awaited
  pub raw : status_at m i ≡ Raw → (k : ℕ) × Awaited h k
  pub waits : (k : ℕ) → Awaited h k → status_at m i ≡ Raw
  -- a measured place is sound, and no rule questioned it
  pub measured : status_at m i ≡ Measured → (sound (delivered_at h i).condition ≡ true) × (Questioned h i → ⊥)
  -- a verified place is sound, and a rule questioned it
  pub verified : status_at m i ≡ Verified → (sound (delivered_at h i).condition ≡ true) × Questioned h i
  -- an open or an estimated place is doubted
  pub opened : status_at m i ≡ Open → Doubted h i
  pub estimated : status_at m i ≡ Estimated → Doubted h i

-- So once no rule is awaited, a place is measured exactly if it is not doubted.
abbrev pub StatusesAreJudged : Type 0
StatusesAreJudged = (h : History) (m : Model) → Of h m → (i : ℕ) → i < places_in h → Judged h m i
