-- What is kept holds of a new book.
use Rattle.std.proofs.Common.{◌≡◌, ◌≤◌, true, leb, [], replicate, refl, arith}
use Rattle.std.proofs.lemmas.List.{length-replicate, get_or-replicate}
use Rattle.std.proofs.lemmas.Bool.{and_parts, leb-true}
use Rattle.constants.specs.Limits.{cycle_limits, register_limits}
use Rattle.history.specs.History.{opened}
use Rattle.history.specs.Model.{Opening, opening_limits, past_limits, places_of, missing, new_book}
use Rattle.history.proofs.Kept.{Kept, words_of}
use Rattle.history.proofs.Raw.{kept_raw}

some_owed : (o : Opening) → opening_limits o ≡ true → 1 ≤ o.owed
some_owed o e =
    let behind = (and_parts (cycle_limits o.days o.places_a_day o.first_weekday) _ e).1 in
    let owed = (and_parts (register_limits o.dials o.pulses_per_unit) _ behind).1 in
    leb-true 1 o.owed (and_parts _ (leb o.owed 255) (and_parts _ (past_limits o.past) owed).0).0

pub kept_new : (o : Opening) → opening_limits o ≡ true → Kept (words_of (opened o)) (new_book o)
kept_new o e =
    kept_raw (words_of (opened o)) o (replicate (places_of o) missing) [] refl refl (λ none. omega (arith, some_owed o e)) (λ i j h l. absurd (omega arith)) (λ i h. absurd (omega arith)) (length-replicate (places_of o) missing) (λ i h. get_or-replicate (places_of o) i missing missing h) refl (λ i asked. asked.3)
