use Rattle.std.proofs.Common.{◌≡◌, ◌+◌, [], ◌∷◌, ◌++◌, take, set, sym, subst, arith}
use Rattle.std.proofs.lemmas.Grind.{common_steps}
use Rattle.readings.specs.Rising.{Rising}
use Rattle.readings.specs.Rows.{rows}
use Rattle.readings.proofs.Pushing.{rising_push}
use Rattle.readings.proofs.table.Readings.pushed.Goals as goal

pub invariant_of-result : goal.invariant_of-result
invariant_of-result c =
    let t = c.args.self in
    let longer : take (t.count + 1) (set t.entries t.count c.args.reading) ≡ rows t ++ (c.args.reading ∷ []) = grind (arith, common_steps) in
    record {
      fits = grind (arith, common_steps);
      rising = subst Rising (sym longer) (rising_push (rows t) c.args.reading t.rising c.requires.above);
    }
