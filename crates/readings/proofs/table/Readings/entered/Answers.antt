use Rattle.std.proofs.Common.{sym, arith}
use Rattle.readings.proofs.Pushing.{rising_push, within_push, dialled_push}
use Rattle.readings.proofs.table.Readings.entered.Goals as goal

pub returns-clause-kept : goal.returns-clause-kept
returns-clause-kept c = rw c.pushed.ensures (record {
  rising = λ up. rising_push _ _ up (sym c.if-not-rises_to.ensures);
  within = λ w. within_push _ _ _ w (omega arith);
  dialled = λ d. dialled_push _ _ _ d (omega arith);
})
