use Rattle.held.specs.DataOf.{data_of}
use Rattle.usage_rules.proofs.Adding.{AddedUp}
use Rattle.usage_rules.proofs.high_low.added_up.Given as goal

abbrev pub invariant-loop-place : goal.invariant-loop-place
invariant-loop-place l = AddedUp (data_of l.held) l.place l.added.places l.added.pulses
