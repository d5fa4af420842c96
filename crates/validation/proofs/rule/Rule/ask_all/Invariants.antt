use Rattle.std.proofs.Common.{◌≡◌, take}
use Rattle.held.specs.DataOf.{data_of}
use Rattle.validation.specs.Places.{each}
use Rattle.validation.proofs.rule.Rule.ask_all.Given as goal

abbrev pub invariant-loop-place : goal.invariant-loop-place
invariant-loop-place g l = take l.place l.answers ≡ each l.place (g.Self.Rule.meaning l.self (data_of l.held))
