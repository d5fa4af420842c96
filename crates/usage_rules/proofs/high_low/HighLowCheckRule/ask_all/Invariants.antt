use Rattle.std.proofs.Common.{◌≡◌, take}
use Rattle.held.specs.DataOf.{data_of}
use Rattle.validation.specs.Places.{each}
use Rattle.usage_rules.specs.Usage.{high_low_questions}
use Rattle.usage_rules.proofs.high_low.HighLowCheckRule.ask_all.Given as goal

abbrev pub invariant-loop-place : goal.invariant-loop-place
invariant-loop-place l = take l.place l.answers ≡ each l.place (high_low_questions (data_of l.held))
