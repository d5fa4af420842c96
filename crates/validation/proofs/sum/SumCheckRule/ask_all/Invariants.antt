use Rattle.std.proofs.Common.{◌≡◌, take}
use Rattle.held.specs.DataOf.{data_of}
use Rattle.validation.specs.Places.{each}
use Rattle.validation.specs.Sums.{sum_questions}
use Rattle.validation.proofs.Alike.{Reached}
use Rattle.validation.proofs.sum.SumCheckRule.ask_all.Given as goal

-- the answers so far stand, and so does the answer at hand up to the end of its region
abbrev pub invariant-loop-place : goal.invariant-loop-place
invariant-loop-place l = (take l.place l.answers ≡ each l.place (sum_questions (data_of l.held))) × Reached (data_of l.held) l.place l.end l.questioned
