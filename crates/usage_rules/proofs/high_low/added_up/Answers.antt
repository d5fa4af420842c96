use Rattle.std.proofs.Common.{◌≡◌, ◌<◌, false, get_or, arith}
use Rattle.held.specs.DataOf.{data_of}
use Rattle.constants.specs.Limits.{longest_cycle}
use Rattle.usage_rules.specs.Spikes.{spike_questions}
use Rattle.usage_rules.specs.Usage.{added}
use Rattle.usage_rules.proofs.Adding.{cycle_short, get_or-each, adding}
use Rattle.usage_rules.proofs.high_low.added_up.Goals as goal
use Rattle.usage_rules.proofs.high_low.added_up.Goals.{then-is_added, else-is_added}

pub overflow_add-added : goal.overflow_add-added
overflow_add-added c = omega (arith, cycle_short c.args.held.now, c.loop-place.invariant.2)

pub overflow_add-added-then-is_added : goal.overflow_add-added-then-is_added
overflow_add-added-then-is_added c = omega (arith, cycle_short c.args.held.now, c.loop-place.invariant.3)

pub loop-place-preserved : goal.loop-place-preserved
loop-place-preserved c =
    let h = data_of c.args.held.now in
    let l : c.loop-place.place < longest_cycle = omega (arith, cycle_short c.args.held.now) in
    let s : get_or c.ask_all.new.answers c.loop-place.place false ≡ spike_questions h c.loop-place.place = rw c.ask_all.ensures.filled (get_or-each longest_cycle (spike_questions h) c.loop-place.place false l) in
    let e : c.is_added.result ≡ added h c.loop-place.place = rw s at c.is_added.ensures in
    elim c.if-is_added.branch [
      | then-is_added w ↦ grind (arith, adding)
      | else-is_added w ↦ grind (arith, adding)
    ]
