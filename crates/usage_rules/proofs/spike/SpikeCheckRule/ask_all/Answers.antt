use Rattle.std.proofs.Common.{◌≡◌, ap, ◌∙◌, arith}
use Rattle.held.specs.DataOf.{data_of}
use Rattle.held.specs.declared.view.Held.{Held}
use Rattle.usage_rules.specs.Spikes.{midnight, spike_from}
use Rattle.validation.proofs.Filled.{filling}
use Rattle.usage_rules.proofs.Daily.{spike_questions_highest, same_day}
use Rattle.usage_rules.proofs.spike.SpikeCheckRule.ask_all.Goals as goal
use Rattle.usage_rules.proofs.spike.SpikeCheckRule.ask_all.Goals.{then-is_multiple_of, else-is_multiple_of}

-- the spike at hand is that of the place's day
spike_is : (c : goal.After-shows_at) → c.if-is_multiple_of.spike ≡ spike_from (data_of c.args.held.now) (midnight (data_of c.args.held.now) c.loop-place.place)
spike_is c = grind arith

pub loop-place-preserved : goal.loop-place-preserved
loop-place-preserved c =
    let e = spike_is c in
    (grind (arith, filling), λ later. e ∙ ap (spike_from (data_of c.args.held.now)) (same_day _ _ (grind (arith, filling)) later))

pub returns : goal.returns
returns c =
    let h : Held = c.args.held.now in
    record {
      filled = grind (arith, filling);
      highest = λ i. spike_questions_highest (data_of h) i (grind (arith, filling)) h.whole;
    }
