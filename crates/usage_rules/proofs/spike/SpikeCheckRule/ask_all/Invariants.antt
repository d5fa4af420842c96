use Rattle.std.proofs.Common.{◌≡◌, ◌≢◌, ◌%◌, take}
use Rattle.held.specs.DataOf.{data_of}
use Rattle.validation.specs.Places.{each}
use Rattle.usage_rules.specs.Spikes.{midnight, spike_from, spike_questions}
use Rattle.usage_rules.proofs.spike.SpikeCheckRule.ask_all.Given as goal

-- the answers so far stand, and unless a day begins here the spike at hand is that of the day
abbrev pub invariant-loop-place : goal.invariant-loop-place
invariant-loop-place l =
    (take l.place l.answers ≡ each l.place (spike_questions (data_of l.held))) × (l.place % l.held.cycle.places_a_day ≢ 0 → l.spike ≡ spike_from (data_of l.held) (midnight (data_of l.held) l.place))
