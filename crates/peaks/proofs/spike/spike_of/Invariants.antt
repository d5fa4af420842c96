use Rattle.peaks.proofs.Highest.{Scanned}
use Rattle.peaks.proofs.spike.spike_of.Given as goal

abbrev pub invariant-loop-interval : goal.invariant-loop-interval
invariant-loop-interval l = Scanned l.day l.interval-index l.highest l.sound_places
