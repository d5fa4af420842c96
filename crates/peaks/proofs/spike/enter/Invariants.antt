use Rattle.std.proofs.Common.{◌≡◌, ◌++◌, take, drop}
use Rattle.peaks.specs.Ranks.{entered}
use Rattle.peaks.proofs.spike.enter.Given as goal

abbrev pub invariant-loop-rank : goal.invariant-loop-rank
invariant-loop-rank l =
    entered l.initial.highest l.count ≡ take l.rank-index l.highest ++ entered (drop l.rank-index l.highest) l.lower
