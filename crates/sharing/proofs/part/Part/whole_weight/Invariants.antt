use Rattle.std.proofs.Common.{◌≡◌, ◌+◌, ◌*◌, ◌≤◌, length, sum}
use Rattle.std.specs.Iterator.Adapters.{zip_first, zip_second}
use Rattle.std.specs.Slice.Iter.{iter_rest}
use Rattle.constants.specs.Limits.{longest_cycle}
use Rattle.sharing.specs.Weights.{weights, unweighted}
use Rattle.sharing.proofs.part.Part.whole_weight.Given as goal

-- what is left gives the whole
abbrev pub invariant-loop-place : goal.invariant-loop-place
invariant-loop-place g l =
    let P = g.P.Profile.meaning l.profile in
    let place = (zip_first l.place-iterator).start in
    let left = iter_rest (zip_second l.place-iterator) in
    record {
      weight : l.whole + sum (weights P place left) ≡ sum (weights P l.self.first l.self.states.now);
      missing : unweighted P place left ≡ unweighted P l.self.first l.self.states.now;
      within : place + length left ≤ longest_cycle;
      bound : l.whole + length left * 65535 ≤ longest_cycle * 65535;
    }
