use Rattle.std.proofs.Common.{◌≡◌, ◌+◌, ◌++◌, take, drop, sum}
use Rattle.sharing.specs.Shares.{running, shares, placed}
use Rattle.sharing.specs.Sharing.{shared_out}
use Rattle.sharing.specs.Weights.{weights}
use Rattle.sharing.proofs.part.Part.write_shares.Given as goal

-- what is left gives the whole
abbrev pub invariant-loop-i : goal.invariant-loop-i
invariant-loop-i g l =
    let P = g.P.Profile.meaning l.profile in
    let ss = drop l.i l.self.states.now in
    let ws = weights P (l.self.first + l.i) ss in
    record {
      weight : l.weight + sum ws ≡ l.spread.whole;
      shared : l.shared ≡ running l.spread.amount l.spread.whole l.weight;
      values : take l.i l.values ++ placed ss (shares l.spread.amount l.spread.whole l.weight ws) (drop l.i l.values)
          ≡ shared_out P l.self.first l.self.states.now l.spread.amount l.initial.values;
    }
