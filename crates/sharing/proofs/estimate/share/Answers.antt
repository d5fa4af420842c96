use Rattle.std.proofs.Common.{arith}
use Rattle.std.proofs.lemmas.Grind.{common_steps}
use Rattle.sharing.proofs.Places.{shared_values}
use Rattle.sharing.proofs.estimate.share.Goals as goal

pub returns-clause-exact : goal.returns-clause-exact
returns-clause-exact g c =
    let P = g.P.Profile.meaning c.args.profile.now in
    shared_values P c.args.first c.args.states.now c.args.amount c.args.values.now c.write_shares.new.values (grind (arith, common_steps)) (grind (arith, common_steps)) (grind (arith, common_steps))
