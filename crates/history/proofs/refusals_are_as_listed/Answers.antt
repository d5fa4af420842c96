use Rattle.history.proofs.Listed.{refused_as_listed}
use Rattle.history.proofs.refusals_are_as_listed.Goals as goal

pub returns : goal.returns
returns c = refused_as_listed
