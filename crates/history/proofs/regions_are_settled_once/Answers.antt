use Rattle.history.proofs.SettledOnce.{settled_once}
use Rattle.history.proofs.regions_are_settled_once.Goals as goal

pub returns : goal.returns
returns c = settled_once
