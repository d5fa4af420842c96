use Rattle.history.proofs.Runs.{kept}
use Rattle.history.proofs.SettledAgain.{settled_again}
use Rattle.history.proofs.withdrawn_regions_settle_again.Goals as goal

pub returns : goal.returns
returns c = settled_again kept
