use Rattle.history.proofs.Examples.{reaches_statuses, reaches_settled, reaches_posted, reaches_all}
use Rattle.history.proofs.each_outcome_is_reached.Goals as goal

pub returns : goal.returns
returns c = record { statuses = reaches_statuses; settled = reaches_settled; posted = reaches_posted; refusals = reaches_all }
