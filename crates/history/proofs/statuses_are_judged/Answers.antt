use Rattle.history.proofs.Statuses.{statuses_judged}
use Rattle.history.proofs.statuses_are_judged.Goals as goal

pub returns : goal.returns
returns c = statuses_judged
