use Rattle.history.proofs.Runs.{law_of_runs}
use Rattle.history.proofs.law_of_runs.Goals as goal

pub returns : goal.returns
returns c = law_of_runs
