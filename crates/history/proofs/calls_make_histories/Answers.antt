use Rattle.history.proofs.Examples.{leading}
use Rattle.history.proofs.calls_make_histories.Goals as goal

pub returns : goal.returns
returns c = leading
