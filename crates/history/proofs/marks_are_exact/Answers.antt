use Rattle.history.proofs.Marks.{marked_exactly}
use Rattle.history.proofs.marks_are_exact.Goals as goal

pub returns : goal.returns
returns c = marked_exactly
