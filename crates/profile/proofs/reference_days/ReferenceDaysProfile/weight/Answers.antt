use Rattle.profile.specs.PastDaysOf.{past_days_of}
use Rattle.profile.proofs.Averaged.{weighs_by_average}
use Rattle.profile.proofs.reference_days.ReferenceDaysProfile.weight.Goals as goal

pub returns-clause-weighs : goal.returns-clause-weighs
returns-clause-weighs c = weighs_by_average (past_days_of c.args.self.now) c.args.self.now.kept
