use Rattle.history.proofs.First.{posted_is_closed, rules_come_first}
use Rattle.history.proofs.Lowest.{lowest_returned}
use Rattle.history.proofs.refusals_come_in_order.Goals as goal

pub returns : goal.returns
returns c = record { lowest = lowest_returned; posted = posted_is_closed; rules = rules_come_first }
