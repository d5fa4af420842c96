use Rattle.history.proofs.Examples.{limited, printed, two_days_lem, edited, told, unsound_ways_lem}
use Rattle.history.proofs.examples_come_out.Goals as goal

pub returns : goal.returns
returns c = record { limits = limited; printed = printed; days = two_days_lem; edited = edited; told = told; unsound = unsound_ways_lem }
