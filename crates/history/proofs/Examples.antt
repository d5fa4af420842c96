-- The example histories, computed.
use Rattle.std.proofs.Common.{◌≡◌, true, List, [], ◌∷◌, map, refl, inl, arith}
use Rattle.fault.specs.Faults.{fault_at}
use Rattle.sharing.specs.declared.state.Status.TheVariants.{Raw, Measured, Verified, Open, Estimated}
use Rattle.validation.specs.Sums.{sum_questions}
use Rattle.history.specs.Answers.{refused, answer, after}
use Rattle.history.specs.Calls.{Call}
use Rattle.history.specs.History.{History, later, Of}
use Rattle.history.specs.Model.{Model, opening_limits, new_book}
use Rattle.history.specs.Examples.{Leading, history_from, book_from, history_of, book_of, one_day, printed_calls, verified_calls, balanced_calls, gap_calls, Limited, Printed, TwoDays, Edited, Told, ReachesStatuses, ReachesSettled, ReachesPosted, Refusing, refusings, other_ways, unsound_ways, EachReached, all_accepted, answers_from, ReachesAll}

leads_on : (h : History) (m : Model) (cs : List Call) → Of h m → Of (history_from h m cs) (book_from m cs)
leads_on h m [] e = e
leads_on h m (c ∷ cs) e = leads_on (later h c (answer c m)) (after c m) cs (m, e, refl, refl)

pub leading : Leading
leading o cs within = leads_on _ (new_book o) cs (within, refl)

pub limited : Limited
limited = record { fit = refl; unfit = refl }

pub printed : Printed
printed = record { answers = refl; regions = refl }

pub edited : Edited
edited = record { answers = refl; questioned = refl; sheet = refl; states = refl; values = refl; nothing = refl; withdrawn = refl; raw = refl; sheet_raw = refl; owing_again = refl }

pub two_days_lem : TwoDays
two_days_lem = record { judged = refl; answers = refl; states = refl; values = refl; unweighted = refl; unsound = refl }

pub told : Told
told = record {
  delivered = refl;
  questioned = (2, sum_questions, refl, inl (refl, refl), refl);
  unquestioned = refl;
  stale = λ k f never. never;
  stale_too = λ k f never. never;
  lasting = inl (refl, refl);
  last = refl;
  unused = refl;
  shared = refl;
  shared_questioned = refl;
  weighed = refl;
  exact = refl;
  allowed = refl;
  pulses = refl;
  advances = refl;
}

from : (cs : List Call) → Of (history_of (one_day 24 4) cs) (book_of (one_day 24 4) cs)
from cs = leading (one_day 24 4) cs refl

pub reaches_statuses : ReachesStatuses
reaches_statuses Raw = (history_of (one_day 24 4) [], book_of (one_day 24 4) [], 0, from [], omega arith, refl)
reaches_statuses Measured = (history_of (one_day 24 4) verified_calls, book_of (one_day 24 4) verified_calls, 0, from verified_calls, omega arith, refl)
reaches_statuses Verified = (history_of (one_day 24 4) verified_calls, book_of (one_day 24 4) verified_calls, 1, from verified_calls, omega arith, refl)
reaches_statuses Open = (history_of (one_day 24 4) (gap_calls 35), book_of (one_day 24 4) (gap_calls 35), 3, from (gap_calls 35), omega arith, refl)
reaches_statuses Estimated = (history_of (one_day 24 4) verified_calls, book_of (one_day 24 4) verified_calls, 3, from verified_calls, omega arith, refl)

pub reaches_settled : ReachesSettled
reaches_settled = (history_of (one_day 24 31) printed_calls, book_of (one_day 24 31) printed_calls, 1, leading (one_day 24 31) printed_calls refl, refl, refl)

pub reaches_posted : ReachesPosted
reaches_posted = (history_of (one_day 24 4) balanced_calls, book_of (one_day 24 4) balanced_calls, 1, from balanced_calls, refl, refl, refl)

-- one computation for the whole list
each : (es : List Refusing) → map (λ e. opening_limits e.opening) es ≡ map (λ e. true) es → map (λ e. all_accepted (answers_from (new_book e.opening) e.calls)) es ≡ map (λ e. true) es → map (λ e. answer e.last (book_of e.opening e.calls)) es ≡ map (λ e. refused (fault_at e.refusal e.position)) es → EachReached es
each [] within before answered = tt
each (e ∷ es) within before answered = (record { leads = leading e.opening e.calls (cc); before = cc; turned_down = cc }, each es (cc) (cc) (cc))

pub reaches_all : ReachesAll
reaches_all = (each refusings refl refl refl, each other_ways refl refl refl, refl)

pub unsound_ways_lem : EachReached unsound_ways
unsound_ways_lem = each unsound_ways refl refl refl
