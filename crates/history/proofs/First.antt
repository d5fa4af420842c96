-- The two refusals that come before all others of a call.
use Rattle.history.specs.Calls.{delivery, reading, rule, verification, settlement, filling, withdrawal, posting}
use Rattle.history.specs.Sanity.{PostedIsClosed, RulesComeFirst}
use Rattle.std.proofs.lemmas.Bool.{false≢true}

pub posted_is_closed : PostedIsClosed
posted_is_closed (delivery number drift bytes) m e = rw e
posted_is_closed (reading b x) m e = rw e
posted_is_closed (rule k f) m e = rw e
posted_is_closed (verification a len) m e = rw e
posted_is_closed (settlement k P) m e = rw e
posted_is_closed (filling k P) m e = rw e
posted_is_closed (withdrawal k) m e = rw e
posted_is_closed posting m e = rw e

pub rules_come_first : RulesComeFirst
rules_come_first (delivery number drift bytes) m waits e o = absurd (false≢true waits)
rules_come_first (reading b x) m waits e o = absurd (false≢true waits)
rules_come_first (rule k f) m waits e o = absurd (false≢true waits)
rules_come_first (verification a len) m waits e o = rw (e, o)
rules_come_first (settlement k P) m waits e o = rw (e, o)
rules_come_first (filling k P) m waits e o = rw (e, o)
rules_come_first (withdrawal k) m waits e o = rw (e, o)
rules_come_first posting m waits e o = rw (e, o)
