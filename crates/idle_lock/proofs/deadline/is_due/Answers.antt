use Rattle.std.proofs.Common.{refl}
use Rattle.idle_lock.proofs.deadline.is_due.Goals as goal

-- the deadline is the one that was computed
pub returns-in-Some-deadline_of : goal.returns-in-Some-deadline_of
returns-in-Some-deadline_of c = rw (c.in-Some.is, ← c.deadline_of.ensures, c.in-Some-deadline_of.is) refl

pub returns-in-None-deadline_of : goal.returns-in-None-deadline_of
returns-in-None-deadline_of c = rw (c.in-Some.is, ← c.deadline_of.ensures, c.in-None-deadline_of.is) refl

pub returns-in-None : goal.returns-in-None
returns-in-None c = rw c.in-None.is refl
