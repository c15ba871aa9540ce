use Rattle.idle_lock.proofs.HistoryLemmas.{opened_none, opened_some, changed_some, changed_none}
use Rattle.idle_lock.proofs.history.times_after.Goals as goal

-- each arm is one of the lemmas
pub returns-in-Opened-None : goal.returns-in-Opened-None
returns-in-Opened-None c = λ tolds at. opened_none _ _ _ tolds c.in-Opened-None.is-0 c.in-Opened-None.is-1 at

pub returns-in-Opened-Some : goal.returns-in-Opened-Some
returns-in-Opened-Some c = λ tolds at. opened_some _ _ _ _ tolds c.in-Opened-Some.is-0 c.in-Opened-Some.is-1 at

pub returns-in-Changed-Some : goal.returns-in-Changed-Some
returns-in-Changed-Some c = λ tolds at. changed_some _ _ _ _ tolds c.in-Changed-Some.is-0 c.in-Changed-Some.is-1 at

pub returns-in-Changed-None : goal.returns-in-Changed-None
returns-in-Changed-None c = λ tolds at. changed_none _ _ _ tolds c.in-Changed-None.is-0 c.in-Changed-None.is-1 at
