use Rattle.service_events.proofs.ReplayLemmas.{replay-append, Legal-append, outputs-append}
use Rattle.service_events.proofs.step_laws.lists_of_events_go_on.Goals as goal

pub returns-clause-replay : goal.returns-clause-replay
returns-clause-replay c = replay-append

pub returns-clause-legal : goal.returns-clause-legal
returns-clause-legal c = Legal-append

pub returns-clause-outputs : goal.returns-clause-outputs
returns-clause-outputs c = outputs-append
