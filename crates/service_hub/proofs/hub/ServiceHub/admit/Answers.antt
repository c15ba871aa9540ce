use Rattle.service_hub.proofs.HubLemmas.{not-joined}
use Rattle.service_hub.proofs.hub.ServiceHub.admit.Goals as goal

-- the service refused the connection
pub returns-in-Err-clause-refused : goal.returns-in-Err-clause-refused
returns-in-Err-clause-refused g c = not-joined _ _ c.in-Err.refused _ _ c.in-Err.ensures.refused
