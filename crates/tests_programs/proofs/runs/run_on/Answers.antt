use denote.Param.Send.{sendable}
use Rattle.service_hub.proofs.Sends.SharedService.{SharedDesk-send}
use Rattle.tests_programs.proofs.runs.run_on.Goals as goal

-- a desk may go to another thread
pub in_place-spawner-requires-send-A : goal.in_place-spawner-requires-send-A
in_place-spawner-requires-send-A g c κs within = search (SharedDesk-send, c.type_bounds, sendable) depth 40 fits 20000

pub in_place-spawner-requires-send-B : goal.in_place-spawner-requires-send-B
in_place-spawner-requires-send-B g c κs within = search (SharedDesk-send, c.type_bounds, sendable) depth 40 fits 20000
