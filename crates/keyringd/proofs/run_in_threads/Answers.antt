use denote.Param.Send.{sendable}
use Rattle.keyring_program.specs.service_hub.proofs.Sends.SharedService.{SharedDesk-send}
use Rattle.keyringd.proofs.run_in_threads.Goals as goal

-- a desk may go to another thread
pub in_threads-spawner-requires-send-A : goal.in_threads-spawner-requires-send-A
in_threads-spawner-requires-send-A g c κs within = search (SharedDesk-send, c.type_bounds, sendable) depth 40 fits 20000

pub in_threads-spawner-requires-send-B : goal.in_threads-spawner-requires-send-B
in_threads-spawner-requires-send-B g c κs within = search (SharedDesk-send, c.type_bounds, sendable) depth 40 fits 20000
