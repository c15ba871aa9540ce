use denote.Param.Send.{sendable}
use Rattle.service_hub.proofs.Sends.SharedService.{SharedDesk-send}
use Rattle.tests_daemon.proofs.loops.by_service_in_threads.Goals as goal

-- a desk may go to another thread
pub by_hub_in_threads-requires-send-U-Reader : goal.by_hub_in_threads-requires-send-U-Reader
by_hub_in_threads-requires-send-U-Reader g c κs within = search (SharedDesk-send, c.type_bounds, sendable) depth 40 fits 20000

pub by_hub_in_threads-requires-send-U-Writer : goal.by_hub_in_threads-requires-send-U-Writer
by_hub_in_threads-requires-send-U-Writer g c κs within = search (SharedDesk-send, c.type_bounds, sendable) depth 40 fits 20000
