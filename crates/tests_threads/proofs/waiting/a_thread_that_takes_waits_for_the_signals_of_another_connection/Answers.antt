use denote.Param.Send.{sendable}
use Rattle.tests_threads.proofs.Sends.{desk-send}
use Rattle.tests_threads.proofs.waiting.a_thread_that_takes_waits_for_the_signals_of_another_connection.Goals as goal

-- the desk that takes may go to another thread
pub join-taken-requires-send-F : goal.join-taken-requires-send-F
join-taken-requires-send-F g c κs within = search (desk-send, sendable) depth 40 fits 20000
