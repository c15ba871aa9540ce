use denote.Exit.{yes}
use denote.Param.Send.{arg_send, param_send}
use Rattle.tests_threads.proofs.Sends.{desk-send}
use Rattle.tests_threads.proofs.threads.served.Goals as goal

-- a desk may go to another thread
pub for_each_mut-requires-send-T : goal.for_each_mut-requires-send-T
for_each_mut-requires-send-T g c κs within = param_send _ _ (arg_send _ yes _ (desk-send _ c.type_bounds.send-R))
