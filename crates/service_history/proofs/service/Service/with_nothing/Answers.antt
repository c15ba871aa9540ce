use Rattle.service_machine.specs.Rows.{rows_of}
use Rattle.service_history.proofs.KeptLemmas.{kept-first}
use Rattle.service_history.proofs.service.Service.with_nothing.Goals as goal

-- the window begins where the machine starts
pub invariant_of-result : goal.invariant_of-result
invariant_of-result g c =
    (kept-first (rows_of c.in_ok-machine.machine) c.first-window.result c.in_ok-machine.ensures.opened c.in_ok-machine.ensures.contents c.first-window.ensures, c.in_ok-machine.ensures.free)
