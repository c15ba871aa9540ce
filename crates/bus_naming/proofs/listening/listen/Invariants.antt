use Rattle.bus_start.specs.Starts.{rows_of}
use Rattle.kr_dialer.specs.Carrying.{link_of}
use Rattle.bus_naming.specs.Naming.{ListensSoFar}
use Rattle.bus_naming.proofs.listening.listen.Given as goal

-- what was read so far is fed, and the messages so far are heard in it
abbrev pub invariant-loop : goal.invariant-loop
invariant-loop g l =
    let it = g.D.Dialer in
    ListensSoFar l.rest (link_of it.dialled it.left it.written it.faults it.is_steady l.fn.link) (link_of it.dialled it.left it.written it.faults it.is_steady l.link) l.framer
    (rows_of l.starting)
