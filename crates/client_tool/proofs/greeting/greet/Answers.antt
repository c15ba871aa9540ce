use Rattle.kr_dialer.specs.Carrying.{link_of}
use Rattle.client_tool.proofs.GreetingLemmas.{greets-fed, greets-not}
use Rattle.client_tool.proofs.greeting.greet.Goals as goal

-- the link is open
pub returns-in-Ok : goal.returns-in-Ok
returns-in-Ok g c =
    let it = g.D.Dialer in
    let old = link_of it.dialled it.left it.written it.faults it.is_steady c.args.dialer.now in
    let new = link_of it.dialled it.left it.written it.faults it.is_steady c.open_link.new.link in
    greets-fed c.args.uid old new c.in-Ok.rest c.framer_over.result c.in-Ok.ensures c.framer_over.ensures.fed c.framer_over.ensures.memory

-- it isn't
pub returns-in-Err : goal.returns-in-Err
returns-in-Err g c =
    let it = g.D.Dialer in
    let old = link_of it.dialled it.left it.written it.faults it.is_steady c.args.dialer.now in
    let new = link_of it.dialled it.left it.written it.faults it.is_steady c.open_link.new.link in
    rw c.stopped_by.ensures (greets-not c.args.uid old new c.in-Err.refused c.in-Err.ensures)
