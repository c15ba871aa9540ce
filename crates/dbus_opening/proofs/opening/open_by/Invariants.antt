use Rattle.kr_dialer.specs.Carrying.{link_of}
use Rattle.dbus_opening.specs.Opening.{Goes}
use Rattle.dbus_opening.proofs.opening.open_by.Given as goal

-- the lines so far are said, and the talk goes on with the bytes that are held
abbrev pub invariant-loop : goal.invariant-loop
invariant-loop g l =
    let it = g.D.Dialer in
    Goes l.uid l.client.asked l.held.items (link_of it.dialled it.left it.written it.faults it.is_steady l.fn.link)
    (link_of it.dialled it.left it.written it.faults it.is_steady l.link)
