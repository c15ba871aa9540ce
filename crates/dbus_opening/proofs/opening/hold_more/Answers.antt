use Rattle.kr_dialer.specs.Carrying.{link_of}
use Rattle.dbus_opening.proofs.OpeningLemmas.{holds-end}
use Rattle.dbus_opening.proofs.opening.hold_more.Goals as goal

-- nothing is left
pub returns-then-count-eq0 : goal.returns-then-count-eq0
returns-then-count-eq0 g c =
    let it = g.D.Dialer in
    holds-end c.args.held.now.items c.args.held.now.items _ (link_of it.dialled it.left it.written it.faults it.is_steady c.args.link.now)
    (link_of it.dialled it.left it.written it.faults it.is_steady c.read_piece.new.dialer) _ c.in-Ok.ensures c.if-count-eq0.true
