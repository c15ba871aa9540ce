use Rattle.kr_dialer.specs.Carrying.{link_of}
use Rattle.kr_dialer.proofs.CarryingLemmas.{Carried-none}
use Rattle.dbus_opening.proofs.OpeningLemmas.{unbegun}
use Rattle.dbus_opening.proofs.opening.open_link.Goals as goal

-- there was no memory to begin
pub returns-in_default : goal.returns-in_default
returns-in_default g c =
    let it = g.D.Dialer in
    let old = link_of it.dialled it.left it.written it.faults it.is_steady c.args.link.now in
    unbegun c.args.uid old (Carried-none old)
