use Rattle.std.proofs.Common.{refl}
use Rattle.kr_dialer.specs.Carrying.{link_of}
use Rattle.kr_dialer.proofs.CarriedLemmas.{still-dialled}
use Rattle.bus_naming.proofs.NamingLemmas.{named, unasked, unnamed, unread}
use Rattle.bus_naming.proofs.naming.own_name.Goals as goal

-- the three calls weren't written
pub returns-in-Err : goal.returns-in-Err
returns-in-Err g c =
    let it = g.D.Dialer in
    unasked c.args.rest.now (link_of it.dialled it.left it.written it.faults it.is_steady c.args.link.now) (link_of it.dialled it.left it.written it.faults it.is_steady c.ask.new.link)
    c.in-Err.refused c.in-Err.ensures

-- there was no memory to read
pub returns-in_default : goal.returns-in_default
returns-in_default g c =
    let it = g.D.Dialer in
    unread c.args.rest.now (link_of it.dialled it.left it.written it.faults it.is_steady c.args.link.now) (link_of it.dialled it.left it.written it.faults it.is_steady c.ask.new.link)
    c.in-Ok.text c.in-Ok.ensures

pub listen-requires-clause-has_dialled : goal.listen-requires-clause-has_dialled
listen-requires-clause-has_dialled g c = still-dialled _ _ c.in-Ok.ensures.0.dialled c.requires.has_dialled

-- the link doesn't own the name
pub returns-in-Err-listen : goal.returns-in-Err-listen
returns-in-Err-listen g c =
    let it = g.D.Dialer in
    unnamed c.args.rest.now (link_of it.dialled it.left it.written it.faults it.is_steady c.args.link.now) (link_of it.dialled it.left it.written it.faults it.is_steady c.ask.new.link)
    (link_of it.dialled it.left it.written it.faults it.is_steady c.listen.new.link) c.in-Ok.text c.in-Err-listen.refused c.in-Ok.ensures c.in-Err-listen.ensures

-- it does
pub returns : goal.returns
returns g c =
    let it = g.D.Dialer in
    named c.args.rest.now (link_of it.dialled it.left it.written it.faults it.is_steady c.args.link.now) (link_of it.dialled it.left it.written it.faults it.is_steady c.ask.new.link)
    (link_of it.dialled it.left it.written it.faults it.is_steady c.listen.new.link) _ c.in-Ok-listen.listened c.in-Ok.ensures c.in-Ok-listen.ensures refl refl
