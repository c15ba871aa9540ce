use Rattle.kr_dialer.specs.Carrying.{link_of}
use Rattle.kr_dialer.proofs.CarriedLemmas.{still-dialled}
use Rattle.client_tool.proofs.RunningLemmas.{converse-on, converse-fails}
use Rattle.client_tool.proofs.running.converse_by.Goals as goal

-- the connection stays
pub talk-requires-clause-has_dialled : goal.talk-requires-clause-has_dialled
talk-requires-clause-has_dialled g c = still-dialled _ _ c.in-Ok.ensures.carried.dialled c.requires.has_dialled

pub talk-requires-clause-most : goal.talk-requires-clause-most
talk-requires-clause-most g c = c.in-Ok.ensures.ends.1

-- the handshake is whole
pub returns-in-Ok : goal.returns-in-Ok
returns-in-Ok g c =
    let it = g.D.Dialer in
    let old = link_of it.dialled it.left it.written it.faults it.is_steady c.args.dialer.now in
    let mid = link_of it.dialled it.left it.written it.faults it.is_steady c.greet.new.dialer in
    let new = link_of it.dialled it.left it.written it.faults it.is_steady c.talk.new.dialer in
    converse-on c.args.uid c.args.script.now.command old mid new c.in-Ok.framer c.talk.result c.in-Ok.ensures c.talk.ensures

-- it failed
pub returns-in-Err : goal.returns-in-Err
returns-in-Err g c =
    let it = g.D.Dialer in
    let old = link_of it.dialled it.left it.written it.faults it.is_steady c.args.dialer.now in
    let new = link_of it.dialled it.left it.written it.faults it.is_steady c.greet.new.dialer in
    converse-fails c.args.uid c.args.script.now.command old new c.in-Err.stop c.in-Err.ensures
