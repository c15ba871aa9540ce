use Rattle.std.proofs.Common.{None, Ok}
use Rattle.kr_dialer.specs.Carrying.{link_of}
use Rattle.tool_script.specs.Script.{heard}
use Rattle.kr_dialer.proofs.CarriedLemmas.{still-dialled}
use Rattle.client_tool.proofs.TalkingLemmas.{sends-dialled, talk-goes, talk-unbegun, talk-never}
use Rattle.client_tool.proofs.talking.talk.Goals as goal

-- the first call wasn't sent
pub returns-in-Err : goal.returns-in-Err
returns-in-Err g c =
    let it = g.D.Dialer in
    talk-unbegun c.args.script.now c.args.framer.now.rest (link_of it.dialled it.left it.written it.faults it.is_steady c.args.dialer.now)
    (link_of it.dialled it.left it.written it.faults it.is_steady c.send_next.new.dialer) c.in-Err.stop c.requires.begun c.in-Err.ensures.sends

-- there is a first call
pub returns-in-Ok-End : goal.returns-in-Ok-End
returns-in-Ok-End g c =
    let it = g.D.Dialer in
    talk-never c.args.script.now c.args.framer.now.rest (link_of it.dialled it.left it.written it.faults it.is_steady c.args.dialer.now)
    (link_of it.dialled it.left it.written it.faults it.is_steady c.send_next.new.dialer) c.in-Ok-End.end c.requires.begun (rw c.in-Ok-End.field-0-is at c.in-Ok-End.ensures.sends)

-- the connection stays
pub talk_on-requires-clause-has_dialled : goal.talk_on-requires-clause-has_dialled
talk_on-requires-clause-has_dialled g c =
    let it = g.D.Dialer in
    let now = link_of it.dialled it.left it.written it.faults it.is_steady c.args.dialer.now in
    let later = link_of it.dialled it.left it.written it.faults it.is_steady c.send_next.new.dialer in
    let first = heard c.args.script.now None in
    still-dialled (it.dialled c.args.dialer.now) (it.dialled c.send_next.new.dialer) (sends-dialled first.command first.replies 1 now later (Ok c.in-Ok-Send.field-0) c.in-Ok-Send.ensures.sends)
    c.requires.has_dialled

-- it was sent, and the others were
pub returns-in-Ok-Send : goal.returns-in-Ok-Send
returns-in-Ok-Send g c =
    let it = g.D.Dialer in
    talk-goes c.args.script.now c.send_next.new.script c.args.framer.now.rest c.in-Ok-Send.call (link_of it.dialled it.left it.written it.faults it.is_steady c.args.dialer.now)
    (link_of it.dialled it.left it.written it.faults it.is_steady c.send_next.new.dialer) (link_of it.dialled it.left it.written it.faults it.is_steady c.talk_on.new.dialer) c.talk_on.result
    c.requires.begun c.in-Ok-Send.ensures.heard (rw c.in-Ok-Send.field-0-is at c.in-Ok-Send.ensures.sends) c.talk_on.ensures
