use Rattle.std.proofs.Common.{refl, ◌+◌, Some, Ok, Err}
use Rattle.kr_dialer.specs.Carrying.{link_of}
use Rattle.tool_script.specs.Script.{heard}
use Rattle.client_tool.proofs.TalkingLemmas.{goes-spent, goes-next, goes-end, goes-unsent, sends-dialled}
use Rattle.client_tool.proofs.talking.go_on.Goals as goal

-- the serials are spent
pub returns-then-serial-eq4294967295-clause-goes : goal.returns-then-serial-eq4294967295-clause-goes
returns-then-serial-eq4294967295-clause-goes g c before left start has =
    goes-spent c.args.script.now.command c.args.script.now before left c.args.call.now c.args.serial.now c.args.script.now.replies start _ c.args.reply has

-- the next call was sent
pub returns-in-Ok-Send-clause-goes : goal.returns-in-Ok-Send-clause-goes
returns-in-Ok-Send-clause-goes g c before left start has =
    let it = g.D.Dialer in
    let now = link_of it.dialled it.left it.written it.faults it.is_steady c.args.dialer.now in
    let later = link_of it.dialled it.left it.written it.faults it.is_steady c.send_next.new.dialer in
    rw c.put.ensures (goes-next c.args.script.now c.send_next.new.script before left c.args.call.now c.in-Ok-Send.next c.args.serial.now _ start now later c.args.reply c.in-Ok-Send.ensures.heard refl
    (rw c.in-Ok-Send.field-0-is at c.in-Ok-Send.ensures.sends) has)

-- the script has ended
pub returns-in-Ok-End-clause-goes : goal.returns-in-Ok-End-clause-goes
returns-in-Ok-End-clause-goes g c before left start has =
    let it = g.D.Dialer in
    let now = link_of it.dialled it.left it.written it.faults it.is_steady c.args.dialer.now in
    let later = link_of it.dialled it.left it.written it.faults it.is_steady c.send_next.new.dialer in
    goes-end c.args.script.now c.send_next.new.script before left c.args.call.now c.args.serial.now (c.args.serial.now + 1) start now later c.args.reply c.in-Ok-End.end
    (rw c.in-Ok-End.field-0-is at c.in-Ok-End.ensures.sends) has

-- the next call wasn't sent
pub returns-in-Err-clause-goes : goal.returns-in-Err-clause-goes
returns-in-Err-clause-goes g c before left start has =
    let it = g.D.Dialer in
    let now = link_of it.dialled it.left it.written it.faults it.is_steady c.args.dialer.now in
    let later = link_of it.dialled it.left it.written it.faults it.is_steady c.send_next.new.dialer in
    goes-unsent c.args.script.now c.send_next.new.script before left c.args.call.now c.args.serial.now _ start now later c.args.reply c.in-Err.stop refl c.in-Err.ensures.sends has

-- nothing is dialled
pub returns-in-Ok-Send-clause-dialled : goal.returns-in-Ok-Send-clause-dialled
returns-in-Ok-Send-clause-dialled g c =
    let it = g.D.Dialer in
    let now = link_of it.dialled it.left it.written it.faults it.is_steady c.args.dialer.now in
    let later = link_of it.dialled it.left it.written it.faults it.is_steady c.send_next.new.dialer in
    let all = heard c.args.script.now (Some c.args.reply) in
    sends-dialled all.command all.replies (c.args.serial.now + 1) now later (Ok c.in-Ok-Send.field-0) c.in-Ok-Send.ensures.sends

pub returns-in-Ok-End-clause-dialled : goal.returns-in-Ok-End-clause-dialled
returns-in-Ok-End-clause-dialled g c =
    let it = g.D.Dialer in
    let now = link_of it.dialled it.left it.written it.faults it.is_steady c.args.dialer.now in
    let later = link_of it.dialled it.left it.written it.faults it.is_steady c.send_next.new.dialer in
    let all = heard c.args.script.now (Some c.args.reply) in
    sends-dialled all.command all.replies (c.args.serial.now + 1) now later (Ok c.in-Ok-End.field-0) c.in-Ok-End.ensures.sends

pub returns-in-Err-clause-dialled : goal.returns-in-Err-clause-dialled
returns-in-Err-clause-dialled g c =
    let it = g.D.Dialer in
    let now = link_of it.dialled it.left it.written it.faults it.is_steady c.args.dialer.now in
    let later = link_of it.dialled it.left it.written it.faults it.is_steady c.send_next.new.dialer in
    let all = heard c.args.script.now (Some c.args.reply) in
    sends-dialled all.command all.replies (c.args.serial.now + 1) now later (Err c.in-Err.stop) c.in-Err.ensures.sends
