use Rattle.std.proofs.Common.{◌∙◌}
use Rattle.kr_dialer.specs.Carrying.{link_of}
use Rattle.client_tool.proofs.TalkingLemmas.{took, turn-none, turn-one}
use Rattle.client_tool.proofs.talking.take_turn.Goals as goal

-- the reply came
pub returns-in-Ok-Some-clause-takes : goal.returns-in-Ok-Some-clause-takes
returns-in-Ok-Some-clause-takes g c before start so =
    let it = g.D.Dialer in
    let mid = link_of it.dialled it.left it.written it.faults it.is_steady c.take_reply.new.dialer in
    let later = link_of it.dialled it.left it.written it.faults it.is_steady c.go_on.new.dialer in
    let script = c.args.script.now in
    let got =
    took script.command before c.take_reply.new.framer c.args.call.now c.args.serial.now script.replies start mid _ _ c.in-Ok-Some.field-0-is
    (c.in-Ok-Some.ensures.takes script.command before script.replies start so) in
    turn-one script.command c.go_on.new.script before c.take_reply.new.framer c.go_on.new.call c.go_on.new.serial start later c.go_on.result got.0
    (c.go_on.ensures.goes before c.take_reply.new.framer.rest start got.1)

-- a signal was skipped, or more was read
pub returns-in-Ok-None-clause-takes : goal.returns-in-Ok-None-clause-takes
returns-in-Ok-None-clause-takes g c before start so =
    let it = g.D.Dialer in
    let mid = link_of it.dialled it.left it.written it.faults it.is_steady c.take_reply.new.dialer in
    let script = c.args.script.now in
    turn-none script before c.take_reply.new.framer c.args.call.now c.args.serial.now start mid
    (took script.command before c.take_reply.new.framer c.args.call.now c.args.serial.now script.replies start mid _ _ c.in-Ok-None.field-0-is
    (c.in-Ok-None.ensures.takes script.command before script.replies start so))

-- the script stops
pub returns-in-Err-clause-takes : goal.returns-in-Err-clause-takes
returns-in-Err-clause-takes g c before start so =
    let script = c.args.script.now in
    c.in-Err.ensures.takes script.command before script.replies start so

-- nothing is dialled
pub returns-in-Ok-Some-clause-dialled : goal.returns-in-Ok-Some-clause-dialled
returns-in-Ok-Some-clause-dialled g c = c.go_on.ensures.dialled ∙ c.in-Ok-Some.ensures.dialled

-- the limit stays
pub returns-in-Ok-Some-clause-most : goal.returns-in-Ok-Some-clause-most
returns-in-Ok-Some-clause-most g c = c.in-Ok-Some.ensures.most
