use Rattle.std.proofs.Common.{refl, ◌∙◌, None, Some, Ok, Err}
use Rattle.kr_dialer.specs.Carrying.{link_of}
use Rattle.kr_dialer.proofs.CarriedLemmas.{still-dialled}
use Rattle.client_tool.proofs.TalkingLemmas.{loop-turn, turned}
use Rattle.client_tool.proofs.talking.talk_on.Goals as goal

pub loop-init : goal.loop-init
loop-init g c = (c.requires.most, refl, λ before start so. (refl, so))

-- the connection stays
pub take_turn-requires-clause-has_dialled : goal.take_turn-requires-clause-has_dialled
take_turn-requires-clause-has_dialled g c = still-dialled _ _ c.loop.invariant.1 c.requires.has_dialled

-- one more turn was taken
pub loop-preserved : goal.loop-preserved
loop-preserved g c = (
  c.in-Ok-None.ensures.most ∙ c.loop.invariant.0,
  c.in-Ok-None.ensures.dialled ∙ c.loop.invariant.1,
  λ before start so.
      let it = g.D.Dialer in
      let now = link_of it.dialled it.left it.written it.faults it.is_steady c.loop.dialer in
      let later = link_of it.dialled it.left it.written it.faults it.is_steady c.take_turn.new.dialer in
      let script = c.args.script.now in
      let held = c.loop.invariant.2 before start so in
      let took =
      turned script.command c.take_turn.new.script before c.take_turn.new.framer c.take_turn.new.call c.take_turn.new.serial start later c.in-Ok-None.field-0 None c.in-Ok-None.field-0-is
      (loop-turn script.command c.loop.script c.take_turn.new.script before c.loop.framer c.take_turn.new.framer c.loop.call c.take_turn.new.call c.loop.serial
      c.take_turn.new.serial start now later (Ok c.in-Ok-None.field-0) held.0 held.1 c.in-Ok-None.ensures.takes) in
      (took.1, took.2),
)

-- the script has ended
pub returns-in-Ok-Some : goal.returns-in-Ok-Some
returns-in-Ok-Some g c before start so =
    let it = g.D.Dialer in
    let now = link_of it.dialled it.left it.written it.faults it.is_steady c.loop.dialer in
    let later = link_of it.dialled it.left it.written it.faults it.is_steady c.take_turn.new.dialer in
    let script = c.args.script.now in
    let held = c.loop.invariant.2 before start so in
    turned script.command c.take_turn.new.script before c.take_turn.new.framer c.take_turn.new.call c.take_turn.new.serial start later c.in-Ok-Some.field-0 (Some c.in-Ok-Some.end) c.in-Ok-Some.field-0-is
    (loop-turn script.command c.loop.script c.take_turn.new.script before c.loop.framer c.take_turn.new.framer c.loop.call c.take_turn.new.call c.loop.serial
    c.take_turn.new.serial start now later (Ok c.in-Ok-Some.field-0) held.0 held.1 c.in-Ok-Some.ensures.takes)

-- it stops
pub returns-in-Err : goal.returns-in-Err
returns-in-Err g c before start so =
    let it = g.D.Dialer in
    let now = link_of it.dialled it.left it.written it.faults it.is_steady c.loop.dialer in
    let later = link_of it.dialled it.left it.written it.faults it.is_steady c.take_turn.new.dialer in
    let script = c.args.script.now in
    let held = c.loop.invariant.2 before start so in
    loop-turn script.command c.loop.script c.take_turn.new.script before c.loop.framer c.take_turn.new.framer c.loop.call c.take_turn.new.call c.loop.serial
    c.take_turn.new.serial start now later (Err c.in-Err.stop) held.0 held.1 c.in-Err.ensures.takes
