use Rattle.std.proofs.Common.{◌∙◌, refl}
use Rattle.dbus_framing.specs.Messages.{parts_of}
use Rattle.load_plan.proofs.AnsweredLemmas.{so-none, so-on, so-last}
use Rattle.load_plan.proofs.answered.count_messages.Goals as goal

pub loop-init : goal.loop-init
loop-init g c = (refl, rw c.none-counts.ensures (so-none c.args.seed c.args.calls.now c.args.framer.now.rest))

-- no further message is complete
pub returns-in-Ok-None : goal.returns-in-Ok-None
returns-in-Ok-None g c =
    let waits = rw c.in-Ok-None.field-0-is at c.in-Ok-None.ensures.waits in
    so-last c.args.seed c.args.calls.now c.args.framer.now.rest c.loop.framer.rest c.next-in-loop.new.self.rest c.loop.counts c.loop.invariant.1
    (rw (c.loop.invariant.0 ∙ c.requires.most) at waits.0)

-- a violation shows
pub returns-in-Err-Violation : goal.returns-in-Err-Violation
returns-in-Err-Violation g c =
    let broken = rw c.in-Err-Violation.field-0-is at c.in-Err-Violation.ensures.refused in
    so-last c.args.seed c.args.calls.now c.args.framer.now.rest c.loop.framer.rest c.next-in-loop.new.self.rest c.loop.counts c.loop.invariant.1
    (rw (c.loop.invariant.0 ∙ c.requires.most) at broken.stream)

-- one more message
pub loop-preserved : goal.loop-preserved
loop-preserved g c =
    let cut = rw (c.in-Ok-Some.field-0-is, c.loop.invariant.0 ∙ c.requires.most) at c.in-Ok-Some.ensures.message in (
      c.in-Ok-Some.ensures.most ∙ c.loop.invariant.0,
      so-on c.args.seed c.args.calls.now c.args.framer.now.rest c.loop.framer.rest c.next-in-loop.new.self.rest c.loop.counts c.in_ok-counts.counts (parts_of c.in-Ok-Some.message) c.loop.invariant.1 cut
          c.in_ok-counts.ensures,
    )
