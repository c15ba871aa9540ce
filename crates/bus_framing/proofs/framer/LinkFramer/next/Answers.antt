-- One message further on.
use Rattle.std.proofs.Common.{◌≡◌, subst}
use Rattle.bus_framing.specs.declared.looking.Look.{Look}
use Rattle.bus_framing.specs.Looks.{look_at, look_of}
use Rattle.bus_framing.specs.Links.{here}
use Rattle.bus_framing.proofs.LinkLemmas.{step_passed, step_smaller}
use Rattle.bus_framing.proofs.framer.LinkFramer.next.Goals as goal

pub messages-init : goal.messages-init
messages-init c = here

pub messages-smaller : goal.messages-smaller
messages-smaller c =
    step_smaller c.messages.self c.look.new.self c.pass.new.self c.in-Passes.size c.look.ensures.same c.pass.ensures
    (subst (λ (look : Look). look_of look ≡ look_at c.messages.self.left) c.in-Passes.is c.in_ok-look.ensures.look)

pub messages-preserved : goal.messages-preserved
messages-preserved c =
    step_passed c.args.self.now c.messages.self c.look.new.self c.pass.new.self c.in-Passes.size c.messages.invariant c.look.ensures.same c.pass.ensures
    (subst (λ (look : Look). look_of look ≡ look_at c.messages.self.left) c.in-Passes.is c.in_ok-look.ensures.look)
