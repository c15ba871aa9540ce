-- One message further on, and a message that is returned.
use Rattle.std.proofs.Common.{refl, subst, arith}
use Rattle.dbus_framing.specs.declared.framer.Look.{Look}
use Rattle.dbus_framing.specs.Looks.{Sees, SeesMessage}
use Rattle.dbus_framing.proofs.Cuts.{cut_none}
use Rattle.dbus_framing.proofs.Fronts.{finds_kept, goes_on}
use Rattle.dbus_framing.proofs.framer.find.Goals as goal

pub messages-init : goal.messages-init
messages-init c = record { fits = omega arith; left = refl; cut = cut_none c.args.most c.args.bytes.now; known = c.requires.known; unbroken = c.requires.whole }

pub returns-then-message-le4 : goal.returns-then-message-le4
returns-then-message-le4 c =
    let sees : SeesMessage c.args.most c.messages.left.now c.in-Whole.message = subst (λ (l : Look). Sees c.args.most c.messages.left.now l) c.in-Whole.is c.in_ok-seen.ensures in
    finds_kept c.args.most c.messages.taken c.args.bytes.now c.messages.left.now c.in-Whole.message c.messages.invariant.fits c.messages.invariant.left c.messages.invariant.cut sees c.if-message-le4.true

pub messages-preserved : goal.messages-preserved
messages-preserved c =
    let sees : SeesMessage c.args.most c.messages.left.now c.in-Whole.message = subst (λ (l : Look). Sees c.args.most c.messages.left.now l) c.in-Whole.is c.in_ok-seen.ensures in
    let on = goes_on c.args.most c.messages.taken c.args.bytes.now c.messages.left.now c.split_at.result.1.now c.in-Whole.message c.messages.invariant.fits c.messages.invariant.left c.messages.invariant.cut sees c.if-message-le4.false c.split_at.ensures.back in
    record { fits = on.fits; left = on.left; cut = on.cut; known = tt; unbroken = refl }
