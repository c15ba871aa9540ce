-- The call on the object that the path names.
use Rattle.std.proofs.Common.{ap, refl, ◌∙◌}
use Rattle.dbus_framing.specs.Messages.{parts_of}
use Rattle.call_wire.specs.CallOf.{call_on}
use Rattle.call_wire.proofs.reading.call_of.Goals as goal

pub returns : goal.returns
returns c = record {
  call = c.in_ok-call.ensures ∙ ap (λ object. call_on object (parts_of c.args.message.now)) c.in_ok-object.ensures;
  serial = c.serial_of.ensures.value;
  wants_reply = refl;
  length = refl;
}
