-- What was consumed is messages of ignored types.
use Rattle.std.proofs.Common.{◌≡◌, ◌≤◌, [], length, drop, None}
use Rattle.dbus_framing.specs.Streams.{Cut}
use Rattle.dbus_framing.specs.Framers.{IsKnown, broken_in}
use Rattle.dbus_framing.proofs.framer.find.Given as goal

abbrev pub invariant-messages : goal.invariant-messages
invariant-messages l = record {
  fits : l.taken ≤ length l.bytes;
  left : l.left ≡ drop l.taken l.bytes;
  cut : Cut l.most l.bytes [] l.left;
  known : IsKnown l.most l.left l.progress;
  unbroken : broken_in l.progress ≡ None;
}

abbrev pub decreases-messages : goal.decreases-messages
decreases-messages l = length l.left
