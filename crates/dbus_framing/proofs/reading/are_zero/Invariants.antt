use Rattle.std.proofs.Common.{◌≡◌, length}
use Rattle.dbus_marshal.specs.Unmarshal.{are_zero}
use Rattle.dbus_framing.proofs.reading.are_zero.Given as goal

abbrev pub invariant-loop-byte : goal.invariant-loop-byte
invariant-loop-byte l = are_zero l.left ≡ are_zero l.bytes

abbrev pub decreases-loop-byte : goal.decreases-loop-byte
decreases-loop-byte l = length l.left
