-- All bytes are zero exactly if those that are left are.
use Rattle.std.proofs.Common.{◌≡◌, length}
use Rattle.dbus_marshal.specs.Unmarshal.{are_zero}
use Rattle.dbus_marshal.proofs.reading.is_zero.Given as goal

abbrev pub invariant-loop-byte : goal.invariant-loop-byte
invariant-loop-byte l = are_zero l.left ≡ are_zero l.bytes

abbrev pub decreases-loop-byte : goal.decreases-loop-byte
decreases-loop-byte l = length l.left
