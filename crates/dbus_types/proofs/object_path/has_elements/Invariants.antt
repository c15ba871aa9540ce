-- What is left, after what was read, are elements exactly if all of it is.
use Rattle.std.proofs.Common.{◌≡◌, length, false}
use Rattle.dbus_types.specs.Paths.{are_elements}
use Rattle.dbus_types.proofs.object_path.has_elements.Given as goal

abbrev pub invariant-loop-code : goal.invariant-loop-code
invariant-loop-code l = are_elements l.is_begun l.left ≡ are_elements false l.bytes

abbrev pub decreases-loop-code : goal.decreases-loop-code
decreases-loop-code l = length l.left
