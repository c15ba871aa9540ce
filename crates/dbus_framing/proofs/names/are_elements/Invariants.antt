use Rattle.std.proofs.Common.{◌≡◌, false, length}
use Rattle.dbus_framing.specs.Names.{are_name_elements}
use Rattle.dbus_framing.proofs.names.are_elements.Given as goal

abbrev pub invariant-loop-code : goal.invariant-loop-code
invariant-loop-code l = are_name_elements l.is_begun l.left ≡ are_name_elements false l.bytes

abbrev pub decreases-loop-code : goal.decreases-loop-code
decreases-loop-code l = length l.left
