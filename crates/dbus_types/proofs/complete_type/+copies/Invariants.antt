-- The copies so far stand for the types so far.
use Rattle.std.proofs.Common.{◌≡◌, take}
use Rattle.dbus_types.specs.Views.{types_of}
use Rattle.dbus_types.proofs.complete_type.+copies.Given as goal

abbrev pub invariant-copy_types-loop-each : goal.invariant-copy_types-loop-each
invariant-copy_types-loop-each l = types_of l.copied.items ≡ types_of (take l.each-index l.types)
