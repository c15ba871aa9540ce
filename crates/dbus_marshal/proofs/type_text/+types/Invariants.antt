-- What is written, and the texts of the types that are left, are the texts of all.
use Rattle.std.proofs.Common.{◌≡◌, ◌++◌, drop}
use Rattle.dbus_types.specs.Types.{texts_of}
use Rattle.dbus_types.specs.Views.{types_of}
use Rattle.dbus_marshal.proofs.type_text.+types.Given as goal

abbrev pub invariant-write_types-loop-each : goal.invariant-write_types-loop-each
invariant-write_types-loop-each l = l.out.items ++ texts_of (types_of (drop l.each-index l.types)) ≡ l.fn.out.items ++ texts_of (types_of l.types)
