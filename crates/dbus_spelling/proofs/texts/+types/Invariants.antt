-- What is made, and the texts of the types that are left, are the texts of all.
use Rattle.std.proofs.Common.{◌≡◌, ◌++◌, drop}
use Rattle.dbus_types.specs.Types.{texts_of}
use Rattle.dbus_types.specs.Views.{types_of}
use Rattle.dbus_spelling.proofs.texts.+types.Given as goal

abbrev pub invariant-texts_of_types-loop-each : goal.invariant-texts_of_types-loop-each
invariant-texts_of_types-loop-each l = l.made.items ++ texts_of (types_of (drop l.each-index l.types)) ≡ texts_of (types_of l.types)
