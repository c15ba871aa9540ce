-- What is written, and the texts of the types of the values that are left, are those of all.
use Rattle.std.proofs.Common.{◌≡◌, ◌++◌, drop}
use Rattle.dbus_types.specs.Types.{texts_of}
use Rattle.dbus_types.specs.Values.{tys_of}
use Rattle.dbus_types.specs.ValueViews.{values_of}
use Rattle.dbus_marshal.proofs.type_text.+value_types.Given as goal

abbrev pub invariant-write_types_of-loop-each : goal.invariant-write_types_of-loop-each
invariant-write_types_of-loop-each l = l.out.items ++ texts_of (tys_of (values_of (drop l.each-index l.values))) ≡ l.fn.out.items ++ texts_of (tys_of (values_of l.values))
