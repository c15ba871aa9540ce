-- What is made, and the texts of the types of the values that are left, are those of all.
use Rattle.std.proofs.Common.{◌≡◌, ◌++◌, drop}
use Rattle.dbus_types.specs.Types.{texts_of}
use Rattle.dbus_types.specs.Values.{tys_of}
use Rattle.dbus_types.specs.ValueViews.{values_of}
use Rattle.dbus_spelling.proofs.texts.+value_types.Given as goal

abbrev pub invariant-texts_of_value_types-loop-each : goal.invariant-texts_of_value_types-loop-each
invariant-texts_of_value_types-loop-each l = l.made.items ++ texts_of (tys_of (values_of (drop l.each-index l.values))) ≡ texts_of (tys_of (values_of l.values))
