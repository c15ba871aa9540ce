-- What is made, and what the values that are left spell after it, is what all spell.
use Rattle.std.proofs.Common.{◌≡◌, ◌++◌, drop, length}
use Rattle.dbus_types.specs.Views.{type_of, types_of}
use Rattle.dbus_types.specs.ValueViews.{each_as, all_as}
use Rattle.dbus_marshal.specs.Wire.{behind}
use Rattle.dbus_marshal.specs.Spelling.{all_spelled}
use Rattle.dbus_spelling.proofs.plain.+plain.Given as goal

abbrev pub invariant-spelling_of_each-loop-each : goal.invariant-spelling_of_each-loop-each
invariant-spelling_of_each-loop-each l =
    l.made.items ++ all_spelled l.endian (each_as (type_of l.known) (drop l.each-index l.values)) (behind l.place (length l.made.items)) ≡ all_spelled l.endian (each_as (type_of l.known) l.values) l.place

abbrev pub invariant-spelling_of_fields-loop-each : goal.invariant-spelling_of_fields-loop-each
invariant-spelling_of_fields-loop-each l =
    l.made.items ++ all_spelled l.endian (all_as (types_of l.left) (drop l.each-index l.values)) (behind l.place (length l.made.items)) ≡ all_spelled l.endian (all_as (types_of l.types) l.values) l.place
