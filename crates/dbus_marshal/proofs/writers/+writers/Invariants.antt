-- What is written, and what the values that are left spell after it, is what all spell; no written value has an array
-- that is too long.
use Rattle.std.proofs.Common.{◌≡◌, ◌++◌, drop, length}
use Rattle.dbus_types.specs.Views.{type_of, types_of}
use Rattle.dbus_types.specs.ValueViews.{each_as, all_as}
use Rattle.dbus_marshal.specs.Wire.{behind}
use Rattle.dbus_marshal.specs.Spelling.{all_spelled, are_short}
use Rattle.dbus_marshal.proofs.writers.+writers.Given as goal

abbrev pub invariant-write_each-loop-each : goal.invariant-write_each-loop-each
invariant-write_each-loop-each l =
    (l.out.items ++ all_spelled l.endian (each_as (type_of l.known) (drop l.each-index l.values)) (behind l.phase (length l.out.items))
    ≡ l.fn.out.items ++ all_spelled l.endian (each_as (type_of l.known) l.values) (behind l.phase (length l.fn.out.items)))
    × (are_short l.endian (each_as (type_of l.known) (drop l.each-index l.values)) (behind l.phase (length l.out.items)) ≡ are_short l.endian (each_as (type_of l.known) l.values) (behind l.phase (length l.fn.out.items)))

abbrev pub invariant-write_all-loop-each : goal.invariant-write_all-loop-each
invariant-write_all-loop-each l =
    (l.out.items ++ all_spelled l.endian (all_as (types_of l.left) (drop l.each-index l.values)) (behind l.phase (length l.out.items))
    ≡ l.fn.out.items ++ all_spelled l.endian (all_as (types_of l.types) l.values) (behind l.phase (length l.fn.out.items)))
    × (are_short l.endian (all_as (types_of l.left) (drop l.each-index l.values)) (behind l.phase (length l.out.items)) ≡ are_short l.endian (all_as (types_of l.types) l.values) (behind l.phase (length l.fn.out.items)))
