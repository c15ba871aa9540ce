-- The types so far, and then those that are still read, are the types of the codes.
use Rattle.std.proofs.Common.{◌≡◌, ◌+◌, ◌-◌, ◌≤◌, length}
use Rattle.dbus_types.specs.Signatures.{type_at, types_by, types_behind}
use Rattle.dbus_types.specs.Types.{nesting_limit}
use Rattle.dbus_types.specs.Views.{types_of}
use Rattle.dbus_types.proofs.signature_reading.read_types.Given as goal

abbrev pub invariant-loop : goal.invariant-loop
invariant-loop l =
    (types_behind (types_of l.types.items) (types_by (type_at nesting_limit nesting_limit) (length l.codes - l.counter) l.left) ≡ types_by (type_at nesting_limit nesting_limit) (length l.codes) l.codes)
    × (length l.left + l.counter ≤ length l.codes)
