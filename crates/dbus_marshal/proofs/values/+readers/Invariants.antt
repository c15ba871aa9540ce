-- Each container has one depth less for what is inside it.
use Rattle.std.proofs.Common.{◌≡◌, ◌+◌, ◌-◌, ◌*◌, length}
use Rattle.dbus_types.specs.Views.{type_of, types_of}
use Rattle.dbus_types.specs.ValueViews.{each_as, fields_as}
use Rattle.dbus_marshal.specs.Cursors.{spot_of}
use Rattle.dbus_marshal.specs.Unmarshal.{value_at, elements_from, fields_by, with_values, with_fields}
use Rattle.dbus_marshal.proofs.ValueReading.{AreLeft}
use Rattle.dbus_marshal.proofs.values.+readers.Given as goal

abbrev pub decreases-read_value : goal.decreases-read_value
decreases-read_value l = 4 * l.depth

abbrev pub decreases-read_variant : goal.decreases-read_variant
decreases-read_variant l = 4 * l.depth + 3

abbrev pub decreases-read_array : goal.decreases-read_array
decreases-read_array l = 4 * l.depth + 3

abbrev pub decreases-read_elements : goal.decreases-read_elements
decreases-read_elements l = 4 * l.depth + 2

abbrev pub decreases-read_each : goal.decreases-read_each
decreases-read_each l = 4 * l.depth + 1

abbrev pub decreases-read_struct : goal.decreases-read_struct
decreases-read_struct l = 4 * l.depth + 3

abbrev pub decreases-read_fields : goal.decreases-read_fields
decreases-read_fields l = 4 * l.depth + 1

abbrev pub decreases-read_entry : goal.decreases-read_entry
decreases-read_entry l = 4 * l.depth + 3

abbrev pub invariant-read_each-loop : goal.invariant-read_each-loop
invariant-read_each-loop l =
    with_values (each_as (type_of l.element) l.values.items) (elements_from (value_at l.depth l.endian (type_of l.element)) (l.count - l.counter) (spot_of l.rest) l.rest.left.now)
    ≡ elements_from (value_at l.depth l.endian (type_of l.element)) l.count (spot_of l.fn.cursor) l.fn.cursor.left.now

abbrev pub invariant-read_fields-loop-next : goal.invariant-read_fields-loop-next
invariant-read_fields-loop-next l =
    (with_fields (fields_as l.is_inner (types_of l.types) l.values.items) (fields_by (value_at l.depth l.endian) (types_of l.left) (spot_of l.rest))
    ≡ fields_by (value_at l.depth l.endian) (types_of l.types) (spot_of l.fn.cursor))
    × AreLeft l.is_inner (types_of l.types) l.values.items (types_of l.left)

abbrev pub decreases-read_fields-loop-next : goal.decreases-read_fields-loop-next
decreases-read_fields-loop-next l = length l.left
