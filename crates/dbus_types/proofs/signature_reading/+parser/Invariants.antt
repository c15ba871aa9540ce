-- Each reader passes on fewer codes, or as many to a reader of a lower rank.
use Rattle.std.proofs.Common.{◌≡◌, ◌+◌, ◌-◌, ◌*◌, ◌≤◌, length}
use Rattle.dbus_types.specs.Signatures.{type_at, fields_by, with_front}
use Rattle.dbus_types.specs.Views.{types_of}
use Rattle.dbus_types.proofs.signature_reading.+parser.Given as goal

abbrev pub decreases-read_array : goal.decreases-read_array
decreases-read_array l = 4 * length l.codes.now + 3

abbrev pub decreases-read_element : goal.decreases-read_element
decreases-read_element l = 4 * length l.codes.now + 2

abbrev pub decreases-read_entry : goal.decreases-read_entry
decreases-read_entry l = 4 * length l.codes.now + 1

abbrev pub decreases-read_fields : goal.decreases-read_fields
decreases-read_fields l = 4 * length l.codes.now + 1

abbrev pub decreases-read_struct : goal.decreases-read_struct
decreases-read_struct l = 4 * length l.codes.now + 3

abbrev pub decreases-read_type : goal.decreases-read_type
decreases-read_type l = 4 * length l.codes.now

abbrev pub invariant-read_fields-loop : goal.invariant-read_fields-loop
invariant-read_fields-loop l =
    (with_front (types_of l.fields.items) (fields_by (type_at l.arrays l.structs) (length l.codes - l.counter) l.left)
    ≡ with_front (types_of l.fn.first.items) (fields_by (type_at l.arrays l.structs) (length l.codes) l.codes))
    × (length l.left ≤ length l.codes)
