use Rattle.std.proofs.Common.{◌≡◌}
use Rattle.dbus_types.specs.ValueViews.{each_as}
use Rattle.dbus_framing.specs.Headers.{with_values, field_type}
use Rattle.dbus_framing.specs.HeaderViews.{fields_of}
use Rattle.dbus_framing.proofs.header.with_values.Given as goal

abbrev pub invariant-loop-field : goal.invariant-loop-field
invariant-loop-field l =
    (goal.iterator-loop-field).can_next l.field-iterator ×
    (goal.iterator-loop-field).is_finite l.field-iterator ×
    (with_values (fields_of l.header) (each_as field_type l.field-iterator.rest.items) ≡ with_values (fields_of l.fn.header) (each_as field_type l.fn.fields.items))
