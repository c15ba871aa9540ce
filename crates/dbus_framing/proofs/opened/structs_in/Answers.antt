-- An array's elements are what its vector contains.
use Rattle.std.proofs.Common.{sym, ap, ◌∙◌}
use Rattle.dbus_types.specs.Values.{Val}
use Rattle.dbus_types.specs.declared.value.TypedArray.{TypedArray}
use Rattle.dbus_types.specs.Views.{type_of}
use Rattle.dbus_types.specs.ValueViews.{value_of, each_as}
use Rattle.dbus_types.proofs.ValueViews.{plain_array}
use Rattle.dbus_framing.specs.Headers.{structs_in}
use Rattle.dbus_framing.proofs.HeaderLemmas.{field_elements}
use Rattle.dbus_framing.proofs.opened.structs_in.Goals as goal

pub returns-in-Array : goal.returns-in-Array
returns-in-Array c =
    let inner = c.into_inner-array.result in
    field_elements (type_of inner.element) inner.values.items (sym c.is_field_type.ensures ∙ c.if-not-is_field_type.false)
    ∙ ap (λ (a : TypedArray). structs_in (Val.array (type_of a.element) (each_as (type_of a.element) a.values.items))) c.into_inner-array.ensures
    ∙ sym (ap structs_in (ap value_of c.in-Array.is ∙ plain_array c.in-Array.array))
