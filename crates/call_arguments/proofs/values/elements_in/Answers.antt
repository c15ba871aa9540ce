-- An array's elements are those of its vector.
use Rattle.std.proofs.Common.{◌≡◌, true, Some, sym, ap, ◌∙◌}
use Rattle.dbus_types.specs.declared.value.TypedArray.{TypedArray}
use Rattle.dbus_types.specs.Views.{type_of}
use Rattle.dbus_types.specs.ValueViews.{value_of, each_as}
use Rattle.dbus_types.proofs.ValueViews.{plain_array}
use Rattle.call_arguments.specs.Arguments.{type_of_element, is_element, elements_in}
use Rattle.call_arguments.proofs.ValueLemmas.{elements_are}
use Rattle.call_arguments.proofs.values.elements_in.Goals as goal

pub returns-else-not-is_element : goal.returns-else-not-is_element
returns-else-not-is_element c =
    let held = c.in-Array.array.value in
    let wanted = c.args.wanted in
    let test : is_element wanted (type_of held.element) ≡ true =
    ap (λ (a : TypedArray). is_element wanted (type_of a.element)) (sym c.deref.ensures) ∙ sym c.is_element.ensures ∙ c.if-not-is_element.false in
    ap (λ vs. Some (each_as (type_of_element wanted) vs)) (c.as_slice.ensures.value ∙ ap (λ (a : TypedArray). a.values.items) c.deref-in-Array.ensures)
    ∙ elements_are wanted (type_of held.element) held.values.items test
    ∙ sym (ap (elements_in wanted) (ap value_of c.in-Array.is ∙ plain_array c.in-Array.array))
