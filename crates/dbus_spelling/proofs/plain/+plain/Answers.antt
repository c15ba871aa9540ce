-- Each value's bytes, from those of its parts.
use Rattle.std.proofs.Common.{List, Vec, Global, ℕ, length, refl, sym, ap, ◌∙◌}
use Rattle.dbus_types.specs.declared.value.Value.{Value}
use Rattle.dbus_types.specs.Types.{Ty}
use Rattle.dbus_types.specs.Values.{Val}
use Rattle.dbus_types.specs.Views.{type_of, types_of}
use Rattle.dbus_types.specs.ValueViews.{value_of, value_as, core_as, each_as, all_as, fields_of, held_of, struct_fields}
use Rattle.dbus_marshal.specs.Spelling.{spelled}
use Rattle.dbus_marshal.proofs.WritingLemmas.{wrapped_value, array_tree, inner_tree, variant_no, typed_no, typed_yes, struct_yes, struct_no, each_left, all_left, all_past}
use Rattle.dbus_spelling.proofs.PartLemmas.{handed, array_value, struct_value, variant_value, entry_value, next_made}
use Rattle.dbus_spelling.proofs.plain.+plain.Goals as goal

pub spelling_as-returns : goal.spelling_as-returns
spelling_as-returns t c =
    wrapped_value c.args.endian (type_of c.args.known.now) (type_of c.core_of.result.now) c.args.value.now c.args.place c.wrapping-around.result c.start_of-start.result _ _ _ c.requires c.wrapping-around.ensures.value c.core_of.ensures
    c.start_of-start.ensures.value c.in_ok-inner.ensures c.as_slice.ensures.value c.in_ok-made.ensures

pub core_spelling-returns-in_ok-made-in-Bytes : goal.core_spelling-returns-in_ok-made-in-Bytes
core_spelling-returns-in_ok-made-in-Bytes t c =
    c.in_ok-made-in-Bytes.ensures ∙ ap (λ (v : Val). spelled c.args.endian v c.args.place) (ap (λ (bs : List ℕ). Val.bytes bs) (c.as_slice-in-Bytes.ensures ∙ c.deref-in-Bytes.ensures) ∙ ap (core_as (type_of c.args.known.now)) (sym c.in-Bytes.is))

pub core_spelling-returns-in-Variant : goal.core_spelling-returns-in-Variant
core_spelling-returns-in-Variant t c =
    handed c.variant_spelling.result _ _ (ap (λ (v : Value). spelled c.args.endian (core_as (type_of c.args.known.now) v) c.args.place) (sym c.in-Variant.is)) (rw (← c.deref-in-Variant.ensures) c.variant_spelling.ensures)

pub core_spelling-returns-in-Array : goal.core_spelling-returns-in-Array
core_spelling-returns-in-Array t c =
    handed c.typed_array_spelling.result _ _ (ap (λ (v : Val). spelled c.args.endian v c.args.place) (sym (array_tree _ (type_of c.args.known.now) c.in-Array.array c.in-Array.is)))
    (rw (← c.deref-in-Array.ensures) c.typed_array_spelling.ensures)

pub core_spelling-returns-in-InnerArray : goal.core_spelling-returns-in-InnerArray
core_spelling-returns-in-InnerArray t c =
    handed c.array_spelling.result _ _
    (ap (λ (v : Val). spelled c.args.endian v c.args.place)
    (sym (inner_tree _ (type_of c.args.known.now) (type_of c.element_of.result.now) c.in-InnerArray.values _ c.in-InnerArray.is (c.as_slice-in-InnerArray.ensures.value ∙ ap (λ (vs : Vec Value Global). vs.items) c.deref-in-InnerArray.ensures) c.element_of.ensures)))
    c.array_spelling.ensures

pub core_spelling-returns-in-Some : goal.core_spelling-returns-in-Some
core_spelling-returns-in-Some t c =
    handed c.struct_spelling.result _ _
    (ap (λ (v : Val). spelled c.args.endian v c.args.place) (sym (c.in-Some.ensures.fields.1 (type_of c.args.known.now)))) c.struct_spelling.ensures

pub core_spelling-returns-in-DictEntry : goal.core_spelling-returns-in-DictEntry
core_spelling-returns-in-DictEntry t c =
    handed c.entry_spelling.result _ _ (ap (λ (v : Value). spelled c.args.endian (core_as (type_of c.args.known.now) v) c.args.place) (sym c.in-DictEntry.is)) (rw (← c.deref-in-DictEntry.ensures) c.entry_spelling.ensures)

pub variant_spelling-returns-then-not-is_variant : goal.variant_spelling-returns-then-not-is_variant
variant_spelling-returns-then-not-is_variant t c =
    handed c.nothing.result _ _
    (ap (λ (v : Val). spelled c.args.endian v c.args.place) (sym (variant_no (type_of c.args.known.now) (value_of c.args.value.now) (sym c.is_variant.ensures ∙ c.if-not-is_variant.true)))) c.nothing.ensures

pub variant_spelling-returns : goal.variant_spelling-returns
variant_spelling-returns t c =
    variant_value c.args.endian c.args.place (type_of c.args.known.now) c.args.value.now _ _ _ _ _ _ _ c.len.result c.behind.result (sym c.is_variant.ensures ∙ c.if-not-is_variant.false) c.in_ok-types.ensures c.as_slice.ensures.value
    c.in_ok-front.ensures (c.len.ensures ∙ c.in_ok-front.front.ok.0) c.behind.ensures.value c.in_ok-rest.ensures c.as_slice-2.ensures.value c.as_slice-3.ensures.value c.in_ok-made.ensures

pub typed_array_spelling-returns-then-is_array : goal.typed_array_spelling-returns-then-is_array
typed_array_spelling-returns-then-is_array t c =
    handed c.nothing.result _ _
    (ap (λ (v : Val). spelled c.args.endian v c.args.place) (sym (typed_no (type_of c.args.known.now) _ _ (sym c.is_array.ensures ∙ c.if-is_array.true)))) c.nothing.ensures

pub typed_array_spelling-returns : goal.typed_array_spelling-returns
typed_array_spelling-returns t c =
    let u = type_of c.args.array.now.element in
    handed c.array_spelling.result _ _
    (ap (λ (v : Val). spelled c.args.endian v c.args.place)
    (ap (λ (l : List Value). Val.array u (each_as u l)) c.as_slice.ensures.value ∙ sym (typed_yes (type_of c.args.known.now) u _ (sym c.is_array.ensures ∙ c.if-is_array.false))))
    c.array_spelling.ensures

pub array_spelling-returns : goal.array_spelling-returns
array_spelling-returns t c =
    c.in_ok-made.ensures
    ∙ array_value c.args.endian c.args.place (type_of c.args.element.now) (each_as (type_of c.args.element.now) c.args.values.now) c.alignment-around.result c.behind-four.result c.start_of-first.result c.start_of.result _ _
    c.alignment-around.ensures.value c.start_of.ensures.value c.behind-four.ensures.value c.start_of-first.ensures.value c.in_ok-elements.ensures c.as_slice.ensures.value

pub struct_spelling-returns-in-Some : goal.struct_spelling-returns-in-Some
struct_spelling-returns-in-Some t c =
    let fields = c.args.fields.now in
    struct_value c.args.endian c.args.place (all_as (types_of c.in-Some.types.now) fields) c.start_of-start.result _ _ _ c.start_of-start.ensures.value c.in_ok-inner.ensures c.as_slice.ensures.value c.in_ok-made.ensures
    ∙ ap (λ (k : Ty). spelled c.args.endian (Val.struct (struct_fields k (all_as (fields_of k) fields) (each_as k fields))) c.args.place) (sym (struct_yes (type_of c.args.known.now) _ c.in-Some.ensures))

pub struct_spelling-returns : goal.struct_spelling-returns
struct_spelling-returns t c =
    let vs = each_as (type_of c.args.known.now) c.args.fields.now in
    struct_value c.args.endian c.args.place vs c.start_of-start.result _ _ _ c.start_of-start.ensures.value c.in_ok-inner-2.ensures c.as_slice-2.ensures.value c.in_ok-made-2.ensures
    ∙ ap (λ us. spelled c.args.endian (Val.struct us) c.args.place) (sym (struct_no (type_of c.args.known.now) _ _ c.in_default.ensures))

pub entry_spelling-returns : goal.entry_spelling-returns
entry_spelling-returns t c =
    entry_value c.args.endian c.args.place (value_as (type_of c.args.known.now) c.args.entry.now.key) (value_as (held_of (type_of c.args.known.now)) c.args.entry.now.value) (type_of c.held_of.result.now) (held_of (type_of c.args.known.now))
    c.start_of-start.result c.len.result c.behind.result _ _ _ _ _ _ _ c.args.entry.now.value refl c.held_of.ensures c.start_of-start.ensures.value c.in_ok-key.ensures (c.len.ensures ∙ c.in_ok-key.key.ok.0) c.behind.ensures.value c.in_ok-rest.ensures
    c.as_slice.ensures.value c.as_slice-2.ensures.value c.in_ok-inner.ensures c.as_slice-3.ensures.value c.in_ok-made.ensures
