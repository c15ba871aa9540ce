-- What each writer leaves, from what its parts left.
use Rattle.std.proofs.Common.{ℕ, ◌++◌, ◌&&◌, List, Vec, Global, length, Ok, Err, sym, ap, subst, ◌∙◌}
use Rattle.std.proofs.lemmas.Result.{err_from_is_err_and}
use Rattle.dbus_types.specs.declared.complete_type.BasicType.TheVariants as basics
use Rattle.dbus_types.specs.declared.value.Value.{Value}
use Rattle.dbus_types.specs.Types.{Ty, Tys, text_of, texts_of}
use Rattle.dbus_types.specs.Values.{Val, Vals, ty_of}
use Rattle.dbus_types.specs.SignatureViews.{types_in}
use Rattle.dbus_types.specs.Views.{type_of, types_of}
use Rattle.dbus_types.specs.ValueViews.{value_of, value_as, core_as, each_as, all_as, fields_of, held_of, in_variant, struct_fields, nothing}
use Rattle.dbus_marshal.specs.declared.refused.MarshalFault.TheVariants.{TooLong}
use Rattle.dbus_marshal.specs.Wire.{behind}
use Rattle.dbus_marshal.specs.Spelling.{spelled, all_spelled, is_short, are_short, text_spelled}
use Rattle.dbus_marshal.specs.Writing.{Writes}
use Rattle.dbus_marshal.proofs.WritingLemmas.{writes_at, writes_both, writes_padded, writes_tree, writes_array, writes_wrapped, writes_nothing, array_tree, inner_tree, variant_no, variant_yes, typed_no, typed_yes, struct_yes, struct_no, array_fault, array_long, array_room, array_done, next_step, next_over, each_left, all_left, all_past, each_none, all_none}
use Rattle.dbus_marshal.proofs.writers.+writers.Goals as goal

pub write_value-returns : goal.write_value-returns
write_value-returns t c =
    writes_wrapped c.write_core.result c.args.endian c.args.phase (type_of c.args.known.now) (type_of c.core_of.result.now) c.args.value.now c.wrapping.result c.args.out.now.items c.pad.new.out.items c.write_core.new.out.items
    c.wrapping.ensures.value c.core_of.ensures c.in_ok-pad.ensures c.write_core.ensures

pub write_core-returns-in-Byte : goal.write_core-returns-in-Byte
write_core-returns-in-Byte t c =
    writes_tree c.write_u8.result c.args.endian _ _ (behind c.args.phase (length c.args.out.now.items)) c.args.out.now.items c.write_u8.new.out.items (ap (core_as (type_of c.args.known.now)) c.in-Byte.is) c.write_u8.ensures

pub write_core-returns-in-Uint16 : goal.write_core-returns-in-Uint16
write_core-returns-in-Uint16 t c =
    writes_tree c.write_u16-in-Uint16.result c.args.endian _ _ (behind c.args.phase (length c.args.out.now.items)) c.args.out.now.items c.write_u16-in-Uint16.new.out.items (ap (core_as (type_of c.args.known.now)) c.in-Uint16.is) c.write_u16-in-Uint16.ensures

pub write_core-returns-in-Uint32 : goal.write_core-returns-in-Uint32
write_core-returns-in-Uint32 t c =
    writes_tree c.write_u32-in-Uint32.result c.args.endian _ _ (behind c.args.phase (length c.args.out.now.items)) c.args.out.now.items c.write_u32-in-Uint32.new.out.items (ap (core_as (type_of c.args.known.now)) c.in-Uint32.is) c.write_u32-in-Uint32.ensures

pub write_core-returns-in-Uint64 : goal.write_core-returns-in-Uint64
write_core-returns-in-Uint64 t c =
    writes_tree c.write_u64-in-Uint64.result c.args.endian _ _ (behind c.args.phase (length c.args.out.now.items)) c.args.out.now.items c.write_u64-in-Uint64.new.out.items (ap (core_as (type_of c.args.known.now)) c.in-Uint64.is) c.write_u64-in-Uint64.ensures

pub write_core-returns-in-Double : goal.write_core-returns-in-Double
write_core-returns-in-Double t c =
    writes_tree c.write_u64-in-Double.result c.args.endian _ _ (behind c.args.phase (length c.args.out.now.items)) c.args.out.now.items c.write_u64-in-Double.new.out.items (ap (core_as (type_of c.args.known.now)) c.in-Double.is) c.write_u64-in-Double.ensures

pub write_core-returns-in-UnixFd : goal.write_core-returns-in-UnixFd
write_core-returns-in-UnixFd t c =
    writes_tree c.write_u32-in-UnixFd.result c.args.endian _ _ (behind c.args.phase (length c.args.out.now.items)) c.args.out.now.items c.write_u32-in-UnixFd.new.out.items (ap (core_as (type_of c.args.known.now)) c.in-UnixFd.is) c.write_u32-in-UnixFd.ensures

pub write_core-returns-in-Array : goal.write_core-returns-in-Array
write_core-returns-in-Array t c =
    writes_tree c.write_typed_array.result c.args.endian _ _ (behind c.args.phase (length c.args.out.now.items)) c.args.out.now.items c.write_typed_array.new.out.items
    (array_tree _ (type_of c.args.known.now) c.in-Array.array c.in-Array.is) (rw (← c.deref-in-Array.ensures) c.write_typed_array.ensures)

pub write_core-returns-in-InnerArray : goal.write_core-returns-in-InnerArray
write_core-returns-in-InnerArray t c =
    writes_tree c.write_array.result c.args.endian _ _ (behind c.args.phase (length c.args.out.now.items)) c.args.out.now.items c.write_array.new.out.items
    (inner_tree _ (type_of c.args.known.now) (type_of c.element_of.result.now) c.in-InnerArray.values _ c.in-InnerArray.is (c.as_slice-in-InnerArray.ensures.value ∙ ap (λ (vs : Vec Value Global). vs.items) c.deref-in-InnerArray.ensures) c.element_of.ensures) c.write_array.ensures

pub write_core-returns-in-Some : goal.write_core-returns-in-Some
write_core-returns-in-Some t c =
    writes_tree c.write_struct.result c.args.endian _ _ (behind c.args.phase (length c.args.out.now.items)) c.args.out.now.items c.write_struct.new.out.items
    (c.in-Some.ensures.fields.1 (type_of c.args.known.now)) c.write_struct.ensures

pub write_core-returns-in-DictEntry : goal.write_core-returns-in-DictEntry
write_core-returns-in-DictEntry t c =
    writes_tree c.write_entry.result c.args.endian _ _ (behind c.args.phase (length c.args.out.now.items)) c.args.out.now.items c.write_entry.new.out.items
    (ap (core_as (type_of c.args.known.now)) c.in-DictEntry.is) (rw (← c.deref-in-DictEntry.ensures) c.write_entry.ensures)

pub write_core-returns-in-Bytes : goal.write_core-returns-in-Bytes
write_core-returns-in-Bytes t c =
    writes_tree c.write_bytes.result c.args.endian _ _ (behind c.args.phase (length c.args.out.now.items)) c.args.out.now.items c.write_bytes.new.out.items
    (ap (core_as (type_of c.args.known.now)) c.in-Bytes.is ∙ ap (λ (bs : List ℕ). Val.bytes bs) (sym (c.as_slice.ensures ∙ c.deref-in-Bytes.ensures))) c.write_bytes.ensures

pub write_core-returns-in-Variant : goal.write_core-returns-in-Variant
write_core-returns-in-Variant t c =
    writes_tree c.write_variant.result c.args.endian _ _ (behind c.args.phase (length c.args.out.now.items)) c.args.out.now.items c.write_variant.new.out.items
    (ap (core_as (type_of c.args.known.now)) c.in-Variant.is) (rw (← c.deref-in-Variant.ensures) c.write_variant.ensures)

pub write_core-returns-in-Signature : goal.write_core-returns-in-Signature
write_core-returns-in-Signature t c =
    writes_tree c.write_signature.result c.args.endian _ _ (behind c.args.phase (length c.args.out.now.items)) c.args.out.now.items c.write_signature.new.out.items
    (ap (core_as (type_of c.args.known.now)) c.in-Signature.is ∙ ap (λ (ts : Tys). Val.text basics.Signature (texts_of ts)) (sym (c.types.ensures.value ∙ ap types_in c.deref-in-Signature.ensures))) c.write_signature.ensures

pub write_variant-returns-then-not-is_variant : goal.write_variant-returns-then-not-is_variant
write_variant-returns-then-not-is_variant t c =
    writes_nothing c.args.endian _ (behind c.args.phase (length c.args.out.now.items)) c.args.out.now.items _
    (variant_no (type_of c.args.known.now) (value_of c.args.value.now) (sym c.is_variant.ensures ∙ c.if-not-is_variant.true)) c.in_ok-pad.ensures

pub write_variant-returns : goal.write_variant-returns
write_variant-returns t c =
    let same = variant_yes (type_of c.args.known.now) (sym c.is_variant.ensures ∙ c.if-not-is_variant.false) in
    let v = value_of c.args.value.now in
    let mid = c.write_signature_of.new.out.items in
    writes_tree c.write_value.result c.args.endian _ (Val.variant v) (behind c.args.phase (length c.args.out.now.items)) c.args.out.now.items c.write_value.new.out.items (ap (λ (k : Ty). in_variant k v) same)
    (writes_at c.write_value.result c.args.phase (spelled c.args.endian v) (is_short c.args.endian v)
    (text_spelled c.args.endian basics.Signature (text_of (ty_of v)) (behind c.args.phase (length c.args.out.now.items)))
    c.args.out.now.items mid c.write_value.new.out.items c.in_ok-write_signature_of.ensures.0
    (subst (λ (k : Ty). Writes c.write_value.result (spelled c.args.endian (value_as k c.args.value.now) (behind c.args.phase (length mid))) (is_short c.args.endian (value_as k c.args.value.now) (behind c.args.phase (length mid))) mid c.write_value.new.out.items)
    same c.write_value.ensures))

pub write_typed_array-returns-then-is_array : goal.write_typed_array-returns-then-is_array
write_typed_array-returns-then-is_array t c =
    writes_nothing c.args.endian _ (behind c.args.phase (length c.args.out.now.items)) c.args.out.now.items _ (typed_no (type_of c.args.known.now) _ _ (sym c.is_array.ensures ∙ c.if-is_array.true)) c.in_ok-pad.ensures

pub write_typed_array-returns : goal.write_typed_array-returns
write_typed_array-returns t c =
    let u = type_of c.args.array.now.element in
    writes_tree c.write_array.result c.args.endian _ _ (behind c.args.phase (length c.args.out.now.items)) c.args.out.now.items c.write_array.new.out.items
    (typed_yes (type_of c.args.known.now) u _ (sym c.is_array.ensures ∙ c.if-is_array.false) ∙ ap (λ (l : List Value). Val.array u (each_as u l)) (sym c.as_slice.ensures.value)) c.write_array.ensures

pub write_struct-returns-in-Some : goal.write_struct-returns-in-Some
write_struct-returns-in-Some t c =
    let fields = c.args.fields.now in
    let vs = all_as (types_of c.in-Some.types.now) fields in
    writes_tree c.write_all.result c.args.endian _ (Val.struct vs) (behind c.args.phase (length c.args.out.now.items)) c.args.out.now.items c.write_all.new.out.items
    (ap (λ (k : Ty). Val.struct (struct_fields k (all_as (fields_of k) fields) (each_as k fields))) (struct_yes (type_of c.args.known.now) _ c.in-Some.ensures))
    (writes_padded c.write_all.result c.args.phase 8 (all_spelled c.args.endian vs) (are_short c.args.endian vs) c.args.out.now.items c.pad.new.out.items c.write_all.new.out.items c.in_ok-pad.ensures c.write_all.ensures)

pub write_struct-returns : goal.write_struct-returns
write_struct-returns t c =
    let vs = each_as (type_of c.args.known.now) c.args.fields.now in
    writes_tree c.write_each.result c.args.endian _ (Val.struct vs) (behind c.args.phase (length c.args.out.now.items)) c.args.out.now.items c.write_each.new.out.items
    (ap Val.struct (struct_no (type_of c.args.known.now) _ _ c.in_default.ensures))
    (writes_padded c.write_each.result c.args.phase 8 (all_spelled c.args.endian vs) (are_short c.args.endian vs) c.args.out.now.items c.pad.new.out.items c.write_each.new.out.items c.in_ok-pad.ensures c.write_each.ensures)

pub write_entry-returns : goal.write_entry-returns
write_entry-returns t c =
    let key = value_as (type_of c.args.known.now) c.args.entry.now.key in
    let value = value_as (held_of (type_of c.args.known.now)) c.args.entry.now.value in
    let mid = c.write_value.new.out.items in
    writes_padded c.write_value-2.result c.args.phase 8 (λ p. spelled c.args.endian key p ++ spelled c.args.endian value (behind p (length (spelled c.args.endian key p))))
    (λ p. is_short c.args.endian key p && is_short c.args.endian value (behind p (length (spelled c.args.endian key p))))
    c.args.out.now.items c.pad.new.out.items c.write_value-2.new.out.items c.in_ok-pad.ensures
    (writes_both c.write_value-2.result c.args.phase (spelled c.args.endian key (behind c.args.phase (length c.pad.new.out.items))) (is_short c.args.endian key (behind c.args.phase (length c.pad.new.out.items)))
    (spelled c.args.endian value) (is_short c.args.endian value) c.pad.new.out.items mid c.write_value-2.new.out.items c.in_ok-write_value.ensures.0 c.in_ok-write_value.ensures.1
    (subst (λ (k : Ty). Writes c.write_value-2.result (spelled c.args.endian (value_as k c.args.entry.now.value) (behind c.args.phase (length mid))) (is_short c.args.endian (value_as k c.args.entry.now.value) (behind c.args.phase (length mid))) mid c.write_value-2.new.out.items)
    c.held_of.ensures c.write_value-2.ensures))

pub write_array-returns-in_err-write_each : goal.write_array-returns-in_err-write_each
write_array-returns-in_err-write_each t c =
    let p = err_from_is_err_and c.from_residual-in_err-write_each.result c.from_residual-in_err-write_each.ensures.1 in
    let vs = each_as (type_of c.args.element.now) c.args.values.now in rw (p.1, p.2)
    (writes_array {X = Unit {0}} (Err c.in_err-write_each.field-0.0) c.args.endian (type_of c.args.element.now) vs (behind c.args.phase (length c.args.out.now.items)) c.alignment-alignment.result c.args.out.now.items c.write_each.new.out.items c.alignment-alignment.ensures.value
    (array_fault c.in_err-write_each.field-0.0 c.args.endian c.args.phase c.alignment-alignment.result c.in_ok-mark.mark vs c.args.out.now.items c.open_array.new.out.items c.write_each.new.out.items
    c.in_ok-mark.ensures.opens c.in_ok-mark.ensures.mark c.in_err-write_each.ensures))

pub write_array-returns-then-count-gt-ARRAY_LIMIT : goal.write_array-returns-then-count-gt-ARRAY_LIMIT
write_array-returns-then-count-gt-ARRAY_LIMIT t c =
    let vs = each_as (type_of c.args.element.now) c.args.values.now in
    writes_array {X = Unit {0}} (Err TooLong) c.args.endian (type_of c.args.element.now) vs (behind c.args.phase (length c.args.out.now.items)) c.alignment-alignment.result c.args.out.now.items c.write_each.new.out.items c.alignment-alignment.ensures.value
    (array_long c.args.endian c.args.phase c.alignment-alignment.result c.in_ok-mark.mark vs c.args.out.now.items c.open_array.new.out.items c.write_each.new.out.items _ _
    c.in_ok-mark.ensures.opens c.in_ok-mark.ensures.mark c.in_ok-write_each.ensures.0 (c.len-start.ensures ∙ c.open_array.new.out.ok.0) (c.len.ensures ∙ c.write_each.new.out.ok.0) c.if-count-gt-ARRAY_LIMIT.true)

pub write_array-close_array-requires : goal.write_array-close_array-requires
write_array-close_array-requires t c =
    array_room c.args.endian c.args.phase c.alignment-alignment.result c.in_ok-mark.mark (each_as (type_of c.args.element.now) c.args.values.now) c.args.out.now.items c.open_array.new.out.items c.write_each.new.out.items
    c.in_ok-mark.ensures.opens c.in_ok-mark.ensures.mark c.in_ok-write_each.ensures.0

pub write_array-returns : goal.write_array-returns
write_array-returns t c =
    let vs = each_as (type_of c.args.element.now) c.args.values.now in
    writes_array {X = Unit {0}} (Ok tt) c.args.endian (type_of c.args.element.now) vs (behind c.args.phase (length c.args.out.now.items)) c.alignment-alignment.result c.args.out.now.items c.close_array.new.out.items c.alignment-alignment.ensures.value
    (array_done c.args.endian c.args.phase c.alignment-alignment.result c.in_ok-mark.mark vs c.args.out.now.items c.open_array.new.out.items c.write_each.new.out.items c.close_array.new.out.items _ _
    c.in_ok-mark.ensures.opens c.in_ok-mark.ensures.mark c.in_ok-write_each.ensures.0 c.in_ok-write_each.ensures.1 (c.len-start.ensures ∙ c.open_array.new.out.ok.0) (c.len.ensures ∙ c.write_each.new.out.ok.0)
    c.if-count-gt-ARRAY_LIMIT.false c.close_array.ensures)

pub write_each-loop-each-preserved : goal.write_each-loop-each-preserved
write_each-loop-each-preserved t c =
    next_step c.args.endian c.args.phase c.loop-each.out.items c.write_value.new.out.items _ _ _ _ _ (each_left (type_of c.args.known.now) c.args.values.now c.loop-each.each-index c.each-item.result c.loop-each-test.true c.each-item.is)
    c.in_ok-write_value.ensures.0 c.in_ok-write_value.ensures.1 c.loop-each.invariant

pub write_each-returns : goal.write_each-returns
write_each-returns t c =
    next_over c.args.endian c.args.phase c.loop-each.out.items _ _ _ (each_none (type_of c.args.known.now) c.args.values.now c.loop-each.each-index c.loop-each-test.false) c.loop-each.invariant

pub write_all-returns : goal.write_all-returns
write_all-returns t c =
    next_over c.args.endian c.args.phase c.loop-each.out.items _ _ _ (all_none (types_of c.loop-each.left.now) c.args.values.now c.loop-each.each-index c.loop-each-test.false) c.loop-each.invariant
