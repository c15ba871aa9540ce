-- What the readers return is the result of reading.
use Rattle.std.proofs.Common.{◌≡◌, List, Vec, Global, Ok, refl, sym, ap, ◌∙◌}
use Rattle.std.proofs.lemmas.Bool.{eqb-true, eqb-false}
use Rattle.std.proofs.lemmas.List.{nil_from_length}
use Rattle.std.proofs.lemmas.Result.{err_from_is_err_and}
use Rattle.dbus_types.specs.declared.complete_type.BasicType.{BasicType}
use Rattle.dbus_types.specs.declared.complete_type.CompleteType.{CompleteType, Basic}
use Rattle.dbus_types.specs.declared.endian.Endian.{Endian}
use Rattle.dbus_types.specs.declared.value.Value.{Value}
use Rattle.dbus_types.specs.declared.value.TypedArray.{TypedArray}
use Rattle.dbus_types.specs.declared.value.DictEntry.{DictEntry as KeyAndValue}
use Rattle.dbus_types.specs.Types.{Ty}
use Rattle.dbus_types.specs.Values.{Val}
use Rattle.dbus_types.specs.Views.{type_of, types_of}
use Rattle.dbus_types.specs.ValueViews.{value_of, values_of, core_as, value_as, each_as, fields_as, known_as}
use Rattle.dbus_marshal.specs.Cursors.{spot_of}
use Rattle.dbus_marshal.specs.declared.refused.ValueFault.{ValueFault}
use Rattle.dbus_marshal.specs.Unmarshal.{Spot, Reader, Refuses, padding_at, basic_at, entry_by, value_at, values_then}
use Rattle.dbus_types.proofs.Views.{struct_is}
use Rattle.dbus_marshal.proofs.ValueReading.{refuses_as, value_at-basic, value_at-variant, value_at-array, value_at-struct, value_at-entry, too_deep, each_as-push, fields_push, fields_left, none_left, inner_are, array_are, lone_read, entry_are, read_as, basic_reads, variant_reads, elements_none, elements_over, elements_next, elements_fault, bytes_are, struct_are, is_basic, fields_next, fields_fault, fields_end}
use Rattle.dbus_marshal.proofs.values.+readers.Goals as goal

pub read_each-returns-then-is_empty : goal.read_each-returns-then-is_empty
read_each-returns-then-is_empty t c = elements_none (value_at c.args.depth c.args.endian (type_of c.args.element.now)) _ _ _ _ _ (eqb-true _ _ (sym c.is_empty.ensures ∙ c.if-is_empty.true)) c.loop.invariant

pub read_each-returns-in_err-value : goal.read_each-returns-in_err-value
read_each-returns-in_err-value t c =
    let p = err_from_is_err_and c.from_residual.result c.from_residual.ensures.1 in rw (p.1, p.2)
    (elements_fault c.in_err-value.field-0.0 (value_at c.args.depth c.args.endian (type_of c.args.element.now)) _ _ _ (spot_of c.loop.rest) _ _ c.loop-test.true (eqb-false _ _ (sym c.is_empty.ensures ∙ c.if-is_empty.false)) c.in_err-value.ensures c.loop.invariant)

pub read_each-loop-preserved : goal.read_each-loop-preserved
read_each-loop-preserved t c =
    elements_next (value_at c.args.depth c.args.endian (type_of c.args.element.now)) (each_as (type_of c.args.element.now) c.loop.values.items) _ _ (spot_of c.loop.rest) _ (value_as (type_of c.args.element.now) c.in_ok-value.value) (spot_of c.in_ok-value.after) (each_as (type_of c.args.element.now) c.push.new.self.items) _
    c.loop-test.true (eqb-false _ _ (sym c.is_empty.ensures ∙ c.if-is_empty.false)) c.in_ok-value.ensures
    (λ ws. ap (λ (vs : List Value). values_then (each_as (type_of c.args.element.now) vs) ws) c.in_ok-push.ensures.items ∙ each_as-push (type_of c.args.element.now) c.loop.values.items c.in_ok-value.value ws) c.loop.invariant

pub read_each-returns-then-is_empty-2 : goal.read_each-returns-then-is_empty-2
read_each-returns-then-is_empty-2 t c = elements_none (value_at c.args.depth c.args.endian (type_of c.args.element.now)) _ _ _ _ _ (eqb-true _ _ (sym c.is_empty-2.ensures ∙ c.if-is_empty-2.true)) c.loop.invariant

pub read_each-returns : goal.read_each-returns
read_each-returns t c = elements_over (value_at c.args.depth c.args.endian (type_of c.args.element.now)) _ _ _ _ _ _ c.loop-test.false (eqb-false _ _ (sym c.is_empty-2.ensures ∙ c.if-is_empty-2.false)) c.loop.invariant

pub read_elements-returns-then-is_byte : goal.read_elements-returns-then-is_byte
read_elements-returns-then-is_byte t c =
    bytes_are c.args.is_inner (value_at c.args.depth c.args.endian (type_of c.args.element.now)) (type_of c.args.element.now) (spot_of c.args.cursor) c.in_ok-whole.whole (sym c.is_byte.ensures ∙ c.if-is_byte.true)
    (c.in_ok-whole.ensures.ok ∙ c.in_ok-bytes.ensures)

pub read_elements-returns-then-is_inner : goal.read_elements-returns-then-is_inner
read_elements-returns-then-is_inner t c =
    inner_are c.args.is_inner (value_at c.args.depth c.args.endian (type_of c.args.element.now)) (type_of c.args.element.now) (spot_of c.args.cursor) c.in_ok-inner.inner c.in_ok-values.values.items c.if-is_inner.true
    (sym c.is_byte.ensures ∙ c.if-is_byte.false) c.in_ok-values.ensures (ap (λ (vs : Vec Value Global). vs.items) c.in_ok-inner.ensures.ok ∙ c.shrink_to_fit.ensures.items)

pub read_elements-returns : goal.read_elements-returns
read_elements-returns t c =
    array_are c.args.is_inner (value_at c.args.depth c.args.endian (type_of c.args.element.now)) (type_of c.args.element.now) (spot_of c.args.cursor) c.in_ok-array.array c.in_ok-values.values.items c.if-is_inner.false
    (sym c.is_byte.ensures ∙ c.if-is_byte.false) c.in_ok-values.ensures
    (ap (λ (a : TypedArray). type_of a.element) c.in_ok-array.ensures.ok ∙ c.in_ok-element.ensures) (ap (λ (a : TypedArray). a.values.items) c.in_ok-array.ensures.ok ∙ c.shrink_to_fit.ensures.items)

pub read_fields-returns-in_err-value : goal.read_fields-returns-in_err-value
read_fields-returns-in_err-value t c =
    let p = err_from_is_err_and c.from_residual-in_err-value.result c.from_residual-in_err-value.ensures.1 in rw (p.1, p.2)
    (fields_fault c.in_err-value.field-0.0 (value_at c.args.depth c.args.endian) (fields_as c.args.is_inner (types_of c.args.types.now) c.loop-next.values.items) _ _ _ (spot_of c.loop-next.rest) _ (ap types_of c.in-Some.ensures.cases.0) c.in_err-value.ensures c.loop-next.invariant.0)

pub read_fields-loop-next-preserved : goal.read_fields-loop-next-preserved
read_fields-loop-next-preserved t c =
    let ts = types_of c.args.types.now in
    let next = type_of c.in-Some.next.now in
    let others = types_of c.in-Some.others.now in
    let left = types_of c.loop-next.left.now in
    let parts = ap types_of c.in-Some.ensures.cases.0 in (
      fields_next (value_at c.args.depth c.args.endian) (fields_as c.args.is_inner ts c.loop-next.values.items) next others left (spot_of c.loop-next.rest)
          (value_as (known_as c.args.is_inner next) c.in_ok-value.value) (spot_of c.in_ok-value.after) (fields_as c.args.is_inner ts c.push.new.self.items) _ parts c.in_ok-value.ensures
          (fields_push c.args.is_inner ts c.loop-next.values.items c.push.new.self.items next others left c.in_ok-value.value c.in_ok-push.ensures.items parts c.loop-next.invariant.1) c.loop-next.invariant.0,
      fields_left c.args.is_inner ts c.loop-next.values.items c.push.new.self.items next others left c.in_ok-value.value c.in_ok-push.ensures.items parts c.loop-next.invariant.1,
    )

pub read_fields-returns : goal.read_fields-returns
read_fields-returns t c = fields_end (value_at c.args.depth c.args.endian) _ _ (spot_of c.loop-next.rest) _ (ap types_of (nil_from_length _ c.in_default.ensures.cases)) c.loop-next.invariant.0

pub read_struct-returns : goal.read_struct-returns
read_struct-returns t c =
    struct_are c.args.is_inner (value_at c.args.depth c.args.endian) (types_of c.args.types.now) (spot_of c.args.cursor) (spot_of c.in_ok-start.start) (spot_of c.in_ok-fields.after) c.in_ok-value.value c.in_ok-fields.fields.items (sym c.in_default.ensures)
    c.in_ok-start.ensures c.in_ok-fields.ensures c.in_ok-value.ensures.1

pub read_struct-returns-in-Some : goal.read_struct-returns-in-Some
read_struct-returns-in-Some t c =
    lone_read c.args.is_inner (value_at c.args.depth c.args.endian) (types_of c.args.types.now) (type_of c.in-Some.only.now) (spot_of c.args.cursor) (spot_of c.in_ok-start.start) c.read_value.result (sym c.in-Some.ensures)
    c.in_ok-start.ensures c.read_value.ensures

-- the fault of an entry's key, and that of its value
key_faults : (e : ValueFault) (read : Ty → Reader Val) (endian : Endian) (key : BasicType) (t : Ty) (spot start : Spot) → padding_at 8 spot ≡ Ok start → Refuses e (basic_at endian key start) → Refuses e (entry_by read endian key t spot)
unfolding entry_by
key_faults e read endian key t spot start padded fault = refuses_as e (basic_at endian key start) (entry_by read endian key t spot) (λ f is. rw (padded, is) refl) fault

value_faults : (e : ValueFault) (read : Ty → Reader Val) (endian : Endian) (key : BasicType) (t : Ty) (spot start behind : Spot) (k : Val) → padding_at 8 spot ≡ Ok start → basic_at endian key start ≡ Ok (k, behind) → Refuses e (read t behind)
    → Refuses e (entry_by read endian key t spot)
unfolding entry_by
value_faults e read endian key t spot start behind k padded first fault = refuses_as e (read t behind) (entry_by read endian key t spot) (λ f is. rw (padded, first, is) refl) fault

pub read_entry-returns-in_err-key : goal.read_entry-returns-in_err-key
read_entry-returns-in_err-key t c =
    let p = err_from_is_err_and c.from_residual-in_err-key.result c.from_residual-in_err-key.ensures.1 in rw (p.1, p.2)
    (key_faults c.in_err-key.field-0.0 (value_at c.args.depth c.args.endian) c.args.endian c.args.key (type_of c.args.complete_type.now) (spot_of c.args.cursor) (spot_of c.in_ok-start.start) c.in_ok-start.ensures (c.in_err-key.ensures.any Ty.variant))

pub read_entry-returns-in_err-value : goal.read_entry-returns-in_err-value
read_entry-returns-in_err-value t c =
    let p = err_from_is_err_and c.from_residual-in_err-value.result c.from_residual-in_err-value.ensures.1 in rw (p.1, p.2)
    (value_faults c.in_err-value.field-0.0 (value_at c.args.depth c.args.endian) c.args.endian c.args.key (type_of c.args.complete_type.now) (spot_of c.args.cursor) (spot_of c.in_ok-start.start) (spot_of c.in_ok-key.behind) (core_as Ty.variant c.in_ok-key.key)
    c.in_ok-start.ensures (c.in_ok-key.ensures.any Ty.variant) c.in_err-value.ensures)

pub read_entry-returns : goal.read_entry-returns
read_entry-returns t c =
    entry_are c.args.is_inner (value_at c.args.depth c.args.endian) c.args.endian c.args.key (type_of c.args.complete_type.now) (spot_of c.args.cursor) (spot_of c.in_ok-start.start) (spot_of c.in_ok-key.behind) (spot_of c.in_ok-value.after)
    c.in_ok-entry.entry c.in_ok-key.key c.in_ok-value.value c.in_ok-start.ensures (c.in_ok-key.ensures.any (known_as c.args.is_inner (Ty.entry c.args.key (type_of c.args.complete_type.now)))) c.in_ok-value.ensures
    (ap (λ (e : KeyAndValue). e.key) c.in_ok-entry.ensures.ok) (ap (λ (e : KeyAndValue). e.value) c.in_ok-entry.ensures.ok)

pub read_value-returns-in-Basic : goal.read_value-returns-in-Basic
read_value-returns-in-Basic t c =
    read_as c.args.is_inner c.args.depth c.args.endian _ (Ty.basic c.in-Basic.basic) (spot_of c.args.cursor) c.read_basic.result _ (ap type_of c.in-Basic.is) (value_at-basic c.args.depth c.args.endian c.in-Basic.basic (spot_of c.args.cursor))
    (basic_reads c.args.is_inner c.in-Basic.basic c.read_basic.result _ c.read_basic.ensures.any)

pub read_value-returns-then-depth-eq0 : goal.read_value-returns-then-depth-eq0
read_value-returns-then-depth-eq0 t c = too_deep _ _ _ (spot_of c.args.cursor) c.if-depth-eq0.true (λ b e. c.in_default.not-Basic b (is_basic _ b e))

pub read_value-returns-in-Variant : goal.read_value-returns-in-Variant
read_value-returns-in-Variant t c =
    read_as c.args.is_inner c.args.depth c.args.endian _ Ty.variant (spot_of c.args.cursor) c.read_variant.result _ (ap type_of c.in-Variant.is) (value_at-variant c.args.depth c.args.endian (spot_of c.args.cursor) c.if-depth-eq0.false)
    (variant_reads c.args.is_inner c.read_variant.result _ c.read_variant.ensures)

pub read_value-returns-in-Array : goal.read_value-returns-in-Array
read_value-returns-in-Array t c =
    read_as c.args.is_inner c.args.depth c.args.endian _ (Ty.array (type_of c.deref.result.now)) (spot_of c.args.cursor) c.read_array.result _
    (ap type_of c.in-Array.is ∙ ap (λ (u : CompleteType). Ty.array (type_of u)) (sym c.deref.ensures)) (value_at-array c.args.depth c.args.endian _ (spot_of c.args.cursor) c.if-depth-eq0.false) c.read_array.ensures

pub read_value-returns-in-Struct : goal.read_value-returns-in-Struct
read_value-returns-in-Struct t c =
    read_as c.args.is_inner c.args.depth c.args.endian _ (Ty.struct (types_of c.as_slice.result.now)) (spot_of c.args.cursor) c.read_struct.result _
    (ap type_of c.in-Struct.is ∙ struct_is c.in-Struct.types ∙ ap (λ (ts : List CompleteType). Ty.struct (types_of ts)) (sym c.as_slice.ensures.value))
    (value_at-struct c.args.depth c.args.endian _ (spot_of c.args.cursor) c.if-depth-eq0.false) c.read_struct.ensures

pub read_value-returns-in-DictEntry : goal.read_value-returns-in-DictEntry
read_value-returns-in-DictEntry t c =
    read_as c.args.is_inner c.args.depth c.args.endian _ (Ty.entry c.in-DictEntry.key (type_of c.deref-in-DictEntry.result.now)) (spot_of c.args.cursor) c.read_entry.result _
    (ap type_of c.in-DictEntry.is ∙ ap (λ (u : CompleteType). Ty.entry c.in-DictEntry.key (type_of u)) (sym c.deref-in-DictEntry.ensures))
    (value_at-entry c.args.depth c.args.endian _ _ (spot_of c.args.cursor) c.if-depth-eq0.false) c.read_entry.ensures
