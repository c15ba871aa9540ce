-- What the readers return is the result of reading.
use Rattle.std.proofs.Common.{List, [], ◌∷◌, ◌++◌, sym, ap, ◌∙◌, arith}
use Rattle.std.proofs.lemmas.Result.{err_from_is_err_and}
use Rattle.dbus_types.specs.declared.complete_type.CompleteType.{CompleteType}
use Rattle.dbus_types.specs.Views.{type_of, types_of}
use Rattle.dbus_types.specs.Signatures.{type_at, types_then}
use Rattle.dbus_types.proofs.Views.{types_of-push}
use Rattle.dbus_types.proofs.SignatureReading.{type_at-none, type_at-led, array_in-is, struct_in-is, fields_none, fields_over, fields_closed, fields_next, fields_fault, is_other, struct_read}
use Rattle.dbus_types.proofs.signature_reading.+parser.Goals as goal

pub read_fields-returns-in_default-clause-reads : goal.read_fields-returns-in_default-clause-reads
read_fields-returns-in_default-clause-reads t c =
    fields_none (type_at c.args.arrays c.args.structs) _ _ _ _ _ c.loop-test.true c.in_default.ensures.cases c.loop.invariant.0

pub read_fields-returns-then-code-eq41-clause-reads : goal.read_fields-returns-then-code-eq41-clause-reads
read_fields-returns-then-code-eq41-clause-reads t c =
    rw c.shrink_to_fit.ensures.items
    (fields_closed (type_at c.args.arrays c.args.structs) (types_of c.loop.fields.items) _ _ _ _ _ _ c.loop-test.true c.in-Some.ensures.cases.0 c.if-code-eq41.true c.loop.invariant.0)

pub read_fields-returns-in_err-field-clause-reads : goal.read_fields-returns-in_err-field-clause-reads
read_fields-returns-in_err-field-clause-reads t c =
    let p = err_from_is_err_and c.from_residual.result c.from_residual.ensures.1 in rw (p.1, p.2)
    (fields_fault c.in_err-field.field-0.0 (type_at c.args.arrays c.args.structs) _ _ _ _ _ _ _ c.loop-test.true c.in-Some.ensures.cases.0 (is_other c.if-code-eq41.false) c.in_err-field.ensures.reads c.loop.invariant.0)

pub read_fields-loop-preserved : goal.read_fields-loop-preserved
read_fields-loop-preserved t c = (
  fields_next (type_at c.args.arrays c.args.structs) (types_of c.loop.fields.items) _ _ c.loop.left.now _ _ (type_of c.in_ok-field.field) c.in_ok-field.rest.now (types_of c.push.new.self.items) _
      c.loop-test.true c.in-Some.ensures.cases.0 (is_other c.if-code-eq41.false) c.in_ok-field.ensures.reads
      (λ us. ap (λ (ts : List CompleteType). types_then (types_of ts) us) c.in_ok-push.ensures.items ∙ types_of-push c.loop.fields.items c.in_ok-field.field us) c.loop.invariant.0,
  omega (arith, c.in_ok-field.ensures.shorter, c.loop.invariant.1),
)

pub read_fields-returns-clause-reads : goal.read_fields-returns-clause-reads
read_fields-returns-clause-reads t c =
    fields_over (type_at c.args.arrays c.args.structs) _ _ _ _ _ c.loop-test.false c.loop.invariant.0

pub read_struct-returns-clause-reads : goal.read_struct-returns-clause-reads
read_struct-returns-clause-reads t c = struct_read (type_at c.args.arrays c.args.structs) _ _ _ _ _ _ c.in_ok-first.ensures.reads c.in_ok-fields.ensures.reads (ap types_of c.in_ok-push.ensures.items ∙ ap (λ (ts : List CompleteType). types_of (ts ++ c.in_ok-first.first ∷ [])) c.in_ok-front.ensures.items)

pub read_type-returns-in_default-clause-reads : goal.read_type-returns-in_default-clause-reads
read_type-returns-in_default-clause-reads t c = type_at-none _ _ _ c.in_default.ensures.cases

pub read_type-returns-in-Basic-clause-reads : goal.read_type-returns-in-Basic-clause-reads
read_type-returns-in-Basic-clause-reads t c = type_at-led _ _ _ _ _ _ c.in-Some.ensures.cases.0 (sym c.in-Basic.is ∙ c.read_lead.ensures)

pub read_type-returns-in-Variant-clause-reads : goal.read_type-returns-in-Variant-clause-reads
read_type-returns-in-Variant-clause-reads t c = type_at-led _ _ _ _ _ _ c.in-Some.ensures.cases.0 (sym c.in-Variant.is ∙ c.read_lead.ensures)

pub read_type-returns-else-arrays-eq0-clause-reads : goal.read_type-returns-else-arrays-eq0-clause-reads
read_type-returns-else-arrays-eq0-clause-reads t c =
    let led = type_at-led c.args.arrays c.args.structs _ _ _ _ c.in-Some.ensures.cases.0 (sym c.in-Array.is ∙ c.read_lead.ensures) in
    rw (led ∙ array_in-is _ _ _ c.if-arrays-eq0.false) c.read_array.ensures.reads

pub read_type-returns-else-structs-eq0-clause-reads : goal.read_type-returns-else-structs-eq0-clause-reads
read_type-returns-else-structs-eq0-clause-reads t c =
    let led = type_at-led c.args.arrays c.args.structs _ _ _ _ c.in-Some.ensures.cases.0 (sym c.in-Struct.is ∙ c.read_lead.ensures) in
    rw (led ∙ struct_in-is _ _ _ c.if-structs-eq0.false) c.read_struct.ensures.reads

pub read_type-returns-in-Other-clause-reads : goal.read_type-returns-in-Other-clause-reads
read_type-returns-in-Other-clause-reads t c = type_at-led _ _ _ _ _ _ c.in-Some.ensures.cases.0 (sym c.in-Other.is ∙ c.read_lead.ensures)
