-- A signature that isn't empty is a field.
use Rattle.std.proofs.Common.{ℕ, List, [], ◌∷◌, OnOk, ap, subst, ◌∙◌}
use Rattle.dbus_types.specs.declared.complete_type.BasicType.TheVariants as basics
use Rattle.dbus_types.specs.Values.{Val}
use Rattle.dbus_marshal.specs.Putting.{padded, put, signed}
use Rattle.dbus_sending.proofs.RowLemmas.{some_text, signature_row}
use Rattle.dbus_sending.proofs.header.put_signature_field.Goals as goal

pub returns : goal.returns
returns g c = λ before at.
    let text = c.args.signature.now in
    let coded = put (padded 8 before) (Val.number basics.Byte 8) in
    subst (λ (bytes : List ℕ). OnOk c.put_signature-2.result (g.P.Put.stands c.put_signature-2.new.out bytes))
    (ap (λ (t : List ℕ). signed t (signed (103 ∷ []) coded)) c.as_bytes.ensures.value ∙ signature_row before text (some_text text c.is_empty.result c.is_empty.ensures c.if-is_empty.false))
    (c.put_signature-2.ensures _ (c.in_ok-put_signature.ensures _ (c.in_ok-put_code.ensures before at)))
