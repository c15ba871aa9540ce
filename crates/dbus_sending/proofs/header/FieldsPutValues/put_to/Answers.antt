-- The fields are put one after the other.
use Rattle.dbus_sending.specs.HeaderViews.{seen}
use Rattle.dbus_sending.proofs.RowLemmas.{rows_put}
use Rattle.dbus_sending.proofs.header.FieldsPutValues.put_to.Goals as goal

pub returns : goal.returns
returns g c = λ before at.
    rw (← rows_put before (seen c.args.self.now.header) c.args.self.now.signature.now)
    (c.put_signature_field.ensures _ (c.in_ok-put_text_field-5.ensures _ (c.in_ok-put_text_field-4.ensures _ (c.in_ok-put_number_field.ensures _
    (c.in_ok-put_text_field-3.ensures _ (c.in_ok-put_text_field-2.ensures _ (c.in_ok-put_text_field.ensures _ (c.in_ok-put_path_field.ensures before at))))))))
