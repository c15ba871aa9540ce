-- The start, the array of fields, the padding and the body are the message.
use Rattle.std.proofs.Common.{[], refl}
use Rattle.dbus_framing.specs.Headers.{field_type}
use Rattle.dbus_sending.specs.Sent.{Sent}
use Rattle.dbus_sending.specs.HeaderViews.{seen}
use Rattle.dbus_sending.proofs.RowLemmas.{message_put}
use Rattle.dbus_sending.proofs.message.put_message.Goals as goal

pub returns : goal.returns
returns g c = λ at.
    let sent : Sent = record { header = seen c.args.header.now; body = g.B.PutValues.values c.args.body.now } in
    rw (← message_put sent c.args.signature.now c.count_from-count.result c.requires (c.count_from-count.ensures 0 refl))
    (c.put_to.ensures _ (c.in_ok-pad_to.ensures _ (c.in_ok-put_array.ensures _ field_type refl (c.in_ok-put_start.ensures [] at))))
