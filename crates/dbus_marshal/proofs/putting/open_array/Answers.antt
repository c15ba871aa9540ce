-- The lower bits of the length are those of the number.
use Rattle.dbus_marshal.proofs.PutLemmas.{opened_put}
use Rattle.dbus_marshal.proofs.putting.open_array.Goals as goal

pub returns : goal.returns
returns g c = λ before long is at. rw (← opened_put c.args.alignment c.args.count long before is) (c.pad_to.ensures _ (c.in_ok-put_u32.ensures before at))
