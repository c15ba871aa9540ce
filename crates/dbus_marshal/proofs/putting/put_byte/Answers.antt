use Rattle.std.proofs.Common.{arith}
use Rattle.dbus_marshal.proofs.PutLemmas.{byte_put}
use Rattle.dbus_marshal.proofs.putting.put_byte.Goals as goal

pub returns : goal.returns
returns g c = λ before at. rw (← byte_put before c.args.number (omega (arith, c.ranges.number.fits))) (c.put.ensures before at)
