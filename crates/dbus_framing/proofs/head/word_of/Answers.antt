-- The four bytes, in one order or the other.
use Rattle.std.proofs.Common.{rules}
use Rattle.dbus_marshal.specs.Wire.{number_from}
use Rattle.dbus_framing.proofs.head.word_of.Goals as goal

pub returns-in-Little : goal.returns-in-Little
unfolding number_from
returns-in-Little c = rw c.in-Little.is (search rules)

pub returns-in-Big : goal.returns-in-Big
unfolding number_from
returns-in-Big c = rw c.in-Big.is (search rules)
