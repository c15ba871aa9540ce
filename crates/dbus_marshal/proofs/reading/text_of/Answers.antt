use Rattle.dbus_marshal.proofs.Texts.{text_when}
use Rattle.dbus_marshal.proofs.reading.text_of.Goals as goal

pub returns-in-Some : goal.returns-in-Some
returns-in-Some c = text_when _ _ c.from_str.result c.in-Some.ensures c.from_str.ensures.made c.from_str.ensures.zero
