use Rattle.dbus_marshal.proofs.Texts.{utf8_yes, utf8_no}
use Rattle.dbus_marshal.proofs.reading.utf8_of.Goals as goal

pub returns-in-Ok : goal.returns-in-Ok
returns-in-Ok c = utf8_yes _ _ c.in-Ok.ensures.cases.0 c.in-Ok.ensures.cases.1

pub returns-in-Err : goal.returns-in-Err
returns-in-Err c = utf8_no _ c.in-Err.ensures.cases.0
