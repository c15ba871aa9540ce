use Rattle.dbus_framing.proofs.Readings.{one_meaning}
use Rattle.dbus_framing.proofs.stream_laws.a_message_has_one_meaning.Goals as goal

pub returns : goal.returns
returns c = one_meaning
