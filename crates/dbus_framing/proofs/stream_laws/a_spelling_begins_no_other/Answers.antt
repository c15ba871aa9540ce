use Rattle.dbus_framing.proofs.Readings.{no_longer}
use Rattle.dbus_framing.proofs.stream_laws.a_spelling_begins_no_other.Goals as goal

pub returns : goal.returns
returns c = no_longer
