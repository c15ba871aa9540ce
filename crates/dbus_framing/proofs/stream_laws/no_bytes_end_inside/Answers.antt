use Rattle.dbus_framing.proofs.Ends.{never_ends}
use Rattle.dbus_framing.proofs.stream_laws.no_bytes_end_inside.Goals as goal

pub returns : goal.returns
returns c = never_ends
