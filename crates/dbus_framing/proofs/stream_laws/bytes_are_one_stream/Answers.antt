use Rattle.dbus_framing.proofs.Cuts.{one_stream}
use Rattle.dbus_framing.proofs.stream_laws.bytes_are_one_stream.Goals as goal

pub returns : goal.returns
returns c = one_stream
