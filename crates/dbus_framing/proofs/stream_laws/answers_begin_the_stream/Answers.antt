use Rattle.dbus_framing.proofs.Cuts.{answers_begin}
use Rattle.dbus_framing.proofs.stream_laws.answers_begin_the_stream.Goals as goal

pub returns : goal.returns
returns c = answers_begin
