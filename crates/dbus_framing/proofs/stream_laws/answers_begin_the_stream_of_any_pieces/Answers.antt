use Rattle.dbus_framing.proofs.Cuts.{went_begins}
use Rattle.dbus_framing.proofs.stream_laws.answers_begin_the_stream_of_any_pieces.Goals as goal

pub returns : goal.returns
returns c = went_begins
