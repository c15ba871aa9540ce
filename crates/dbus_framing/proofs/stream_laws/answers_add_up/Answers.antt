use Rattle.dbus_framing.proofs.Cuts.{cut_more, cut_then, stream_then}
use Rattle.dbus_framing.proofs.stream_laws.answers_add_up.Goals as goal

pub returns : goal.returns
returns c = record { fed = cut_more; answered = cut_then; ended = stream_then }
