use Rattle.dbus_auth.proofs.CutLemmas.{first_cut-at, first_cut-nowhere}
use Rattle.dbus_auth.proofs.handshake_laws.cut_at_the_first_line_end.Goals as goal

pub returns : goal.returns
returns c = record { first = first_cut-at; nowhere = first_cut-nowhere }
