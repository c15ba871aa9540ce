use Rattle.dbus_auth.proofs.RunLemmas.{run-joined}
use Rattle.dbus_auth.proofs.handshake_laws.lines_one_by_one.Goals as goal

pub returns : goal.returns
returns c = run-joined
