use Rattle.dbus_auth.proofs.RunLemmas.{run-iff}
use Rattle.dbus_auth.proofs.handshake_laws.runs_line_by_line.Goals as goal

pub returns : goal.returns
returns c = run-iff
