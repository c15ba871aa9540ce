use Rattle.dbus_auth.proofs.HandshakeLemmas.{run-answer}
use Rattle.dbus_auth.proofs.handshake_laws.each_answer_has_its_line.Goals as goal

pub returns : goal.returns
returns c = run-answer
