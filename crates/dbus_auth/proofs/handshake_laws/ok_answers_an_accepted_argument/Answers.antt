use Rattle.dbus_auth.proofs.HandshakeLemmas.{ok-gives, gives-ok, ok_earned}
use Rattle.dbus_auth.proofs.handshake_laws.ok_answers_an_accepted_argument.Goals as goal

pub returns : goal.returns
returns c = record { row = λ at line. (ok-gives at line, gives-ok at line); run = ok_earned }
