use Rattle.dbus_auth.proofs.RunLemmas.{run-append}
use Rattle.dbus_auth.proofs.HandshakeLemmas.{in_pieces-run, in_pieces-handshake}
use Rattle.std.proofs.Common.{[], sym}
use Rattle.dbus_auth.proofs.handshake_laws.cut_anywhere.Goals as goal

pub returns : goal.returns
returns c = record {
  more = run-append;
  run = λ at pieces. sym (in_pieces-run at [] pieces);
  handshake = λ uid guid first pieces. sym (in_pieces-handshake uid guid first [] pieces);
}
