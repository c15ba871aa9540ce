use Rattle.std.proofs.Common.{[], sym}
use Rattle.dbus_auth_client.proofs.HearingLemmas.{talk-append, in_pieces-talk}
use Rattle.dbus_auth_client.proofs.client_handshake_laws.client_cut_anywhere.Goals as goal

pub returns : goal.returns
returns c = record { more = talk-append; pieces = λ asked pieces. sym (in_pieces-talk asked [] pieces) }
