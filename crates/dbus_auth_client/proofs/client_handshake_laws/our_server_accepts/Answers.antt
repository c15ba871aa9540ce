use Rattle.std.proofs.Common.{refl}
use Rattle.dbus_auth_client.proofs.ServerLemmas.{offered, accepted, begun}
use Rattle.dbus_auth_client.proofs.client_handshake_laws.our_server_accepts.Goals as goal

pub returns : goal.returns
returns c = record { offered = offered; accepted = accepted; begun = begun; sent = λ uid. refl }
