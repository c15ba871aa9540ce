use Rattle.dbus_auth.proofs.CommandLemmas.{is_accepted-iff, is_accepted-lower, is_accepted-upper}
use Rattle.dbus_auth.proofs.handshake_laws.accepted_arguments.Goals as goal

pub returns : goal.returns
returns c = record { fact = is_accepted-iff; lower = is_accepted-lower; upper = is_accepted-upper }
