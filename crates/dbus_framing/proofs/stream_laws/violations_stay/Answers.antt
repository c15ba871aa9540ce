use Rattle.dbus_framing.proofs.Cuts.{breaks_stay, breaks_one, breaks_none}
use Rattle.dbus_framing.proofs.stream_laws.violations_stay.Goals as goal

pub returns : goal.returns
returns c = record { stays = breaks_stay; one = breaks_one; no_message = breaks_none }
