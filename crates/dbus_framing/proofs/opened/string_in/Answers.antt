use Rattle.dbus_framing.proofs.HeaderLemmas.{no_string}
use Rattle.dbus_framing.proofs.opened.string_in.Goals as goal

pub returns : goal.returns
returns c = no_string c.args.value c.in_default.not-String
