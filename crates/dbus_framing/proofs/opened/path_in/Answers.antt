use Rattle.dbus_framing.proofs.HeaderLemmas.{no_path}
use Rattle.dbus_framing.proofs.opened.path_in.Goals as goal

pub returns : goal.returns
returns c = no_path c.args.value c.in_default.not-ObjectPath
