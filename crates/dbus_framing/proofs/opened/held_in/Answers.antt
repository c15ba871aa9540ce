use Rattle.dbus_framing.proofs.HeaderLemmas.{no_held}
use Rattle.dbus_framing.proofs.opened.held_in.Goals as goal

pub returns : goal.returns
returns c = no_held c.args.value c.in_default.not-Variant
