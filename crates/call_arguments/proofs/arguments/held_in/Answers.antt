use Rattle.dbus_framing.proofs.HeaderLemmas.{no_held}
use Rattle.call_arguments.proofs.arguments.held_in.Goals as goal

pub returns-in_default : goal.returns-in_default
returns-in_default c = no_held c.args.value.now c.in_default.not-Variant
