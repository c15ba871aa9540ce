use Rattle.dbus_framing.proofs.HeaderLemmas.{no_path}
use Rattle.call_arguments.proofs.ValueLemmas.{no_path_there}
use Rattle.call_arguments.proofs.values.path_in.Goals as goal

pub returns-in_default-clause-plain : goal.returns-in_default-clause-plain
returns-in_default-clause-plain c = no_path c.args.value.now c.in_default.not-ObjectPath

pub returns-in_default-clause-element : goal.returns-in_default-clause-element
returns-in_default-clause-element c = no_path_there c.args.value.now c.in_default.not-ObjectPath
