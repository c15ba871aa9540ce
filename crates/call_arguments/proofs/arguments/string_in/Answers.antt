use Rattle.dbus_framing.proofs.HeaderLemmas.{no_string}
use Rattle.call_arguments.proofs.ValueLemmas.{no_string_there, no_string_key}
use Rattle.call_arguments.proofs.arguments.string_in.Goals as goal

pub returns-in_default-clause-plain : goal.returns-in_default-clause-plain
returns-in_default-clause-plain c = no_string c.args.value.now c.in_default.not-String

pub returns-in_default-clause-held : goal.returns-in_default-clause-held
returns-in_default-clause-held c = no_string_there c.args.value.now c.in_default.not-String

pub returns-in_default-clause-key : goal.returns-in_default-clause-key
returns-in_default-clause-key c = λ t. no_string_key t c.args.value.now c.in_default.not-String
