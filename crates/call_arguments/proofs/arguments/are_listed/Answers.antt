-- The text is that of the types if nothing comes after them.
use Rattle.std.proofs.Common.{◌∙◌, ap}
use Rattle.dbus_types.specs.Types.{texts_of}
use Rattle.dbus_types.specs.Views.{types_of}
use Rattle.call_arguments.specs.Fronts.{behind}
use Rattle.call_arguments.proofs.FrontLemmas.{whole, none}
use Rattle.call_arguments.proofs.arguments.are_listed.Goals as goal

pub returns-in-Some : goal.returns-in-Some
returns-in-Some c = whole (texts_of (types_of c.args.types.now)) c.args.text.now c.in-Some.rest.now c.is_empty.result c.is_empty.ensures (c.in-Some.ensures ∙ ap (behind (texts_of (types_of c.args.types.now))) c.as_bytes.ensures.value)

pub returns-in-None : goal.returns-in-None
returns-in-None c = none (texts_of (types_of c.args.types.now)) c.args.text.now (c.in-None.ensures ∙ ap (behind (texts_of (types_of c.args.types.now))) c.as_bytes.ensures.value)
