use Rattle.std.proofs.Common.{◌∙◌}
use Rattle.dbus_types.specs.Views.{type_of, types_of}
use Rattle.dbus_framing.proofs.HeaderLemmas.{struct_test, no_struct}
use Rattle.dbus_framing.proofs.opened.is_field_type.Goals as goal

pub returns-in-Some : goal.returns-in-Some
returns-in-Some c = c.are_field_parts.ensures ∙ struct_test (type_of c.args.complete_type.now) _ c.in-Some.ensures

pub returns-in-None : goal.returns-in-None
returns-in-None c = no_struct (type_of c.args.complete_type.now) c.in-None.ensures
