use Rattle.std.proofs.Common.{List, true, sym, ap, ◌∙◌}
use Rattle.dbus_types.specs.declared.complete_type.CompleteType.{CompleteType}
use Rattle.dbus_types.specs.Views.{type_of, types_of}
use Rattle.dbus_types.specs.ValueViews.{lone_in}
use Rattle.dbus_types.proofs.Views.{struct_is}
use Rattle.dbus_types.specs.Known.{lone_field}
use Rattle.dbus_types.proofs.known.lone_field.Goals as goal

pub returns-in-Struct : goal.returns-in-Struct
returns-in-Struct c = c.lone_in.ensures ∙ ap (λ (ts : List CompleteType). lone_in true (types_of ts)) c.as_slice.ensures.value ∙ ap lone_field (sym (ap type_of c.in-Struct.is ∙ struct_is c.in-Struct.types))
