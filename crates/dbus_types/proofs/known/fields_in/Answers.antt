use Rattle.std.proofs.Common.{List, Some, sym, ap, ◌∙◌}
use Rattle.dbus_types.specs.declared.complete_type.CompleteType.{CompleteType}
use Rattle.dbus_types.specs.Views.{type_of, types_of}
use Rattle.dbus_types.proofs.Views.{struct_is}
use Rattle.dbus_types.specs.Known.{fields_in}
use Rattle.dbus_types.proofs.known.fields_in.Goals as goal

pub returns-in-Struct : goal.returns-in-Struct
returns-in-Struct c = ap (λ (ts : List CompleteType). Some (types_of ts)) c.as_slice.ensures.value ∙ ap fields_in (sym (ap type_of c.in-Struct.is ∙ struct_is c.in-Struct.types))
