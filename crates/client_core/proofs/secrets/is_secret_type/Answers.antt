-- The types of a struct's fields are those in its vector.
use Rattle.std.proofs.Common.{sym, ap, ◌∙◌}
use Rattle.dbus_types.specs.Views.{type_of, types_of}
use Rattle.dbus_types.proofs.Views.{struct_is}
use Rattle.client_core.specs.Replies.{are_secret_types, is_secret_type}
use Rattle.client_core.proofs.secrets.is_secret_type.Goals as goal

pub returns-in-Struct : goal.returns-in-Struct
returns-in-Struct c =
    c.are_secret_types.ensures ∙ ap (λ ts. are_secret_types (types_of ts)) c.as_slice.ensures.value
    ∙ sym (ap is_secret_type (ap type_of c.in-Struct.is ∙ struct_is c.in-Struct.fields))
