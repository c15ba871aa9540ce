-- The types that a signature of the program lists.
use Rattle.dbus_types.specs.Types.{Tys}
use Rattle.dbus_types.specs.Views.{types_of}
use Rattle.dbus_types.specs.declared.signature.Signature.{Signature}

-- the types that a signature lists
abbrev pub types_in : Signature → Tys
types_in signature = types_of signature.types.items
