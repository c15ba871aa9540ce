-- The text spells the types of the field array, so it is read as these.
use Rattle.std.proofs.Common.{◌≡◌, refl, sym, Ok, Result}
use Rattle.dbus_types.specs.declared.signature.SignatureFault.{SignatureFault}
use Rattle.dbus_types.specs.Types.{Tys}
use Rattle.dbus_types.specs.SignatureViews.{types_in}
use Rattle.dbus_framing.specs.Messages.{field_types}
use Rattle.dbus_framing.proofs.reading.field_signature.Goals as goal

abbrev listed : Tys → Result Tys SignatureFault
listed types = Ok types

-- the fields of the same Ok are the same
same : (one other : Tys) → listed one ≡ listed other → one ≡ other
same one other e = cc

pub returns-in-Ok : goal.returns-in-Ok
returns-in-Ok c = let e = c.in-Ok.ensures.only field_types refl refl in same (types_in c.in-Ok.signature) field_types (sym e)
