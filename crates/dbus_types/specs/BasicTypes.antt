-- The basic type of a value, if it has one.
use Rattle.std.specs.Prelude.{◌≡◌, Option, Some, None}
use Rattle.dbus_types.specs.declared.complete_type.BasicType.{BasicType}
use Rattle.dbus_types.specs.Types.{Ty}

-- the type is this basic one, or none of them
abbrev pub BasicIs : Option BasicType → Ty → Type 0
BasicIs (Some b) t = t ≡ Ty.basic b
BasicIs None t = (b : BasicType) → t ≡ Ty.basic b → ⊥
