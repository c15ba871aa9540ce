-- What is known of the type of a value from where it is.
use Rattle.std.specs.Prelude.{ℕ, Bool, true, false, Option, Some, None}
use Rattle.dbus_types.specs.Types.{Ty, Tys}
use Rattle.dbus_types.specs.ValueViews.{lone_in}

-- the type of the one field of a struct
abbrev pub lone_field : Ty → Option Ty
lone_field (Ty.struct ts) = lone_in true ts
lone_field (Ty.basic b) = None
lone_field Ty.variant = None
lone_field (Ty.array t) = None
lone_field (Ty.entry key t) = None

-- the alignment of the structs of one field around a type, or 1 if there are none
abbrev pub wrapping : Ty → ℕ
wrapping (Ty.struct (Tys.more t Tys.end)) = 8
wrapping (Ty.struct (Tys.more t (Tys.more u ts))) = 1
wrapping (Ty.struct Tys.end) = 1
wrapping (Ty.basic b) = 1
wrapping Ty.variant = 1
wrapping (Ty.array t) = 1
wrapping (Ty.entry key t) = 1

-- the type is an array's
abbrev pub is_array : Ty → Bool
is_array (Ty.array t) = true
is_array (Ty.basic b) = false
is_array Ty.variant = false
is_array (Ty.struct ts) = false
is_array (Ty.entry key t) = false

-- the type is a variant's
abbrev pub is_variant : Ty → Bool
is_variant Ty.variant = true
is_variant (Ty.basic b) = false
is_variant (Ty.array t) = false
is_variant (Ty.struct ts) = false
is_variant (Ty.entry key t) = false

-- the types of the fields of a struct
abbrev pub fields_in : Ty → Option Tys
fields_in (Ty.struct ts) = Some ts
fields_in (Ty.basic b) = None
fields_in Ty.variant = None
fields_in (Ty.array t) = None
fields_in (Ty.entry key t) = None
