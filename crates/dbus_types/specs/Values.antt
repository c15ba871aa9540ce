-- D-Bus Specification, "Type System": values as plain trees.
use Rattle.std.specs.Prelude.{ℕ, List}
use Rattle.dbus_types.specs.declared.complete_type.BasicType.{BasicType}
use Rattle.dbus_types.specs.declared.complete_type.BasicType.TheVariants as basics
use Rattle.dbus_types.specs.Types.{Ty, Tys}

mutual
  -- A value. A number of a basic type is given by its bits, a text by its bytes; an array has the type of its elements,
  -- and an array of bytes is the bytes.
  pub data Val : Type 0 where
    number : BasicType → ℕ → Val
    text : BasicType → List ℕ → Val
    variant : Val → Val
    array : Ty → Vals → Val
    bytes : List ℕ → Val
    struct : Vals → Val
    entry : Val → Val → Val

  -- values, one after the other
  pub data Vals : Type 0 where
    end : Vals
    more : Val → Vals → Vals

-- the type of an entry with a key of this type, which is basic
abbrev pub entry_of : Ty → Ty → Ty
entry_of (Ty.basic b) t = Ty.entry b t
entry_of Ty.variant t = Ty.variant
entry_of (Ty.array u) t = Ty.variant
entry_of (Ty.struct us) t = Ty.variant
entry_of (Ty.entry key u) t = Ty.variant

abbrev mutual
  -- the type of a value
  pub ty_of : Val → Ty
  ty_of (Val.number b n) = Ty.basic b
  ty_of (Val.text b them) = Ty.basic b
  ty_of (Val.variant v) = Ty.variant
  ty_of (Val.array t vs) = Ty.array t
  ty_of (Val.bytes them) = Ty.array (Ty.basic basics.Byte)
  ty_of (Val.struct vs) = Ty.struct (tys_of vs)
  ty_of (Val.entry key v) = entry_of (ty_of key) (ty_of v)

  -- the types of values, one after the other
  pub tys_of : Vals → Tys
  tys_of Vals.end = Tys.end
  tys_of (Vals.more v vs) = Tys.more (ty_of v) (tys_of vs)
