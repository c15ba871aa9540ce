-- What a value of the program stands for, apart from where it is in memory.
use Rattle.std.specs.Prelude.{ℕ, Bool, true, false, List, [], ◌∷◌, Option, Some, None, ◌≡◌}
use Rattle.std.specs.Int.{w16, w32, w64, cast_unsigned}
use Rattle.dbus_types.specs.declared.complete_type.BasicType.TheVariants as basics
use Rattle.dbus_types.specs.declared.value.Value.{Value, Byte, Boolean, Int16, Uint16, Int32, Uint32, Int64, Uint64, Double, UnixFd, String, ObjectPath, Signature, Variant', Array', InnerArray', Bytes, Struct', Pair', DictEntry', Row_of-Value, end_of-Value, more_of-Value}
use Rattle.dbus_types.specs.Types.{Ty, Tys, texts_of}
use Rattle.dbus_types.specs.Views.{type_of}
use Rattle.dbus_types.specs.SignatureViews.{types_in}
use Rattle.dbus_types.specs.Values.{Val, Vals}

-- true is 1, false is 0
abbrev pub bit_of : Bool → ℕ
bit_of true = 1
bit_of false = 0

-- In an array a struct of one field is just its field: so the type of what is kept there is that of the field.
abbrev pub core_of : Ty → Ty
core_of (Ty.struct (Tys.more t Tys.end)) = core_of t
core_of (Ty.struct (Tys.more t (Tys.more u ts))) = Ty.struct (Tys.more t (Tys.more u ts))
core_of (Ty.struct Tys.end) = Ty.struct Tys.end
core_of (Ty.basic b) = Ty.basic b
core_of Ty.variant = Ty.variant
core_of (Ty.array t) = Ty.array t
core_of (Ty.entry key t) = Ty.entry key t

-- the structs of one field around it
abbrev pub wrapped : Ty → Val → Val
wrapped (Ty.struct (Tys.more t Tys.end)) v = Val.struct (Vals.more (wrapped t v) Vals.end)
wrapped (Ty.struct (Tys.more t (Tys.more u ts))) v = v
wrapped (Ty.struct Tys.end) v = v
wrapped (Ty.basic b) v = v
wrapped Ty.variant v = v
wrapped (Ty.array t) v = v
wrapped (Ty.entry key t) v = v

-- the type of the one field of a struct of these fields, if the struct is in an array and has one field
abbrev pub lone_in : Bool → Tys → Option Ty
lone_in true (Tys.more t Tys.end) = Some t
lone_in true (Tys.more t (Tys.more u ts)) = None
lone_in true Tys.end = None
lone_in false ts = None

-- Not a value of any type. It takes the place of a value that doesn't have the form required there.
abbrev pub nothing : Val
nothing = Val.struct Vals.end

-- the type of the elements, if an array's type is known
abbrev pub element_of : Ty → Ty
element_of (Ty.array t) = t
element_of (Ty.basic b) = Ty.basic b
element_of Ty.variant = Ty.variant
element_of (Ty.struct ts) = Ty.struct ts
element_of (Ty.entry key t) = Ty.entry key t

-- the types of the fields, if a struct's type is known
abbrev pub fields_of : Ty → Tys
fields_of (Ty.struct ts) = ts
fields_of (Ty.basic b) = Tys.end
fields_of Ty.variant = Tys.end
fields_of (Ty.array t) = Tys.end
fields_of (Ty.entry key t) = Tys.end

-- the type of the value after the key, if an entry's type is known
abbrev pub held_of : Ty → Ty
held_of (Ty.entry key t) = t
held_of (Ty.basic b) = Ty.basic b
held_of Ty.variant = Ty.variant
held_of (Ty.array t) = Ty.array t
held_of (Ty.struct ts) = Ty.struct ts

-- a variant, which may be only where one is known or nothing is known
abbrev pub in_variant : Ty → Val → Val
in_variant Ty.variant v = Val.variant v
in_variant (Ty.basic b) v = nothing
in_variant (Ty.array t) v = nothing
in_variant (Ty.struct ts) v = nothing
in_variant (Ty.entry key t) v = nothing

-- an array with a type of its own, which may be only where no type is known
abbrev pub typed_array : Ty → Ty → Vals → Val
typed_array (Ty.array t) u vs = nothing
typed_array (Ty.basic b) u vs = Val.array u vs
typed_array Ty.variant u vs = Val.array u vs
typed_array (Ty.struct ts) u vs = Val.array u vs
typed_array (Ty.entry key t) u vs = Val.array u vs

-- the fields of a struct: by their types, if these are known, otherwise all alike
abbrev pub struct_fields : Ty → Vals → Vals → Vals
struct_fields (Ty.struct ts) all each = all
struct_fields (Ty.basic b) all each = each
struct_fields Ty.variant all each = each
struct_fields (Ty.array t) all each = each
struct_fields (Ty.entry key t) all each = each

-- the fields of a struct that doesn't have two: those of one that does are elsewhere
abbrev pub unless_two : Vals → Vals
unless_two Vals.end = Vals.end
unless_two (Vals.more v Vals.end) = Vals.more v Vals.end
unless_two (Vals.more v (Vals.more w Vals.end)) = Vals.end
unless_two (Vals.more v (Vals.more w (Vals.more x vs))) = Vals.more v (Vals.more w (Vals.more x vs))

abbrev mutual
  -- The tree of a value whose type is known to be this one, without structs of one field around it. If nothing is
  -- known, the type is a variant.
  pub core_as : Ty → Value → Val
  core_as known (Byte n) = Val.number basics.Byte n
  core_as known (Boolean b) = Val.number basics.Boolean (bit_of b)
  core_as known (Int16 n) = Val.number basics.Int16 (cast_unsigned w16 n)
  core_as known (Uint16 n) = Val.number basics.Uint16 n
  core_as known (Int32 n) = Val.number basics.Int32 (cast_unsigned w32 n)
  core_as known (Uint32 n) = Val.number basics.Uint32 n
  core_as known (Int64 n) = Val.number basics.Int64 (cast_unsigned w64 n)
  core_as known (Uint64 n) = Val.number basics.Uint64 n
  core_as known (Double n) = Val.number basics.Double n
  core_as known (UnixFd n) = Val.number basics.UnixFd n
  core_as known (String t) = Val.text basics.String t.value
  core_as known (ObjectPath p) = Val.text basics.ObjectPath p.value
  core_as known (Signature s) = Val.text basics.Signature (texts_of (types_in s.value))
  core_as known (Variant' place v) = in_variant known (core_as Ty.variant v)
  core_as known (Array' place t shape row) = typed_array known (type_of t) (row_each (type_of t) row)
  core_as known (InnerArray' place shape row) = Val.array (element_of known) (row_each (element_of known) row)
  core_as known (Bytes bytes) = Val.bytes bytes.value
  core_as known (Struct' place shape row) = Val.struct (unless_two (struct_fields known (row_all (fields_of known) row) (row_each known row)))
  core_as known (Pair' place shape row) = Val.struct (struct_fields known (row_all (fields_of known) row) (row_each known row))
  core_as known (DictEntry' place key v) = Val.entry (wrapped known (core_as (core_of known) key)) (wrapped (held_of known) (core_as (core_of (held_of known)) v))

  -- the trees of the values in a row, which all have this type
  pub row_each : Ty → {m : _} → Row_of-Value m → Vals
  row_each t end_of-Value = Vals.end
  row_each t (more_of-Value v rest) = Vals.more (wrapped t (core_as (core_of t) v)) (row_each t rest)

  -- the trees of the values in a row, which have these types
  pub row_all : Tys → {m : _} → Row_of-Value m → Vals
  row_all ts end_of-Value = Vals.end
  row_all Tys.end (more_of-Value v rest) = Vals.more nothing (row_all Tys.end rest)
  row_all (Tys.more t ts) (more_of-Value v rest) = Vals.more (wrapped t (core_as (core_of t) v)) (row_all ts rest)

-- the tree of a value whose type is known to be this one
abbrev pub value_as : Ty → Value → Val
value_as t v = wrapped t (core_as (core_of t) v)

-- the trees of values whose type is known to be this one, one after the other
abbrev pub each_as : Ty → List Value → Vals
each_as t [] = Vals.end
each_as t (v ∷ vs) = Vals.more (value_as t v) (each_as t vs)

-- the trees of values whose types are known
abbrev pub all_as : Tys → List Value → Vals
all_as ts [] = Vals.end
all_as Tys.end (v ∷ vs) = Vals.more nothing (all_as Tys.end vs)
all_as (Tys.more t ts) (v ∷ vs) = Vals.more (value_as t v) (all_as ts vs)

-- what is known of the type of a value: all of it, if the value is in an array
abbrev pub known_as : Bool → Ty → Ty
known_as true t = t
known_as false t = Ty.variant

-- the same for values of these types
abbrev pub fields_as : Bool → Tys → List Value → Vals
fields_as true ts vs = all_as ts vs
fields_as false ts vs = each_as Ty.variant vs

-- the tree of a value that isn't in an array
abbrev pub value_of : Value → Val
value_of v = value_as Ty.variant v

-- the trees of values that aren't in an array, one after the other
abbrev pub values_of : List Value → Vals
values_of vs = each_as Ty.variant vs

-- the value is a struct of these fields, whatever is known of its type
abbrev pub HasFields : Value → List Value → Type 0
HasFields value fields = (known : Ty) → core_as known value ≡ Val.struct (struct_fields known (all_as (fields_of known) fields) (each_as known fields))

-- the fields in a struct's vector, which are never two
abbrev pub if_not_two : List Value → List Value
if_not_two [] = []
if_not_two (v ∷ []) = v ∷ []
if_not_two (v ∷ w ∷ []) = []
if_not_two (v ∷ w ∷ x ∷ vs) = v ∷ w ∷ x ∷ vs

-- whether the value is a struct
abbrev pub is_struct : Value → Bool
is_struct (Struct' place shape row) = true
is_struct (Pair' place shape row) = true
is_struct _ = false

-- the fields, if the value is a struct
abbrev pub FieldsAre : Value → Option (List Value) → Type 0
FieldsAre value None = is_struct value ≡ true → ⊥
FieldsAre value (Some fields) = (is_struct value ≡ true) × HasFields value fields

-- The two fields, if the value is a struct of two, whatever is known of its type. If there are none, its tree isn't
-- a struct of two fields, whatever is known.
abbrev pub AreTwo : Value → Option (Value × Value) → Type 0
AreTwo value None = (known : Ty) (v w : Val) → core_as known value ≡ Val.struct (Vals.more v (Vals.more w Vals.end)) → ⊥
AreTwo value (Some two) = HasFields value (two.0 ∷ two.1 ∷ [])
