-- D-Bus Specification, "Type System": types as plain trees, their text, and which texts are signatures.
use Rattle.std.specs.Prelude.{ℕ, zero, suc, ◌&&◌, nat_le, Bool, true, false, List, [], ◌∷◌, ◌++◌, length}
use Rattle.dbus_types.specs.declared.complete_type.BasicType.{BasicType}
use Rattle.dbus_types.specs.declared.complete_type.BasicType.TheVariants as basics

mutual
  -- a complete type; an entry may be only an array's element
  pub data Ty : Type 0 where
    basic : BasicType → Ty
    variant : Ty
    array : Ty → Ty
    struct : Tys → Ty
    entry : BasicType → Ty → Ty

  -- types, one after the other
  pub data Tys : Type 0 where
    end : Tys
    more : Ty → Tys → Tys

-- the type code of a basic type
abbrev pub code_of : BasicType → ℕ
code_of basics.Byte = 121
code_of basics.Boolean = 98
code_of basics.Int16 = 110
code_of basics.Uint16 = 113
code_of basics.Int32 = 105
code_of basics.Uint32 = 117
code_of basics.Int64 = 120
code_of basics.Uint64 = 116
code_of basics.Double = 100
code_of basics.UnixFd = 104
code_of basics.String = 115
code_of basics.ObjectPath = 111
code_of basics.Signature = 103

abbrev mutual
  -- the text of a complete type
  pub text_of : Ty → List ℕ
  text_of (basic b) = code_of b ∷ []
  text_of variant = 118 ∷ []
  text_of (array t) = 97 ∷ text_of t
  text_of (struct ts) = 40 ∷ (texts_of ts ++ 41 ∷ [])
  text_of (entry key t) = 123 ∷ code_of key ∷ (text_of t ++ 125 ∷ [])

  -- the texts of types, one after the other
  pub texts_of : Tys → List ℕ
  texts_of end = []
  texts_of (more t ts) = text_of t ++ texts_of ts

-- there is a type
abbrev pub has_type : Tys → Bool
has_type end = false
has_type (more t ts) = true

-- the property with one fewer, if there is one
abbrev pub with_fewer : ℕ → (ℕ → Bool) → Bool
with_fewer zero holds = false
with_fewer (suc n) holds = holds n

abbrev mutual
  -- At most this many arrays and structs are open at once, no struct is empty, and an entry is an array's element,
  -- or the type itself if the flag says so.
  pub is_within : Bool → ℕ → ℕ → Ty → Bool
  is_within entries arrays structs (basic b) = true
  is_within entries arrays structs variant = true
  is_within entries arrays structs (array t) = with_fewer arrays (λ fewer. is_within true fewer structs t)
  is_within entries arrays structs (struct ts) = with_fewer structs (λ fewer. has_type ts && are_within arrays fewer ts)
  is_within entries arrays structs (entry key t) = entries && is_within false arrays structs t

  -- each of the types is within the limits
  pub are_within : ℕ → ℕ → Tys → Bool
  are_within arrays structs end = true
  are_within arrays structs (more t ts) = is_within false arrays structs t && are_within arrays structs ts

-- how many arrays a signature may have open at once, and how many structs
abbrev pub nesting_limit : ℕ
nesting_limit = 32

-- the most bytes of a signature
abbrev pub signature_limit : ℕ
signature_limit = 255

-- the types have a signature: they and their text are within the limits
abbrev pub is_signature : Tys → Bool
is_signature ts = are_within nesting_limit nesting_limit ts && nat_le (length (texts_of ts)) signature_limit
