-- D-Bus Specification, "Marshaling": which bytes a value of a type has at a position, by cases on the type.
-- Positions are counted modulo 8, which each alignment divides.
use Rattle.std.specs.Prelude.{ℕ, ◌%◌, ◌<◌, ◌≤◌, ◌≡◌, IsTrue, IsFalse, List, [], ◌∷◌, ◌++◌, length}
use Rattle.std.specs.Int.{w32, byte_len}
use Rattle.dbus_types.specs.declared.complete_type.BasicType.{BasicType}
use Rattle.dbus_types.specs.declared.complete_type.BasicType.TheVariants as basics
use Rattle.dbus_types.specs.declared.endian.Endian.{Endian}
use Rattle.dbus_types.specs.Types.{Ty, Tys, is_signature, text_of}
use Rattle.dbus_types.specs.Values.{Val, Vals}
use Rattle.dbus_marshal.specs.Limits.{array_limit, depth_limit}
use Rattle.dbus_marshal.specs.Wire.{width_of, alignment_of, padding, behind, start_of, zeros, number_bytes, limit_of, is_byte, AreBytes, IsTextOf, Opens}

-- the bytes are zeros up to a multiple of the alignment, and then bytes that have the given property at their position
abbrev pub Padded : ℕ → ℕ → (ℕ → List ℕ → Type 0) → List ℕ → Type 0
Padded alignment place Behind bytes = (rest : List ℕ) × (bytes ≡ zeros (padding alignment place) ++ rest) × Behind (start_of alignment place) rest

-- a number, at a multiple of its width
abbrev pub NumberMarshals : Endian → ℕ → BasicType → ℕ → List ℕ → Type 0
NumberMarshals endian place b n bytes = (n < limit_of b) × Padded (byte_len (width_of b)) place (λ at rest. rest ≡ number_bytes endian (width_of b) n) bytes

-- a text: its length, its bytes and a zero byte
abbrev pub TextMarshals : Endian → ℕ → BasicType → List ℕ → List ℕ → Type 0
TextMarshals endian place b text bytes =
    IsTextOf b text × Padded (byte_len (width_of b)) place (λ at rest. rest ≡ number_bytes endian (width_of b) (length text) ++ (text ++ 0 ∷ [])) bytes

-- The bytes of an array: the length of its elements in bytes, padding that the length doesn't count, and the elements.
abbrev pub ArrayMarshals : Endian → ℕ → Ty → (ℕ → List ℕ → Type 0) → List ℕ → Type 0
ArrayMarshals endian place t Elements bytes =
    (elements : List ℕ) × (length elements ≤ array_limit)
    × Padded 4 place (λ at rest. (behind_length : List ℕ) × (rest ≡ number_bytes endian w32 (length elements) ++ behind_length)
    × Padded (alignment_of t) (behind at 4) (λ first padded. (padded ≡ elements) × Elements first elements) behind_length) bytes

abbrev mutual
  -- The bytes are this value of the type at the position, with at most this many arrays, structs, dict entries and
  -- variants open at once.
  pub Marshals : ℕ → Endian → ℕ → Ty → Val → List ℕ → Type 0
  Marshals depth endian place (Ty.basic b) (Val.number c n) bytes = (c ≡ b) × NumberMarshals endian place b n bytes
  Marshals depth endian place (Ty.basic b) (Val.text c text) bytes = (c ≡ b) × TextMarshals endian place b text bytes
  Marshals depth endian place Ty.variant (Val.variant v) bytes =
      Opens depth (λ fewer. (t : Ty) × (signature : List ℕ) × (rest : List ℕ) × IsTrue (is_signature (Tys.more t Tys.end)) × (bytes ≡ signature ++ rest)
      × TextMarshals endian place basics.Signature (text_of t) signature × Marshals fewer endian (behind place (length signature)) t v rest)
  Marshals depth endian place (Ty.array t) (Val.array u vs) bytes =
      Opens depth (λ fewer. (u ≡ t) × IsFalse (is_byte t) × ArrayMarshals endian place t (λ first elements. EachMarshals fewer endian first t vs elements) bytes)
  Marshals depth endian place (Ty.array t) (Val.bytes them) bytes =
      Opens depth (λ fewer. (t ≡ Ty.basic basics.Byte) × AreBytes them × ArrayMarshals endian place t (λ first elements. elements ≡ them) bytes)
  Marshals depth endian place (Ty.struct ts) (Val.struct vs) bytes =
      Opens depth (λ fewer. Padded 8 place (λ at fields. AllMarshal fewer endian at ts vs fields) bytes)
  Marshals depth endian place (Ty.entry key t) (Val.entry k v) bytes =
      Opens depth (λ fewer. Padded 8 place (λ at parts. (front : List ℕ) × (rest : List ℕ) × (parts ≡ front ++ rest)
      × Marshals fewer endian at (Ty.basic key) k front × Marshals fewer endian (behind at (length front)) t v rest) bytes)
  Marshals depth endian place t v bytes = ⊥

  -- the bytes are these values of the types, one after the other
  pub AllMarshal : ℕ → Endian → ℕ → Tys → Vals → List ℕ → Type 0
  AllMarshal depth endian place Tys.end Vals.end bytes = bytes ≡ []
  AllMarshal depth endian place (Tys.more t ts) (Vals.more v vs) bytes =
      (front : List ℕ) × (rest : List ℕ) × (bytes ≡ front ++ rest) × Marshals depth endian place t v front × AllMarshal depth endian (behind place (length front)) ts vs rest
  AllMarshal depth endian place ts vs bytes = ⊥

  -- the bytes are these values of one type, one after the other
  pub EachMarshals : ℕ → Endian → ℕ → Ty → Vals → List ℕ → Type 0
  EachMarshals depth endian place t Vals.end bytes = bytes ≡ []
  EachMarshals depth endian place t (Vals.more v vs) bytes =
      (front : List ℕ) × (rest : List ℕ) × (bytes ≡ front ++ rest) × Marshals depth endian place t v front × EachMarshals depth endian (behind place (length front)) t vs rest

-- The bytes are the spelling of these values of the types, with the first byte at this position.
abbrev pub AreSpelled : Endian → ℕ → Tys → Vals → List ℕ → Type 0
AreSpelled endian place ts vs bytes = AllMarshal depth_limit endian (place % 8) ts vs bytes
