-- D-Bus Specification, "Marshaling": the bytes of a value at a position, as a function of the value.
use Rattle.std.specs.Prelude.{ℕ, ◌&&◌, nat_le, Bool, true, List, [], ◌∷◌, ◌++◌, length}
use Rattle.std.specs.Int.{w32, byte_len}
use Rattle.dbus_types.specs.declared.complete_type.BasicType.{BasicType}
use Rattle.dbus_types.specs.declared.complete_type.BasicType.TheVariants as basics
use Rattle.dbus_types.specs.declared.endian.Endian.{Endian}
use Rattle.dbus_types.specs.Types.{text_of}
use Rattle.dbus_types.specs.Values.{Val, Vals, ty_of}
use Rattle.dbus_marshal.specs.Limits.{array_limit}
use Rattle.dbus_marshal.specs.Wire.{width_of, alignment_of, padding, behind, start_of, zeros, number_bytes}

-- zeros up to a multiple of the alignment, and then these bytes
abbrev pub aligned : ℕ → ℕ → List ℕ → List ℕ
aligned alignment place bytes = zeros (padding alignment place) ++ bytes

-- a number of a basic type
abbrev pub number_spelled : Endian → BasicType → ℕ → ℕ → List ℕ
number_spelled endian b n place = aligned (byte_len (width_of b)) place (number_bytes endian (width_of b) n)

-- a text: its length, its bytes and a zero byte
abbrev pub text_spelled : Endian → BasicType → List ℕ → ℕ → List ℕ
text_spelled endian b bytes place = aligned (byte_len (width_of b)) place (number_bytes endian (width_of b) (length bytes) ++ (bytes ++ 0 ∷ []))

-- the position of the first element of an array at a position, by the alignment of the elements
abbrev pub first_at : ℕ → ℕ → ℕ
first_at alignment place = start_of alignment (behind (start_of 4 place) 4)

-- an array: its length, the padding to its first element, which the length doesn't count, and the elements
abbrev pub array_spelled : Endian → ℕ → ℕ → List ℕ → List ℕ
array_spelled endian alignment place elements =
    aligned 4 place (number_bytes endian w32 (length elements) ++ aligned alignment (behind (start_of 4 place) 4) elements)

abbrev mutual
  -- the padding and the bytes of a value
  pub spelled : Endian → Val → ℕ → List ℕ
  spelled endian (Val.number b n) place = number_spelled endian b n place
  spelled endian (Val.text b bytes) place = text_spelled endian b bytes place
  spelled endian (Val.variant v) place =
      text_spelled endian basics.Signature (text_of (ty_of v)) place ++ spelled endian v (behind place (length (text_spelled endian basics.Signature (text_of (ty_of v)) place)))
  spelled endian (Val.array t vs) place = array_spelled endian (alignment_of t) place (all_spelled endian vs (first_at (alignment_of t) place))
  spelled endian (Val.bytes them) place = array_spelled endian 1 place them
  spelled endian (Val.struct vs) place = aligned 8 place (all_spelled endian vs (start_of 8 place))
  spelled endian (Val.entry key v) place =
      aligned 8 place (spelled endian key (start_of 8 place) ++ spelled endian v (behind (start_of 8 place) (length (spelled endian key (start_of 8 place)))))

  -- the bytes of values, one after the other
  pub all_spelled : Endian → Vals → ℕ → List ℕ
  all_spelled endian Vals.end place = []
  all_spelled endian (Vals.more v vs) place = spelled endian v place ++ all_spelled endian vs (behind place (length (spelled endian v place)))

abbrev mutual
  -- the elements of each array within the value at this position are within the limit
  pub is_short : Endian → Val → ℕ → Bool
  is_short endian (Val.number b n) place = true
  is_short endian (Val.text b bytes) place = true
  is_short endian (Val.variant v) place = is_short endian v (behind place (length (text_spelled endian basics.Signature (text_of (ty_of v)) place)))
  is_short endian (Val.array t vs) place =
      are_short endian vs (first_at (alignment_of t) place) && nat_le (length (all_spelled endian vs (first_at (alignment_of t) place))) array_limit
  is_short endian (Val.bytes them) place = nat_le (length them) array_limit
  is_short endian (Val.struct vs) place = are_short endian vs (start_of 8 place)
  is_short endian (Val.entry key v) place =
      is_short endian key (start_of 8 place) && is_short endian v (behind (start_of 8 place) (length (spelled endian key (start_of 8 place))))

  -- nor within values, one after the other
  pub are_short : Endian → Vals → ℕ → Bool
  are_short endian Vals.end place = true
  are_short endian (Vals.more v vs) place = is_short endian v place && are_short endian vs (behind place (length (spelled endian v place)))
