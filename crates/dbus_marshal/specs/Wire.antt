-- D-Bus Specification, "Marshaling": alignment, padding, numbers and texts.
use Rattle.std.specs.Prelude.{ℕ, zero, suc, ◌+◌, ◌-◌, ◌%◌, ◌^◌, ◌<◌, ◌≡◌, ◌&&◌, nat_eq, not, Bool, true, false, IsTrue, List, [], ◌∷◌, length, replicate}
use Rattle.std.specs.List.{list_any}
use Rattle.std.specs.Str.{is_utf8}
use Rattle.std.specs.Int.{Width, w8, w16, w32, w64, byte_len, to_le_bytes, to_be_bytes, from_le_bytes, from_be_bytes}
use Rattle.dbus_types.specs.declared.complete_type.BasicType.{BasicType}
use Rattle.dbus_types.specs.declared.complete_type.BasicType.TheVariants as basics
use Rattle.dbus_types.specs.declared.endian.Endian.{Endian}
use Rattle.dbus_types.specs.declared.endian.Endian.TheVariants.{Little, Big}
use Rattle.dbus_types.specs.Types.{Ty, Tys, is_signature, texts_of}
use Rattle.dbus_types.specs.Paths.{is_object_path}

-- the width of a number, and of the length before a text
abbrev pub width_of : BasicType → Width
width_of basics.Byte = w8
width_of basics.Boolean = w32
width_of basics.Int16 = w16
width_of basics.Uint16 = w16
width_of basics.Int32 = w32
width_of basics.Uint32 = w32
width_of basics.Int64 = w64
width_of basics.Uint64 = w64
width_of basics.Double = w64
width_of basics.UnixFd = w32
width_of basics.String = w32
width_of basics.ObjectPath = w32
width_of basics.Signature = w8

-- The alignment of a type: a value is at a multiple of it.
abbrev pub alignment_of : Ty → ℕ
alignment_of (Ty.basic b) = byte_len (width_of b)
alignment_of Ty.variant = 1
alignment_of (Ty.array t) = 4
alignment_of (Ty.struct ts) = 8
alignment_of (Ty.entry key t) = 8

-- The number of bytes from a position to the next multiple of the alignment. Positions are counted modulo 8, which
-- each alignment divides.
abbrev pub padding : ℕ → ℕ → ℕ
padding alignment place = (alignment - place % alignment) % alignment

-- the position this many bytes after a position
abbrev pub behind : ℕ → ℕ → ℕ
behind place count = (place + count) % 8

-- the next multiple of the alignment
abbrev pub start_of : ℕ → ℕ → ℕ
start_of alignment place = behind place (padding alignment place)

-- padding consists of zeros
abbrev pub zeros : ℕ → List ℕ
zeros n = replicate n 0

-- the bytes of a number
unfoldable pub number_bytes : Endian → Width → ℕ → List ℕ
number_bytes Little width n = to_le_bytes width n
number_bytes Big width n = to_be_bytes width n

-- the number that bytes spell
unfoldable pub number_from : Endian → Width → List ℕ → ℕ
number_from Little width bytes = from_le_bytes width bytes
number_from Big width bytes = from_be_bytes width bytes

-- the numbers of a basic type are those below this one: a boolean is 0 or 1, and a type of texts has no numbers
abbrev pub limit_of : BasicType → ℕ
limit_of basics.Byte = 2 ^ 8
limit_of basics.Boolean = 2
limit_of basics.Int16 = 2 ^ 16
limit_of basics.Uint16 = 2 ^ 16
limit_of basics.Int32 = 2 ^ 32
limit_of basics.Uint32 = 2 ^ 32
limit_of basics.Int64 = 2 ^ 64
limit_of basics.Uint64 = 2 ^ 64
limit_of basics.Double = 2 ^ 64
limit_of basics.UnixFd = 2 ^ 32
limit_of basics.String = 0
limit_of basics.ObjectPath = 0
limit_of basics.Signature = 0

-- the bytes are UTF-8 without a zero byte
abbrev pub is_text : List ℕ → Bool
is_text bytes = is_utf8 bytes && not (list_any (nat_eq 0) bytes)

-- a string is a text whose length is a number of 32 bits
abbrev pub IsString : List ℕ → Type 0
IsString bytes = IsTrue (is_text bytes) × (length bytes < 2 ^ 32)

-- the text of a signature
abbrev pub IsSignature : List ℕ → Type 0
IsSignature bytes = (ts : Tys) × IsTrue (is_signature ts) × (bytes ≡ texts_of ts)

-- the texts of a basic type: a type of numbers has none
abbrev pub IsTextOf : BasicType → List ℕ → Type 0
IsTextOf basics.String bytes = IsString bytes
IsTextOf basics.ObjectPath bytes = IsString bytes × IsTrue (is_object_path bytes)
IsTextOf basics.Signature bytes = IsSignature bytes
IsTextOf basics.Byte bytes = ⊥
IsTextOf basics.Boolean bytes = ⊥
IsTextOf basics.Int16 bytes = ⊥
IsTextOf basics.Uint16 bytes = ⊥
IsTextOf basics.Int32 bytes = ⊥
IsTextOf basics.Uint32 bytes = ⊥
IsTextOf basics.Int64 bytes = ⊥
IsTextOf basics.Uint64 bytes = ⊥
IsTextOf basics.Double bytes = ⊥
IsTextOf basics.UnixFd bytes = ⊥

-- whether it is the type of a byte: an array of bytes is its bytes, not an array of values
abbrev pub is_byte : Ty → Bool
is_byte (Ty.basic basics.Byte) = true
is_byte t = false

-- each is a byte
abbrev pub AreBytes : List ℕ → Type 0
AreBytes [] = Unit {0}
AreBytes (b ∷ bytes) = (b < 2 ^ 8) × AreBytes bytes

-- one container is open, and inside it one fewer may be
abbrev pub Opens : ℕ → (ℕ → Type 0) → Type 0
Opens zero Inside = ⊥
Opens (suc fewer) Inside = Inside fewer
