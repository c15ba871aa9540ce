-- D-Bus Specification, "Marshaling": what a writer stands for: the list of all bytes put so far, from the message's
-- start on. Everything is little-endian.
use Rattle.std.specs.Prelude.{ℕ, ◌≡◌, ◌%◌, min, List, ◌++◌, length}
use Rattle.std.specs.Int.{w32}
use Rattle.dbus_types.specs.declared.complete_type.BasicType.TheVariants as basics
use Rattle.dbus_types.specs.declared.endian.Endian.TheVariants.{Little}
use Rattle.dbus_types.specs.Values.{Val, Vals}
use Rattle.dbus_marshal.specs.Wire.{padding, zeros, number_bytes}
use Rattle.dbus_marshal.specs.Spelling.{text_spelled, first_at, spelled, all_spelled}

-- A counter stands for a list of bytes: it has the length, or the last number of 64 bits if the length is greater, and
-- the lower 32 bits of the length.
abbrev pub Counts : ℕ → ℕ → List ℕ → Type 0
Counts size low before = (size ≡ min 18446744073709551615 (length before)) × (low ≡ length before % 4294967296)

-- zeros up to a multiple of the alignment
abbrev pub padded : ℕ → List ℕ → List ℕ
padded alignment before = before ++ zeros (padding alignment (length before % 8))

-- one more value
unfoldable pub put : List ℕ → Val → List ℕ
put before v = before ++ spelled Little v (length before % 8)

-- values, one after the other
abbrev pub puts : List ℕ → Vals → List ℕ
puts before Vals.end = before
puts before (Vals.more v vs) = puts (put before v) vs

-- the signature of a variant, before its value
unfoldable pub signed : List ℕ → List ℕ → List ℕ
signed text before = before ++ text_spelled Little basics.Signature text (length before % 8)

-- the start of an array: its length, and the padding to the first element
unfoldable pub opened : ℕ → ℕ → List ℕ → List ℕ
opened alignment count before = padded alignment (padded 4 before ++ number_bytes Little w32 count)

-- the number of bytes of an array's elements
abbrev pub elements_long : ℕ → List ℕ → Vals → ℕ
elements_long alignment before vs = length (all_spelled Little vs (first_at alignment (length before % 8)))
