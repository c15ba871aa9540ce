-- A message as a header and a body.
use Rattle.std.proofs.Common.{◌≡◌, ℕ, ◌+◌, ◌<◌, ◌≤◌, ◌==◌, true, List, [], ◌∷◌, ◌++◌, length, take, drop, get_or, refl, sym, ap, subst, ◌∙◌, arith, length-drop, lit<}
use Rattle.std.specs.Int.{w8, w32}
use Rattle.std.proofs.lemmas.Bool.{and_parts, eqb-true}
use Rattle.std.proofs.lemmas.List.{length-take-le, take-append-drop, take-take, drop-take, drop-drop}
use Rattle.dbus_types.specs.declared.endian.Endian.{Endian}
use Rattle.dbus_types.specs.declared.endian.Endian.TheVariants.{Little, Big}
use Rattle.dbus_types.specs.declared.complete_type.BasicType.TheVariants as basics
use Rattle.dbus_types.specs.Types.{Ty, Tys}
use Rattle.dbus_types.specs.Values.{Val, Vals}
use Rattle.dbus_marshal.specs.Wire.{padding, behind, zeros, number_bytes, number_from}
use Rattle.dbus_marshal.specs.Marshals.{Marshals, AllMarshal}
use Rattle.dbus_marshal.specs.Unmarshal.{are_zero}
use Rattle.dbus_marshal.proofs.Taking.{IsBytes, wide32}
use Rattle.dbus_framing.specs.Messages.{Parts, IsHeaderAndBody, IsMessage, body_start, field_types, fields_end, header_types, header_values, word_at}
use Rattle.dbus_framing.proofs.Readings.{IsBytes-drop, IsBytes-take}

-- ---- a byte, and a number of 32 bits

byte_bytes : (endian : Endian) (n : ℕ) → n < 256 → n ∷ [] ≡ number_bytes endian w8 n
unfolding number_bytes
byte_bytes Little n below = ap (λ (k : ℕ). k ∷ []) (omega arith)
byte_bytes Big n below = ap (λ (k : ℕ). k ∷ []) (omega arith)

byte_marshals : (endian : Endian) (place n : ℕ) → n < 256 → Marshals 64 endian place (Ty.basic basics.Byte) (Val.number basics.Byte n) (n ∷ [])
byte_marshals endian place n below =
    let none : padding 1 place ≡ 0 = omega arith in
    (refl, (below, (n ∷ [], ap (λ (k : ℕ). zeros k ++ n ∷ []) (sym none), byte_bytes endian n below)))

byte_then : (endian : Endian) (place n : ℕ) (rest : List ℕ) (ts : Tys) (vs : Vals) → n < 256 → AllMarshal 64 endian (behind place 1) ts vs rest
    → AllMarshal 64 endian place (Tys.more (Ty.basic basics.Byte) ts) (Vals.more (Val.number basics.Byte n) vs) (n ∷ rest)
byte_then endian place n rest ts vs below more = (n ∷ [], rest, refl, byte_marshals endian place n below, more)

word_then : (endian : Endian) (place n : ℕ) (xs rest : List ℕ) (ts : Tys) (vs : Vals) → padding 4 place ≡ 0 → length xs ≡ 4 → IsBytes xs → number_from endian w32 xs ≡ n
    → AllMarshal 64 endian (behind place 4) ts vs rest
    → AllMarshal 64 endian place (Tys.more (Ty.basic basics.Uint32) ts) (Vals.more (Val.number basics.Uint32 n) vs) (xs ++ rest)
word_then endian place n xs rest ts vs none long small is more =
    let spelled : Marshals 64 endian place (Ty.basic basics.Uint32) (Val.number basics.Uint32 (number_from endian w32 xs)) xs =
    (refl, (wide32.below endian xs small, (xs, ap (λ (k : ℕ). zeros k ++ xs) (sym none), sym (wide32.back endian xs long small)))) in
    let first : Marshals 64 endian place (Ty.basic basics.Uint32) (Val.number basics.Uint32 n) xs =
    subst (λ (k : ℕ). Marshals 64 endian place (Ty.basic basics.Uint32) (Val.number basics.Uint32 k) xs) is spelled in
    (xs, rest, refl, first, subst (λ (k : ℕ). AllMarshal 64 endian (behind place k) ts vs rest) (sym long) more)

-- ---- the start of a message

four_first : (bytes : List ℕ) → 4 ≤ length bytes → take 4 bytes ≡ get_or bytes 0 0 ∷ get_or bytes 1 0 ∷ get_or bytes 2 0 ∷ get_or bytes 3 0 ∷ []
four_first [] long = absurd (omega (arith, long))
four_first (a ∷ []) long = absurd (omega (arith, long))
four_first (a ∷ b ∷ []) long = absurd (omega (arith, long))
four_first (a ∷ b ∷ c ∷ []) long = absurd (omega (arith, long))
four_first (a ∷ b ∷ c ∷ d ∷ bytes) long = refl

take_both : (n m : ℕ) (bytes : List ℕ) → take (n + m) bytes ≡ take n bytes ++ take m (drop n bytes)
take_both n m bytes =
    let first : take n (take (n + m) bytes) ≡ take n bytes = take-take n (n + m) bytes (omega arith) in
    let second : drop n (take (n + m) bytes) ≡ take m (drop n bytes) = drop-take n m bytes in
    sym (take-append-drop n (take (n + m) bytes)) ∙ ap (λ (x : List ℕ). x ++ drop n (take (n + m) bytes)) first ∙ ap (λ (x : List ℕ). take n bytes ++ x) second

-- the start up to the end of the fields: four bytes, two numbers of 32 bits, and the array
front_parts : (bytes : List ℕ) (w : ℕ) → 16 ≤ length bytes
    → take (16 + w) bytes ≡ get_or bytes 0 0 ∷ get_or bytes 1 0 ∷ get_or bytes 2 0 ∷ get_or bytes 3 0
    ∷ (take 4 (drop 4 bytes) ++ (take 4 (drop 8 bytes) ++ take (4 + w) (drop 12 bytes)))
front_parts bytes w long =
    let whole : take (16 + w) bytes ≡ take (4 + (12 + w)) bytes = ap (λ (k : ℕ). take k bytes) (omega arith) in
    let second : take (12 + w) (drop 4 bytes) ≡ take 4 (drop 4 bytes) ++ take (8 + w) (drop 4 (drop 4 bytes)) =
    ap (λ (k : ℕ). take k (drop 4 bytes)) (omega arith) ∙ take_both 4 (8 + w) (drop 4 bytes) in
    let third : take (8 + w) (drop 8 bytes) ≡ take 4 (drop 8 bytes) ++ take (4 + w) (drop 4 (drop 8 bytes)) =
    ap (λ (k : ℕ). take k (drop 8 bytes)) (omega arith) ∙ take_both 4 (4 + w) (drop 8 bytes) in
    whole ∙ take_both 4 (12 + w) bytes ∙ ap (λ (x : List ℕ). x ++ take (12 + w) (drop 4 bytes)) (four_first bytes (omega (arith, long)))
    ∙ ap (λ (x : List ℕ). get_or bytes 0 0 ∷ get_or bytes 1 0 ∷ get_or bytes 2 0 ∷ get_or bytes 3 0 ∷ x)
    (second ∙ ap (λ (x : List ℕ). take 4 (drop 4 bytes) ++ take (8 + w) x) (drop-drop 4 4 bytes)
    ∙ ap (λ (x : List ℕ). take 4 (drop 4 bytes) ++ x) (third ∙ ap (λ (x : List ℕ). take 4 (drop 8 bytes) ++ take (4 + w) x) (drop-drop 4 8 bytes)))

word_is : (endian : Endian) (place : ℕ) (bytes : List ℕ) → number_from endian w32 (take 4 (drop place bytes)) ≡ word_at endian place bytes
unfolding word_at
word_is endian place bytes = refl

word_long : (place : ℕ) (bytes : List ℕ) → place + 4 ≤ length bytes → length (take 4 (drop place bytes)) ≡ 4
word_long place bytes fits = length-take-le 4 (drop place bytes) (omega (arith, fits, length-drop place bytes))

four_same : (m a b c d e f : ℕ) (x : List ℕ) → a ≡ d → b ≡ e → c ≡ f → m ∷ a ∷ b ∷ c ∷ x ≡ m ∷ d ∷ e ∷ f ∷ x
four_same m a b c d e f x p q r = cc

-- the types and values of a header from the serial on, from the length on, and so on to the start
abbrev serial_types : Tys
serial_types = Tys.more (Ty.basic basics.Uint32) field_types

abbrev length_types : Tys
length_types = Tys.more (Ty.basic basics.Uint32) serial_types

abbrev version_types : Tys
version_types = Tys.more (Ty.basic basics.Byte) length_types

abbrev flag_types : Tys
flag_types = Tys.more (Ty.basic basics.Byte) version_types

abbrev kind_types : Tys
kind_types = Tys.more (Ty.basic basics.Byte) flag_types

abbrev serial_values : Parts → Vals → Vals
serial_values parts array = Vals.more (Val.number basics.Uint32 parts.serial) array

abbrev length_values : ℕ → Parts → Vals → Vals
length_values count parts array = Vals.more (Val.number basics.Uint32 count) (serial_values parts array)

abbrev version_values : ℕ → Parts → Vals → Vals
version_values count parts array = Vals.more (Val.number basics.Byte 1) (length_values count parts array)

abbrev flag_values : ℕ → Parts → Vals → Vals
flag_values count parts array = Vals.more (Val.number basics.Byte parts.flags) (version_values count parts array)

abbrev kind_values : ℕ → Parts → Vals → Vals
kind_values count parts array = Vals.more (Val.number basics.Byte parts.kind) (flag_values count parts array)

header_spelled : (endian : Endian) (bytes : List ℕ) (parts : Parts) (array : Vals) → IsBytes bytes → 16 ≤ length bytes → parts.kind ≡ get_or bytes 1 0
    → parts.flags ≡ get_or bytes 2 0 → get_or bytes 3 0 ≡ 1 → parts.serial ≡ word_at endian 8 bytes
    → AllMarshal 64 endian 4 field_types array (take (4 + word_at endian 12 bytes) (drop 12 bytes))
    → AllMarshal 64 endian 0 header_types (header_values (get_or bytes 0 0) (word_at endian 4 bytes) parts array) (take (fields_end endian bytes) bytes)
header_spelled endian bytes parts array small long kind flags version serial spelled =
    let count = word_at endian 4 bytes in
    let last = take (4 + word_at endian 12 bytes) (drop 12 bytes) in
    let from_serial = take 4 (drop 8 bytes) ++ last in
    let from_length = take 4 (drop 4 bytes) ++ from_serial in
    let serials : AllMarshal 64 endian 0 serial_types (serial_values parts array) from_serial =
    word_then endian 0 parts.serial (take 4 (drop 8 bytes)) last field_types array refl (word_long 8 bytes (omega (arith, long)))
    (IsBytes-take 4 (drop 8 bytes) (IsBytes-drop 8 bytes small)) (word_is endian 8 bytes ∙ sym serial) spelled in
    let lengths : AllMarshal 64 endian 4 length_types (length_values count parts array) from_length =
    word_then endian 4 count (take 4 (drop 4 bytes)) from_serial serial_types (serial_values parts array) refl (word_long 4 bytes (omega (arith, long)))
    (IsBytes-take 4 (drop 4 bytes) (IsBytes-drop 4 bytes small)) (word_is endian 4 bytes) serials in
    let versions : AllMarshal 64 endian 3 version_types (version_values count parts array) (1 ∷ from_length) =
    byte_then endian 3 1 from_length length_types (length_values count parts array) (lit< tt) lengths in
    let flagged : AllMarshal 64 endian 2 flag_types (flag_values count parts array) (parts.flags ∷ 1 ∷ from_length) =
    byte_then endian 2 parts.flags (1 ∷ from_length) version_types (version_values count parts array) (subst (λ (k : ℕ). k < 256) (sym flags) (small 2)) versions in
    let kinds : AllMarshal 64 endian 1 kind_types (kind_values count parts array) (parts.kind ∷ parts.flags ∷ 1 ∷ from_length) =
    byte_then endian 1 parts.kind (parts.flags ∷ 1 ∷ from_length) flag_types (flag_values count parts array) (subst (λ (k : ℕ). k < 256) (sym kind) (small 1)) flagged in
    let marks : AllMarshal 64 endian 0 header_types (header_values (get_or bytes 0 0) count parts array) (get_or bytes 0 0 ∷ parts.kind ∷ parts.flags ∷ 1 ∷ from_length) =
    byte_then endian 0 (get_or bytes 0 0) (parts.kind ∷ parts.flags ∷ 1 ∷ from_length) kind_types (kind_values count parts array) (small 0) kinds in
    let same : take (fields_end endian bytes) bytes ≡ get_or bytes 0 0 ∷ parts.kind ∷ parts.flags ∷ 1 ∷ from_length =
    front_parts bytes (word_at endian 12 bytes) long
    ∙ four_same (get_or bytes 0 0) (get_or bytes 1 0) (get_or bytes 2 0) (get_or bytes 3 0) parts.kind parts.flags 1 from_length (sym kind) (sym flags) version in
    subst (λ (x : List ℕ). AllMarshal 64 endian 0 header_types (header_values (get_or bytes 0 0) count parts array) x) (sym same) marks

-- ---- the whole

all_zero : (bytes : List ℕ) → are_zero bytes ≡ true → bytes ≡ zeros (length bytes)
all_zero [] clear = refl
all_zero (b ∷ bytes) clear =
    let both = and_parts (b == 0) (are_zero bytes) clear in
    rw (eqb-true b 0 both.0) (ap (λ (x : List ℕ). 0 ∷ x) (all_zero bytes both.1))

-- there are zeros between two positions
gap : (bytes : List ℕ) (from n : ℕ) → from + n ≤ length bytes → are_zero (take n (drop from bytes)) ≡ true → bytes ≡ take from bytes ++ (zeros n ++ drop (from + n) bytes)
gap bytes from n fits clear =
    let long : length (take n (drop from bytes)) ≡ n = length-take-le n (drop from bytes) (omega (arith, fits, length-drop from bytes)) in
    let blank : take n (drop from bytes) ≡ zeros n = all_zero (take n (drop from bytes)) clear ∙ ap zeros long in
    let rest : drop from bytes ≡ zeros n ++ drop (from + n) bytes =
    sym (take-append-drop n (drop from bytes)) ∙ ap (λ (x : List ℕ). x ++ drop n (drop from bytes)) blank ∙ ap (λ (x : List ℕ). zeros n ++ x) (drop-drop n from bytes) in
    sym (take-append-drop from bytes) ∙ ap (λ (x : List ℕ). take from bytes ++ x) rest

pub header_and_body : (most : ℕ) (bytes : List ℕ) (parts : Parts) → IsBytes bytes → IsMessage most bytes parts → IsHeaderAndBody bytes parts
header_and_body most bytes parts small m =
    let w = word_at m.endian 12 bytes in
    let n = padding 8 w in
    let from = fields_end m.endian bytes in
    let fits : from + n ≤ length bytes = omega (arith, m.whole) in
    let front : length (take from bytes) ≡ from = length-take-le from bytes (omega (arith, fits)) in
    let same : padding 8 (length (take from bytes)) ≡ n = ap (padding 8) front ∙ omega arith in
    let count : length (drop (body_start m.endian bytes) bytes) ≡ word_at m.endian 4 bytes = omega (arith, m.whole, length-drop (body_start m.endian bytes) bytes) in
    record {
      endian = m.endian;
      mark = get_or bytes 0 0;
      array = m.headed.array;
      fields = m.fields;
      header = take from bytes;
      body = drop (body_start m.endian bytes) bytes;
      marked = m.marked;
      whole = rw same (gap bytes from n fits m.headed.padded);
      headed = rw count (header_spelled m.endian bytes parts m.headed.array small m.begun (ap (λ (p : Parts). p.kind) m.says) (ap (λ (p : Parts). p.flags) m.says) m.version
          (ap (λ (p : Parts). p.serial) m.says) m.headed.spelled);
      listed = m.headed.are;
      bodied = rw (ap (λ (p : Parts). p.body) m.says) m.bodied;
    }
