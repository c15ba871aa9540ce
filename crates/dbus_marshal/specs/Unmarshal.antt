-- D-Bus Specification, "Marshaling": how values are read from the left, and the first fault.
use Rattle.std.specs.Prelude.{ℕ, zero, suc, ◌+◌, ◌==◌, ◌&&◌, ◌≡◌, nat_lt, Bool, true, false, List, [], ◌∷◌, length, take, drop, slice_index, Result, Ok, Err, if◌then◌else◌}
use Rattle.std.specs.Int.{Width, w8, w32, byte_len}
use Rattle.dbus_types.specs.declared.complete_type.BasicType.{BasicType}
use Rattle.dbus_types.specs.declared.complete_type.BasicType.TheVariants as basics
use Rattle.dbus_types.specs.declared.endian.Endian.{Endian}
use Rattle.dbus_types.specs.declared.signature.SignatureFault.{SignatureFault}
use Rattle.dbus_types.specs.Types.{Ty, Tys, texts_of}
use Rattle.dbus_types.specs.Signatures.{◌>>=◌, signature_at}
use Rattle.dbus_types.specs.Paths.{is_object_path}
use Rattle.dbus_types.specs.Values.{Val, Vals}
use Rattle.dbus_marshal.specs.Limits.{array_limit, depth_limit}
use Rattle.dbus_marshal.specs.declared.refused.ValueFault.{ValueFault}
use Rattle.dbus_marshal.specs.declared.refused.ValueFault.TheVariants.{Short, Padding, BadBool, BadText, BadPath, BadSignature, ArrayTooLong, TooDeep, Rest, OutOfMemory}
use Rattle.dbus_marshal.specs.Wire.{width_of, alignment_of, padding, behind, number_from, is_text, is_byte}

-- the fault is the result of reading, unless memory ran out
abbrev pub Refuses : {Y : Type 0} → ValueFault → Result Y ValueFault → Type 0
Refuses Short read = read ≡ Err Short
Refuses Padding read = read ≡ Err Padding
Refuses BadBool read = read ≡ Err BadBool
Refuses BadText read = read ≡ Err BadText
Refuses BadPath read = read ≡ Err BadPath
Refuses BadSignature read = read ≡ Err BadSignature
Refuses ArrayTooLong read = read ≡ Err ArrayTooLong
Refuses TooDeep read = read ≡ Err TooDeep
Refuses Rest read = read ≡ Err Rest
Refuses OutOfMemory read = Unit {0}

-- what a function returned, seen by the view, is the result of reading, unless memory ran out
abbrev pub Reads : {X Y : Type 0} → (X → Y) → Result X ValueFault → Result Y ValueFault → Type 0
Reads view (Ok x) read = read ≡ Ok (view x)
Reads view (Err e) read = Refuses e read

-- where reading is: the position modulo 8, and the bytes from there on
pub record Spot : Type 0 where
  pub place : ℕ
  pub left : List ℕ

-- this many bytes further on
abbrev pub further : ℕ → Spot → Spot
further count spot = record { place = behind spot.place count; left = drop count spot.left }

-- a reader: what it read, and where it is then
abbrev pub Reader : Type 0 → Type 0
Reader A = Spot → Result (A × Spot) ValueFault

-- this many bytes, or Short if they aren't all there
unfoldable pub bytes_at : ℕ → Reader (List ℕ)
bytes_at count spot = if nat_lt (length spot.left) count then Err Short else Ok (take count spot.left, further count spot)

-- all of the bytes are zero
abbrev pub are_zero : List ℕ → Bool
are_zero [] = true
are_zero (b ∷ bytes) = b == 0 && are_zero bytes

-- Padding to the alignment. The bytes that are there must be zero; after that, all must be there.
unfoldable pub padding_at : ℕ → Spot → Result Spot ValueFault
padding_at alignment spot =
    if are_zero (take (padding alignment spot.place) spot.left)
    then (bytes_at (padding alignment spot.place) spot >>= λ x. Ok x.1)
    else Err Padding

-- a number with its padding
unfoldable pub number_at : Endian → Width → Reader ℕ
number_at endian width spot = padding_at (byte_len width) spot >>= λ start. bytes_at (byte_len width) start >>= λ x. Ok (number_from endian width x.0, x.1)

-- the basic types that are numbers
abbrev pub is_number : BasicType → Bool
is_number basics.String = false
is_number basics.ObjectPath = false
is_number basics.Signature = false
is_number b = true

-- a number of a basic type: a boolean is 0 or 1
unfoldable pub basic_number_at : Endian → BasicType → Reader Val
basic_number_at endian basics.Boolean spot =
    number_at endian w32 spot >>= λ n. if nat_lt 1 n.0 then Err BadBool else Ok (Val.number basics.Boolean n.0, n.1)
basic_number_at endian b spot = number_at endian (width_of b) spot >>= λ n. Ok (Val.number b n.0, n.1)

-- this many bytes, and after them one that is zero, or this fault
unfoldable pub ended_at : ValueFault → ℕ → Reader (List ℕ)
ended_at fault count spot = bytes_at (count + 1) spot >>= λ x. if slice_index x.0 count == 0 then Ok (take count x.0, x.1) else Err fault

-- a string: its length, its bytes and a zero byte
unfoldable pub string_at : Endian → Reader (List ℕ)
string_at endian spot =
    number_at endian w32 spot >>= λ n. ended_at BadText n.0 n.1 >>= λ x. if is_text x.0 then Ok x else Err BadText

-- an object path is a string that has the form of a path
unfoldable pub path_at : Endian → Reader (List ℕ)
path_at endian spot = string_at endian spot >>= λ x. if is_object_path x.0 then Ok x else Err BadPath

-- the types that a signature lists, or the fault of a value
abbrev pub listed : Result Tys SignatureFault → Result Tys ValueFault
listed (Ok ts) = Ok ts
listed (Err fault) = Err BadSignature

-- a signature: its length in one byte, its bytes and a zero byte
unfoldable pub signature_value_at : Endian → Reader Tys
signature_value_at endian spot =
    number_at endian w8 spot >>= λ n. ended_at BadSignature n.0 n.1 >>= λ x. listed (signature_at x.0) >>= λ ts. Ok (ts, x.1)

-- a value of a basic type
unfoldable pub basic_at : Endian → BasicType → Reader Val
basic_at endian basics.String spot = string_at endian spot >>= λ x. Ok (Val.text basics.String x.0, x.1)
basic_at endian basics.ObjectPath spot = path_at endian spot >>= λ x. Ok (Val.text basics.ObjectPath x.0, x.1)
basic_at endian basics.Signature spot = signature_value_at endian spot >>= λ x. Ok (Val.text basics.Signature (texts_of x.0), x.1)
basic_at endian b spot = basic_number_at endian b spot

-- the one type of a variant's signature
abbrev pub only_type : Tys → Result Ty ValueFault
only_type Tys.end = Err BadSignature
only_type (Tys.more t Tys.end) = Ok t
only_type (Tys.more t (Tys.more u ts)) = Err BadSignature

-- a variant, by the reader of each type
unfoldable pub variant_by : (Ty → Reader Val) → Endian → Reader Val
variant_by read endian spot =
    signature_value_at endian spot >>= λ s. only_type s.0 >>= λ t. read t s.1 >>= λ v. Ok (Val.variant v.0, v.1)

-- values after others
abbrev pub values_then : Vals → Vals → Vals
values_then Vals.end ws = ws
values_then (Vals.more v vs) ws = Vals.more v (values_then vs ws)

-- what is read after values that were read before
abbrev pub with_values : Vals → Result Vals ValueFault → Result Vals ValueFault
with_values front read = read >>= λ vs. Ok (values_then front vs)

-- the same, with where reading is then
abbrev pub with_fields : Vals → Result (Vals × Spot) ValueFault → Result (Vals × Spot) ValueFault
with_fields front read = read >>= λ vs. Ok (values_then front vs.0, vs.1)

-- Elements up to the end of the bytes, which the last argument shows. There are at most as many elements as bytes.
unfoldable pub elements_from : Reader Val → ℕ → Spot → List ℕ → Result Vals ValueFault
elements_from read n spot [] = Ok Vals.end
elements_from read zero spot (b ∷ bytes) = Err Short
elements_from read (suc n) spot (b ∷ bytes) = read spot >>= λ v. elements_from read n v.1 v.1.left >>= λ vs. Ok (Vals.more v.0 vs)

-- an array of the elements that all of the bytes spell, or of the bytes themselves
unfoldable pub elements_of : Reader Val → Ty → Spot → Result Val ValueFault
elements_of read t spot =
    if is_byte t then Ok (Val.bytes spot.left) else (elements_from read (length spot.left) spot spot.left >>= λ vs. Ok (Val.array t vs))

-- An array: its length, the padding to its first element, and the elements, which see only the array's bytes.
unfoldable pub array_by : Reader Val → Endian → Ty → Reader Val
array_by read endian t spot =
    number_at endian w32 spot >>= λ n.
    if nat_lt array_limit n.0 then Err ArrayTooLong
    else (padding_at (alignment_of t) n.1 >>= λ start. bytes_at n.0 start >>= λ x. elements_of read t (record { place = start.place; left = x.0 }) >>= λ v. Ok (v, x.1))

-- values of the types, one after the other
unfoldable pub fields_by : (Ty → Reader Val) → Tys → Reader Vals
fields_by read Tys.end spot = Ok (Vals.end, spot)
fields_by read (Tys.more t ts) spot = read t spot >>= λ v. fields_by read ts v.1 >>= λ vs. Ok (Vals.more v.0 vs.0, vs.1)

-- a struct: padding, and its fields
unfoldable pub struct_by : (Ty → Reader Val) → Tys → Reader Val
struct_by read ts spot = padding_at 8 spot >>= λ start. fields_by read ts start >>= λ vs. Ok (Val.struct vs.0, vs.1)

-- a dict entry: padding, its key and its value
unfoldable pub entry_by : (Ty → Reader Val) → Endian → BasicType → Ty → Reader Val
entry_by read endian key t spot =
    padding_at 8 spot >>= λ start. basic_at endian key start >>= λ k. read t k.1 >>= λ v. Ok (Val.entry k.0 v.0, v.1)

-- A value in which at most this many arrays, structs, dict entries and variants are open at once. One too many is
-- TooDeep before anything of it is looked at.
unfoldable pub value_at : ℕ → Endian → Ty → Reader Val
value_at depth endian (Ty.basic b) spot = basic_at endian b spot
value_at zero endian Ty.variant spot = Err TooDeep
value_at (suc depth) endian Ty.variant spot = variant_by (value_at depth endian) endian spot
value_at zero endian (Ty.array t) spot = Err TooDeep
value_at (suc depth) endian (Ty.array t) spot = array_by (value_at depth endian t) endian t spot
value_at zero endian (Ty.struct ts) spot = Err TooDeep
value_at (suc depth) endian (Ty.struct ts) spot = struct_by (value_at depth endian) ts spot
value_at zero endian (Ty.entry key t) spot = Err TooDeep
value_at (suc depth) endian (Ty.entry key t) spot = entry_by (value_at depth endian) endian key t spot

-- values of the types, which all of the bytes spell
unfoldable pub values_at : Endian → Tys → Spot → Result Vals ValueFault
values_at endian ts spot = fields_by (value_at depth_limit endian) ts spot >>= λ vs. if nat_lt 0 (length vs.1.left) then Err Rest else Ok vs.0
