-- How many bytes values have at most, wherever they are put.
use Rattle.std.proofs.Common.{ℕ, ◌+◌, ◌≤◌, List, [], ◌∷◌, ◌++◌, length, arith, length-append}
use Rattle.std.specs.Int.{w8, w32, w64}
use Rattle.dbus_types.specs.declared.complete_type.BasicType.TheVariants as basics
use Rattle.dbus_types.specs.declared.endian.Endian.TheVariants.{Little}
use Rattle.dbus_types.specs.Types.{Ty, Tys, text_of}
use Rattle.dbus_types.specs.Values.{Val, Vals, ty_of}
use Rattle.dbus_marshal.specs.Wire.{padding, behind, start_of, zeros, number_bytes}
use Rattle.dbus_marshal.specs.Spelling.{text_spelled, first_at, spelled, all_spelled}
use Rattle.dbus_marshal.proofs.WritingLemmas.{zeros_long}

-- a value has at most this many bytes
pub record AtMost (most : ℕ) (v : Val) : Type 0 where
  pub few : (place : ℕ) → length (spelled Little v place) ≤ most

-- values, one after the other, have
pub record AllAtMost (most : ℕ) (vs : Vals) : Type 0 where
  pub few : (place : ℕ) → length (all_spelled Little vs place) ≤ most

pub end-most : AllAtMost 0 Vals.end
end-most = record { few = λ place. omega arith }

pub more-most : {one more : ℕ} {v : Val} {vs : Vals} → AtMost one v → AllAtMost more vs → AllAtMost (one + more) (Vals.more v vs)
more-most {one} {more} {v} {vs} first rest = record {
  few = λ place. (
      let V = spelled Little v place in
      let there = behind place (length V) in
      omega (arith, first.few place, rest.few there, length-append V (all_spelled Little vs there))
      );
}

-- ---- numbers and texts

pub byte-most : (n : ℕ) → AtMost 1 (Val.number basics.Byte n)
unfolding number_bytes
byte-most n = record { few = λ place. omega (arith, zeros_long (padding 1 place), length-append (zeros (padding 1 place)) (number_bytes Little w8 n)) }

pub word-most : (n : ℕ) → AtMost 7 (Val.number basics.Uint32 n)
unfolding number_bytes
word-most n = record { few = λ place. omega (arith, zeros_long (padding 4 place), length-append (zeros (padding 4 place)) (number_bytes Little w32 n)) }

pub long-most : (n : ℕ) → AtMost 15 (Val.number basics.Uint64 n)
unfolding number_bytes
long-most n = record { few = λ place. omega (arith, zeros_long (padding 8 place), length-append (zeros (padding 8 place)) (number_bytes Little w64 n)) }

text-few : (text : List ℕ) (place : ℕ) → length (text_spelled Little basics.String text place) ≤ length text + 8
unfolding number_bytes
text-few text place =
    let Z = zeros (padding 4 place) in
    let N = number_bytes Little w32 (length text) in
    omega (arith, zeros_long (padding 4 place), length-append Z (N ++ (text ++ 0 ∷ [])), length-append N (text ++ 0 ∷ []), length-append text (0 ∷ []))

pub text-most : (text : List ℕ) → AtMost (length text + 8) (Val.text basics.String text)
text-most text = record { few = λ place. text-few text place }

pub path-most : (text : List ℕ) → AtMost (length text + 8) (Val.text basics.ObjectPath text)
path-most text = record { few = λ place. text-few text place }

signature-few : (text : List ℕ) (place : ℕ) → length (text_spelled Little basics.Signature text place) ≤ length text + 2
unfolding number_bytes
signature-few text place =
    let Z = zeros (padding 1 place) in
    let N = number_bytes Little w8 (length text) in
    omega (arith, zeros_long (padding 1 place), length-append Z (N ++ (text ++ 0 ∷ [])), length-append N (text ++ 0 ∷ []), length-append text (0 ∷ []))

pub signature-most : (text : List ℕ) → AtMost (length text + 2) (Val.text basics.Signature text)
signature-most text = record { few = λ place. signature-few text place }

-- ---- containers

pub variant-most : {most : ℕ} {v : Val} → AtMost most v → AtMost (length (text_of (ty_of v)) + 2 + most) (Val.variant v)
variant-most {most} {v} held = record {
  few = λ place. (
      let S = text_spelled Little basics.Signature (text_of (ty_of v)) place in
      let there = behind place (length S) in
      omega (arith, signature-few (text_of (ty_of v)) place, held.few there, length-append S (spelled Little v there))
      );
}

pub struct-most : {most : ℕ} {vs : Vals} → AllAtMost most vs → AtMost (7 + most) (Val.struct vs)
struct-most {most} {vs} parts = record {
  few = λ place. (
      let Z = zeros (padding 8 place) in
      omega (arith, zeros_long (padding 8 place), parts.few (start_of 8 place), length-append Z (all_spelled Little vs (start_of 8 place)))
      );
}

-- an array of structs
pub array-most : {most : ℕ} {ts : Tys} {vs : Vals} → AllAtMost most vs → AtMost (14 + most) (Val.array (Ty.struct ts) vs)
unfolding number_bytes
array-most {most} {ts} {vs} elements = record {
  few = λ place. (
      let first = behind (start_of 4 place) 4 in
      let E = all_spelled Little vs (first_at 8 place) in
      let N = number_bytes Little w32 (length E) in
      let Z = zeros (padding 4 place) in
      let Y = zeros (padding 8 first) in
      omega (arith, zeros_long (padding 4 place), zeros_long (padding 8 first), elements.few (first_at 8 place), length-append Z (N ++ (Y ++ E)), length-append N (Y ++ E), length-append Y E)
      );
}
