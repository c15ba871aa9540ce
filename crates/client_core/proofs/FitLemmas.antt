-- In values whose spelling is short no text and no array is too long.
use Rattle.std.proofs.Common.{◌≡◌, ℕ, ◌≤◌, ◌&&◌, nat_le, Bool, true, false, List, [], ◌∷◌, ◌++◌, length, refl, arith, length-append}
use Rattle.std.specs.Int.{w32}
use Rattle.std.specs.Int as int
use Rattle.std.proofs.lemmas.Bool.{le-leb}
use Rattle.dbus_types.specs.declared.complete_type.BasicType.{BasicType}
use Rattle.dbus_types.specs.declared.complete_type.BasicType.TheVariants as basics
use Rattle.dbus_types.specs.declared.endian.Endian.TheVariants.{Little}
use Rattle.dbus_types.specs.Types.{text_of}
use Rattle.dbus_types.specs.Values.{Val, Vals, ty_of}
use Rattle.dbus_marshal.specs.Limits.{array_limit}
use Rattle.dbus_marshal.specs.Wire.{width_of, alignment_of, padding, behind, start_of, zeros, number_bytes}
use Rattle.dbus_marshal.specs.Spelling.{text_spelled, first_at, spelled, all_spelled, is_short, are_short}

-- ---- lengths

text_long : (b : BasicType) (text : List ℕ) (place : ℕ) → length text ≤ length (text_spelled Little b text place)
text_long b text place =
    let Z = zeros (padding (int.byte_len (width_of b)) place) in
    let N = number_bytes Little (width_of b) (length text) in
    omega (arith, length-append Z (N ++ (text ++ 0 ∷ [])), length-append N (text ++ 0 ∷ []), length-append text (0 ∷ []))

array_long : (a n z : ℕ) (elements : List ℕ) → length elements ≤ length (zeros a ++ (number_bytes Little w32 n ++ (zeros z ++ elements)))
array_long a n z elements =
    let N = number_bytes Little w32 n in
    omega (arith, length-append (zeros a) (N ++ (zeros z ++ elements)), length-append N (zeros z ++ elements), length-append (zeros z) elements)

abbrev mutual
  -- each text in the value has at most this many bytes
  pub Within : ℕ → Val → Type 0
  Within most (Val.number b n) = Unit {0}
  Within most (Val.text b text) = length text ≤ most
  Within most (Val.variant v) = Within most v
  Within most (Val.array t vs) = AllWithin most vs
  Within most (Val.bytes them) = Unit {0}
  Within most (Val.struct vs) = AllWithin most vs
  Within most (Val.entry key v) = Within most key × Within most v

  -- each text in a list of values has
  pub AllWithin : ℕ → Vals → Type 0
  AllWithin most Vals.end = Unit {0}
  AllWithin most (Vals.more v vs) = Within most v × AllWithin most vs

mutual
  within : (most : ℕ) (v : Val) (place : ℕ) → length (spelled Little v place) ≤ most → Within most v
  within most (Val.number b n) place few = tt
  within most (Val.text b text) place few = omega (arith, text_long b text place, few)
  within most (Val.variant v) place few =
      let S = text_spelled Little basics.Signature (text_of (ty_of v)) place in
      within most v (behind place (length S)) (omega (arith, length-append S (spelled Little v (behind place (length S))), few))
  within most (Val.array t vs) place few =
      let E = all_spelled Little vs (first_at (alignment_of t) place) in
      all_within most vs (first_at (alignment_of t) place) (omega (arith, array_long (padding 4 place) (length E) (padding (alignment_of t) (behind (start_of 4 place) 4)) E, few))
  within most (Val.bytes them) place few = tt
  within most (Val.struct vs) place few =
      let E = all_spelled Little vs (start_of 8 place) in
      all_within most vs (start_of 8 place) (omega (arith, length-append (zeros (padding 8 place)) E, few))
  within most (Val.entry key v) place few =
      let K = spelled Little key (start_of 8 place) in
      let V = spelled Little v (behind (start_of 8 place) (length K)) in (
        within most key (start_of 8 place) (omega (arith, length-append (zeros (padding 8 place)) (K ++ V), length-append K V, few)),
        within most v (behind (start_of 8 place) (length K)) (omega (arith, length-append (zeros (padding 8 place)) (K ++ V), length-append K V, few)),
      )

  pub all_within : (most : ℕ) (vs : Vals) (place : ℕ) → length (all_spelled Little vs place) ≤ most → AllWithin most vs
  all_within most Vals.end place few = tt
  all_within most (Vals.more v vs) place few =
      let F = spelled Little v place in
      let R = all_spelled Little vs (behind place (length F)) in
      (within most v place (omega (arith, length-append F R, few)), all_within most vs (behind place (length F)) (omega (arith, length-append F R, few)))

both_true : (a b : Bool) → a ≡ true → b ≡ true → (a && b) ≡ true
both_true true b p q = q
both_true false b p q = p

mutual
  short : (v : Val) (place : ℕ) → length (spelled Little v place) ≤ array_limit → is_short Little v place ≡ true
  short (Val.number b n) place few = refl
  short (Val.text b text) place few = refl
  short (Val.variant v) place few =
      let S = text_spelled Little basics.Signature (text_of (ty_of v)) place in
      short v (behind place (length S)) (omega (arith, length-append S (spelled Little v (behind place (length S))), few))
  short (Val.array t vs) place few =
      let first = first_at (alignment_of t) place in
      let E = all_spelled Little vs first in
      let fewer : length E ≤ array_limit = omega (arith, array_long (padding 4 place) (length E) (padding (alignment_of t) (behind (start_of 4 place) 4)) E, few) in
      both_true (are_short Little vs first) (nat_le (length E) array_limit) (all_short vs first fewer) (le-leb (length E) array_limit fewer)
  short (Val.bytes them) place few =
      le-leb (length them) array_limit (omega (arith, array_long (padding 4 place) (length them) (padding 1 (behind (start_of 4 place) 4)) them, few))
  short (Val.struct vs) place few =
      all_short vs (start_of 8 place) (omega (arith, length-append (zeros (padding 8 place)) (all_spelled Little vs (start_of 8 place)), few))
  short (Val.entry key v) place few =
      let K = spelled Little key (start_of 8 place) in
      let there = behind (start_of 8 place) (length K) in
      let V = spelled Little v there in
      both_true (is_short Little key (start_of 8 place)) (is_short Little v there)
      (short key (start_of 8 place) (omega (arith, length-append (zeros (padding 8 place)) (K ++ V), length-append K V, few)))
      (short v there (omega (arith, length-append (zeros (padding 8 place)) (K ++ V), length-append K V, few)))

  -- no array is too long in values that are short together
  pub all_short : (vs : Vals) (place : ℕ) → length (all_spelled Little vs place) ≤ array_limit → are_short Little vs place ≡ true
  all_short Vals.end place few = refl
  all_short (Vals.more v vs) place few =
      let F = spelled Little v place in
      let R = all_spelled Little vs (behind place (length F)) in
      both_true (is_short Little v place) (are_short Little vs (behind place (length F))) (short v place (omega (arith, length-append F R, few)))
      (all_short vs (behind place (length F)) (omega (arith, length-append F R, few)))
