-- Values take at most two parts of memory for each of their bytes, and what their types take.
use Rattle.std.proofs.Common.{◌≡◌, ℕ, zero, suc, ◌+◌, ◌*◌, ◌<◌, ◌≤◌, ◌&&◌, Bool, true, false, List, [], ◌∷◌, ◌++◌, length, refl, sym, subst, arith, length-append}
use Rattle.std.specs.Int.{w32, byte_len}
use Rattle.dbus_types.specs.declared.complete_type.BasicType.{BasicType}
use Rattle.dbus_types.specs.declared.complete_type.BasicType.TheVariants as basics
use Rattle.dbus_types.specs.declared.endian.Endian.{Endian}
use Rattle.dbus_types.specs.Types.{Ty, Tys, has_type, text_of, texts_of}
use Rattle.dbus_types.specs.Values.{Val, Vals, ty_of}
use Rattle.dbus_marshal.specs.Wire.{width_of, alignment_of, padding, behind, start_of, zeros, number_bytes}
use Rattle.dbus_marshal.specs.Held.{type_parts, types_parts, parts, all_parts, inner_parts, all_inner_parts}
use Rattle.dbus_marshal.specs.Fitting.{Fits, AllFit, EachFits}
use Rattle.dbus_marshal.specs.Spelling.{text_spelled, first_at, spelled, all_spelled}
use Rattle.dbus_marshal.proofs.Taking.{wide8, wide16, wide32, wide64}
use Rattle.dbus_marshal.proofs.AgainValues.{is_solid, are_solid, one_solid, some_bytes}

both : (a b : Bool) → (a && b) ≡ true → (a ≡ true) × (b ≡ true)
both true b e = (refl, e)
both false b e = absurd cc

-- ---- types and texts

mutual
  type_few : (t : Ty) → type_parts t ≤ length (text_of t)
  type_few (Ty.basic b) = omega arith
  type_few Ty.variant = omega arith
  type_few (Ty.array t) = omega (arith, type_few t)
  type_few (Ty.struct ts) = omega (arith, types_few ts, length-append (texts_of ts) (41 ∷ []))
  type_few (Ty.entry key t) = omega (arith, type_few t, length-append (text_of t) (125 ∷ []))

  types_few : (ts : Tys) → types_parts ts ≤ length (texts_of ts)
  types_few Tys.end = omega arith
  types_few (Tys.more t ts) = omega (arith, type_few t, types_few ts, length-append (text_of t) (texts_of ts))

width_some : (endian : Endian) (b : BasicType) (n : ℕ) → 1 ≤ length (number_bytes endian (width_of b) n)
width_some endian basics.Byte n = omega (arith, wide8.len endian n)
width_some endian basics.Boolean n = omega (arith, wide32.len endian n)
width_some endian basics.Int16 n = omega (arith, wide16.len endian n)
width_some endian basics.Uint16 n = omega (arith, wide16.len endian n)
width_some endian basics.Int32 n = omega (arith, wide32.len endian n)
width_some endian basics.Uint32 n = omega (arith, wide32.len endian n)
width_some endian basics.Int64 n = omega (arith, wide64.len endian n)
width_some endian basics.Uint64 n = omega (arith, wide64.len endian n)
width_some endian basics.Double n = omega (arith, wide64.len endian n)
width_some endian basics.UnixFd n = omega (arith, wide32.len endian n)
width_some endian basics.String n = omega (arith, wide32.len endian n)
width_some endian basics.ObjectPath n = omega (arith, wide32.len endian n)
width_some endian basics.Signature n = omega (arith, wide8.len endian n)

text_long : (endian : Endian) (b : BasicType) (text : List ℕ) (place : ℕ) → length text + 2 ≤ length (text_spelled endian b text place)
text_long endian b text place =
    let Z = zeros (padding (byte_len (width_of b)) place) in
    let N = number_bytes endian (width_of b) (length text) in
    omega (arith, width_some endian b (length text), length-append Z (N ++ (text ++ 0 ∷ [])), length-append N (text ++ 0 ∷ []), length-append text (0 ∷ []))

-- four bytes for the length of an array
array_long : (endian : Endian) (a n z : ℕ) (elements : List ℕ) → length elements + 4 ≤ length (zeros a ++ (number_bytes endian w32 n ++ (zeros z ++ elements)))
array_long endian a n z elements =
    let N = number_bytes endian w32 n in
    omega (arith, wide32.len endian n, length-append (zeros a) (N ++ (zeros z ++ elements)), length-append N (zeros z ++ elements), length-append (zeros z) elements)

padded_long : (a : ℕ) (bytes : List ℕ) → length bytes ≤ length (zeros a ++ bytes)
padded_long a bytes = omega (arith, length-append (zeros a) bytes)

-- the number of values
abbrev number_of : Vals → ℕ
number_of Vals.end = 0
number_of (Vals.more v vs) = 1 + number_of vs

-- ---- values

mutual
  inner_few : (depth : ℕ) (endian : Endian) (t : Ty) (v : Val) (place : ℕ) → is_solid t ≡ true → Fits depth t v → inner_parts v + 1 ≤ 2 * length (spelled endian v place)
  inner_few depth endian (Ty.basic b) (Val.number c n) place solid f = omega (arith, some_bytes depth endian (Ty.basic b) (Val.number c n) place solid f)
  inner_few depth endian (Ty.basic b) (Val.text c text) place solid f = omega (arith, text_long endian c text place)
  inner_few zero endian Ty.variant (Val.variant v) place solid f = absurd f
  inner_few (suc fewer) endian Ty.variant (Val.variant v) place solid f =
      let F = text_spelled endian basics.Signature (text_of (ty_of v)) place in
      let V = spelled endian v (behind place (length F)) in
      omega (arith, plain_few fewer endian (ty_of v) v (behind place (length F)) (one_solid (ty_of v) f.0) f.1, text_long endian basics.Signature (text_of (ty_of v)) place, length-append F V)
  inner_few zero endian (Ty.array t) (Val.array u vs) place solid f = absurd f
  inner_few (suc fewer) endian (Ty.array t) (Val.array u vs) place solid f =
      let E = all_spelled endian vs (first_at (alignment_of u) place) in
      omega (arith, each_few fewer endian t vs (first_at (alignment_of u) place) solid f.1, array_long endian (padding 4 place) (length E) (padding (alignment_of u) (behind (start_of 4 place) 4)) E)
  inner_few depth endian (Ty.array t) (Val.bytes them) place solid f = omega (arith, array_long endian (padding 4 place) (length them) (padding 1 (behind (start_of 4 place) 4)) them)
  inner_few zero endian (Ty.struct ts) (Val.struct vs) place solid f = absurd f
  inner_few (suc fewer) endian (Ty.struct Tys.end) (Val.struct vs) place solid f = absurd cc
  inner_few (suc fewer) endian (Ty.struct (Tys.more t ts)) (Val.struct Vals.end) place solid f = absurd f
  inner_few (suc fewer) endian (Ty.struct (Tys.more t ts)) (Val.struct (Vals.more v Vals.end)) place solid f =
      let S = spelled endian v (start_of 8 place) in
      omega (arith, inner_few fewer endian t v (start_of 8 place) (both (is_solid t) (are_solid ts) solid).0 f.0, padded_long (padding 8 place) (S ++ []), length-append S [])
  inner_few (suc fewer) endian (Ty.struct (Tys.more t ts)) (Val.struct (Vals.more v (Vals.more w vs))) place solid f =
      let E = all_spelled endian (Vals.more v (Vals.more w vs)) (start_of 8 place) in
      omega (arith, all_inner_few fewer endian (Tys.more t ts) (Vals.more v (Vals.more w vs)) (start_of 8 place) solid f, padded_long (padding 8 place) E)
  inner_few zero endian (Ty.entry key t) (Val.entry k v) place solid f = absurd f
  inner_few (suc fewer) endian (Ty.entry key t) (Val.entry k v) place solid f =
      let K = spelled endian k (start_of 8 place) in
      let V = spelled endian v (behind (start_of 8 place) (length K)) in
      omega (arith, inner_few fewer endian (Ty.basic key) k (start_of 8 place) refl f.0, inner_few fewer endian t v (behind (start_of 8 place) (length K)) solid f.1, padded_long (padding 8 place) (K ++ V), length-append K V)
  inner_few depth endian t v place solid f = absurd f

  all_inner_few : (depth : ℕ) (endian : Endian) (ts : Tys) (vs : Vals) (place : ℕ) → are_solid ts ≡ true → AllFit depth ts vs → all_inner_parts vs + number_of vs ≤ 2 * length (all_spelled endian vs place)
  all_inner_few depth endian Tys.end Vals.end place solid f = omega arith
  all_inner_few depth endian (Tys.more t ts) (Vals.more v vs) place solid f =
      let solids = both (is_solid t) (are_solid ts) solid in
      let F = spelled endian v place in
      let R = all_spelled endian vs (behind place (length F)) in
      omega (arith, inner_few depth endian t v place solids.0 f.0, all_inner_few depth endian ts vs (behind place (length F)) solids.1 f.1, length-append F R)
  all_inner_few depth endian ts vs place solid f = absurd f

  each_few : (depth : ℕ) (endian : Endian) (t : Ty) (vs : Vals) (place : ℕ) → is_solid t ≡ true → EachFits depth t vs → all_inner_parts vs + number_of vs ≤ 2 * length (all_spelled endian vs place)
  each_few depth endian t Vals.end place solid f = omega arith
  each_few depth endian t (Vals.more v vs) place solid f =
      let F = spelled endian v place in
      let R = all_spelled endian vs (behind place (length F)) in
      omega (arith, inner_few depth endian t v place solid f.0, each_few depth endian t vs (behind place (length F)) solid f.1, length-append F R)

  plain_few : (depth : ℕ) (endian : Endian) (t : Ty) (v : Val) (place : ℕ) → is_solid t ≡ true → Fits depth t v → parts v ≤ 2 * length (spelled endian v place) + length (text_of t)
  plain_few depth endian (Ty.basic b) (Val.number c n) place solid f = omega (arith, some_bytes depth endian (Ty.basic b) (Val.number c n) place solid f)
  plain_few depth endian (Ty.basic b) (Val.text c text) place solid f = omega (arith, text_long endian c text place)
  plain_few zero endian Ty.variant (Val.variant v) place solid f = absurd f
  plain_few (suc fewer) endian Ty.variant (Val.variant v) place solid f =
      let F = text_spelled endian basics.Signature (text_of (ty_of v)) place in
      let V = spelled endian v (behind place (length F)) in
      omega (arith, plain_few fewer endian (ty_of v) v (behind place (length F)) (one_solid (ty_of v) f.0) f.1, text_long endian basics.Signature (text_of (ty_of v)) place, length-append F V)
  plain_few zero endian (Ty.array t) (Val.array u vs) place solid f = absurd f
  plain_few (suc fewer) endian (Ty.array t) (Val.array u vs) place solid f =
      let E = all_spelled endian vs (first_at (alignment_of u) place) in
      subst (λ (k : Ty). 1 + (type_parts k + all_inner_parts vs) ≤ 2 * length (spelled endian (Val.array u vs) place) + length (text_of (Ty.array t))) (sym f.0)
      (omega (arith, type_few t, each_few fewer endian t vs (first_at (alignment_of u) place) solid f.1, array_long endian (padding 4 place) (length E) (padding (alignment_of u) (behind (start_of 4 place) 4)) E))
  plain_few depth endian (Ty.array t) (Val.bytes them) place solid f = omega (arith, array_long endian (padding 4 place) (length them) (padding 1 (behind (start_of 4 place) 4)) them)
  plain_few zero endian (Ty.struct ts) (Val.struct vs) place solid f = absurd f
  plain_few (suc fewer) endian (Ty.struct ts) (Val.struct vs) place solid f =
      let E = all_spelled endian vs (start_of 8 place) in
      omega (arith, all_plain_few fewer endian ts vs (start_of 8 place) (both (has_type ts) (are_solid ts) solid).1 f, padded_long (padding 8 place) E, length-append (texts_of ts) (41 ∷ []))
  plain_few zero endian (Ty.entry key t) (Val.entry k v) place solid f = absurd f
  plain_few (suc fewer) endian (Ty.entry key t) (Val.entry k v) place solid f =
      let K = spelled endian k (start_of 8 place) in
      let V = spelled endian v (behind (start_of 8 place) (length K)) in
      omega (
        arith,
        plain_few fewer endian (Ty.basic key) k (start_of 8 place) refl f.0,
        plain_few fewer endian t v (behind (start_of 8 place) (length K)) solid f.1,
        padded_long (padding 8 place) (K ++ V),
        length-append K V,
        length-append (text_of t) (125 ∷ []),
      )
  plain_few depth endian t v place solid f = absurd f

  pub all_plain_few : (depth : ℕ) (endian : Endian) (ts : Tys) (vs : Vals) (place : ℕ) → are_solid ts ≡ true → AllFit depth ts vs → all_parts vs ≤ 2 * length (all_spelled endian vs place) + length (texts_of ts)
  all_plain_few depth endian Tys.end Vals.end place solid f = omega arith
  all_plain_few depth endian (Tys.more t ts) (Vals.more v vs) place solid f =
      let solids = both (is_solid t) (are_solid ts) solid in
      let F = spelled endian v place in
      let R = all_spelled endian vs (behind place (length F)) in
      omega (arith, plain_few depth endian t v place solids.0 f.0, all_plain_few depth endian ts vs (behind place (length F)) solids.1 f.1, length-append F R, length-append (text_of t) (texts_of ts))
  all_plain_few depth endian ts vs place solid f = absurd f
