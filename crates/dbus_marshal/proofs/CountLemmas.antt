-- A value has at most one value inside it for each of its bytes and of the containers that may be open there.
use Rattle.std.proofs.Common.{◌≡◌, ℕ, zero, suc, ◌+◌, ◌*◌, ◌<◌, ◌≤◌, ◌&&◌, Bool, true, false, ◌++◌, length, refl, sym, subst, arith, length-append}
use Rattle.std.specs.Int.{w32}
use Rattle.std.proofs.Math.Nat.{add-mul, mul-add, mul-le-mul_left}
use Rattle.dbus_types.specs.declared.complete_type.BasicType.TheVariants as basics
use Rattle.dbus_types.specs.declared.endian.Endian.{Endian}
use Rattle.dbus_types.specs.Types.{Ty, Tys, has_type, text_of}
use Rattle.dbus_types.specs.Values.{Val, Vals, ty_of}
use Rattle.dbus_marshal.specs.Wire.{alignment_of, padding, behind, start_of, zeros, number_bytes}
use Rattle.dbus_marshal.specs.Counting.{count, counts}
use Rattle.dbus_marshal.specs.Fitting.{Fits, AllFit, EachFits}
use Rattle.dbus_marshal.specs.Spelling.{text_spelled, first_at, spelled, all_spelled}
use Rattle.dbus_marshal.proofs.AgainValues.{is_solid, are_solid, one_solid, some_bytes}

both : (a b : Bool) → (a && b) ≡ true → (a ≡ true) × (b ≡ true)
both true b e = (refl, e)
both false b e = absurd cc

-- one value, of at least one byte
alone : (k long : ℕ) → 0 < long → 1 ≤ (k + 1) * long
alone k long some = omega (arith, add-mul k 1 long)

-- a container of values that are counted by their bytes
around : (k inner within long : ℕ) → inner ≤ k * within → within ≤ long → 0 < long → 1 + inner ≤ (k + 1) * long
around k inner within long counted fits some = omega (arith, add-mul k 1 long, mul-le-mul_left {m = within} {n = long} k fits, counted)

around_suc : (fewer inner within long : ℕ) → inner ≤ (fewer + 1) * within → within ≤ long → 0 < long → 1 + inner ≤ (suc fewer + 1) * long
around_suc fewer inner within long counted fits some =
    let same : fewer + 1 ≡ suc fewer = omega arith in
    subst (λ (k : ℕ). 1 + inner ≤ (k + 1) * long) same (around (fewer + 1) inner within long counted fits some)

-- values after others
beside : (k one two a b : ℕ) → one ≤ k * a → two ≤ k * b → one + two ≤ k * (a + b)
beside k one two a b first second = omega (arith, mul-add k a b, first, second)

mutual
  pub few_inside : (depth : ℕ) (endian : Endian) (t : Ty) (v : Val) (place : ℕ) → is_solid t ≡ true → Fits depth t v → count v ≤ (depth + 1) * length (spelled endian v place)
  few_inside depth endian (Ty.basic b) (Val.number c n) place solid f = alone depth _ (some_bytes depth endian (Ty.basic b) (Val.number c n) place solid f)
  few_inside depth endian (Ty.basic b) (Val.text c text) place solid f = alone depth _ (some_bytes depth endian (Ty.basic b) (Val.text c text) place solid f)
  few_inside zero endian Ty.variant (Val.variant v) place solid f = absurd f
  few_inside (suc fewer) endian Ty.variant (Val.variant v) place solid f =
      let F = text_spelled endian basics.Signature (text_of (ty_of v)) place in
      let V = spelled endian v (behind place (length F)) in
      let within : length V ≤ length (F ++ V) = omega (arith, length-append F V) in
      around_suc fewer (count v) (length V) (length (F ++ V)) (few_inside fewer endian (ty_of v) v (behind place (length F)) (one_solid (ty_of v) f.0) f.1) within
      (some_bytes (suc fewer) endian Ty.variant (Val.variant v) place solid f)
  few_inside zero endian (Ty.array t) (Val.array u vs) place solid f = absurd f
  few_inside (suc fewer) endian (Ty.array t) (Val.array u vs) place solid f =
      let E = all_spelled endian vs (first_at (alignment_of u) place) in
      let Z = zeros (padding (alignment_of u) (behind (start_of 4 place) 4)) in
      let N = number_bytes endian w32 (length E) in
      let A = zeros (padding 4 place) in
      let within : length E ≤ length (A ++ (N ++ (Z ++ E))) = omega (arith, length-append A (N ++ (Z ++ E)), length-append N (Z ++ E), length-append Z E) in
      around_suc fewer (counts vs) (length E) (length (A ++ (N ++ (Z ++ E)))) (few_each fewer endian t vs (first_at (alignment_of u) place) solid f.1) within
      (some_bytes (suc fewer) endian (Ty.array t) (Val.array u vs) place solid f)
  few_inside depth endian (Ty.array t) (Val.bytes them) place solid f = alone depth _ (some_bytes depth endian (Ty.array t) (Val.bytes them) place solid f)
  few_inside zero endian (Ty.struct ts) (Val.struct vs) place solid f = absurd f
  few_inside (suc fewer) endian (Ty.struct ts) (Val.struct vs) place solid f =
      let E = all_spelled endian vs (start_of 8 place) in
      let Z = zeros (padding 8 place) in
      let within : length E ≤ length (Z ++ E) = omega (arith, length-append Z E) in
      around_suc fewer (counts vs) (length E) (length (Z ++ E)) (few_values fewer endian ts vs (start_of 8 place) (both (has_type ts) (are_solid ts) solid).1 f) within
      (some_bytes (suc fewer) endian (Ty.struct ts) (Val.struct vs) place solid f)
  few_inside zero endian (Ty.entry key t) (Val.entry k v) place solid f = absurd f
  few_inside (suc fewer) endian (Ty.entry key t) (Val.entry k v) place solid f =
      let K = spelled endian k (start_of 8 place) in
      let V = spelled endian v (behind (start_of 8 place) (length K)) in
      let Z = zeros (padding 8 place) in
      let within : length K + length V ≤ length (Z ++ (K ++ V)) = omega (arith, length-append Z (K ++ V), length-append K V) in
      around_suc fewer (count k + count v) (length K + length V) (length (Z ++ (K ++ V)))
      (beside (fewer + 1) (count k) (count v) (length K) (length V) (few_inside fewer endian (Ty.basic key) k (start_of 8 place) refl f.0)
      (few_inside fewer endian t v (behind (start_of 8 place) (length K)) solid f.1)) within
      (some_bytes (suc fewer) endian (Ty.entry key t) (Val.entry k v) place solid f)
  few_inside depth endian t v place solid f = absurd f

  pub few_values : (depth : ℕ) (endian : Endian) (ts : Tys) (vs : Vals) (place : ℕ) → are_solid ts ≡ true → AllFit depth ts vs → counts vs ≤ (depth + 1) * length (all_spelled endian vs place)
  few_values depth endian Tys.end Vals.end place solid f = omega arith
  few_values depth endian (Tys.more t ts) (Vals.more v vs) place solid f =
      let solids = both (is_solid t) (are_solid ts) solid in
      let F = spelled endian v place in
      let R = all_spelled endian vs (behind place (length F)) in
      subst (λ (k : ℕ). count v + counts vs ≤ (depth + 1) * k) (sym (length-append F R))
      (beside (depth + 1) (count v) (counts vs) (length F) (length R) (few_inside depth endian t v place solids.0 f.0) (few_values depth endian ts vs (behind place (length F)) solids.1 f.1))
  few_values depth endian ts vs place solid f = absurd f

  pub few_each : (depth : ℕ) (endian : Endian) (t : Ty) (vs : Vals) (place : ℕ) → is_solid t ≡ true → EachFits depth t vs → counts vs ≤ (depth + 1) * length (all_spelled endian vs place)
  few_each depth endian t Vals.end place solid f = omega arith
  few_each depth endian t (Vals.more v vs) place solid f =
      let F = spelled endian v place in
      let R = all_spelled endian vs (behind place (length F)) in
      subst (λ (k : ℕ). count v + counts vs ≤ (depth + 1) * k) (sym (length-append F R))
      (beside (depth + 1) (count v) (counts vs) (length F) (length R) (few_inside depth endian t v place solid f.0) (few_each depth endian t vs (behind place (length F)) solid f.1))
