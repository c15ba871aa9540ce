-- The relation of a value and its bytes is true of one list of bytes, the spelling.
use Rattle.std.proofs.Common.{◌≡◌, ℕ, zero, suc, ◌≤◌, ◌&&◌, Bool, true, false, List, ◌++◌, length, refl, sym, ap, subst, ◌∙◌, append-nil}
use Rattle.std.specs.Prelude.{nat_le}
use Rattle.std.specs.Int.{w32, byte_len}
use Rattle.std.proofs.lemmas.Bool.{leb-true, le-leb}
use Rattle.dbus_types.specs.declared.complete_type.BasicType.{BasicType}
use Rattle.dbus_types.specs.declared.complete_type.BasicType.TheVariants as basics
use Rattle.dbus_types.specs.declared.endian.Endian.{Endian}
use Rattle.dbus_types.specs.Types.{Ty, Tys, is_signature, text_of}
use Rattle.dbus_types.specs.Values.{Val, Vals, ty_of, tys_of, entry_of}
use Rattle.dbus_marshal.specs.Limits.{array_limit}
use Rattle.dbus_marshal.specs.Wire.{width_of, alignment_of, padding, behind, start_of, zeros, number_bytes, is_byte, AreBytes}
use Rattle.dbus_marshal.specs.Fitting.{Fits, AllFit, EachFits}
use Rattle.dbus_marshal.specs.Spelling.{number_spelled, text_spelled, array_spelled, first_at, spelled, all_spelled, is_short, are_short}
use Rattle.dbus_marshal.specs.Marshals.{NumberMarshals, TextMarshals, Marshals, AllMarshal, EachMarshals}

and_parts : (a b : Bool) → (a && b) ≡ true → (a ≡ true) × (b ≡ true)
and_parts true b e = (refl, e)
and_parts false b e = absurd cc

and_both : (a b : Bool) → a ≡ true → b ≡ true → (a && b) ≡ true
and_both true b e f = f
and_both false b e f = absurd cc

-- ---- the type of a value that fits

mutual
  pub fits_type : (depth : ℕ) (t : Ty) (v : Val) → Fits depth t v → ty_of v ≡ t
  fits_type depth (Ty.basic b) (Val.number c n) f = ap Ty.basic f.0
  fits_type depth (Ty.basic b) (Val.text c bytes) f = ap Ty.basic f.0
  fits_type depth Ty.variant (Val.variant v) f = refl
  fits_type zero (Ty.array t) (Val.array u vs) f = absurd f
  fits_type (suc fewer) (Ty.array t) (Val.array u vs) f = ap Ty.array f.0
  fits_type zero (Ty.array t) (Val.bytes them) f = absurd f
  fits_type (suc fewer) (Ty.array t) (Val.bytes them) f = ap Ty.array (sym f.0)
  fits_type zero (Ty.struct ts) (Val.struct vs) f = absurd f
  fits_type (suc fewer) (Ty.struct ts) (Val.struct vs) f = ap Ty.struct (all_fit_types fewer ts vs f)
  fits_type zero (Ty.entry key t) (Val.entry k v) f = absurd f
  fits_type (suc fewer) (Ty.entry key t) (Val.entry k v) f =
      ap (λ (u : Ty). entry_of u (ty_of v)) (fits_type fewer (Ty.basic key) k f.0) ∙ ap (Ty.entry key) (fits_type fewer t v f.1)
  fits_type depth t v f = absurd f

  pub all_fit_types : (depth : ℕ) (ts : Tys) (vs : Vals) → AllFit depth ts vs → tys_of vs ≡ ts
  all_fit_types depth Tys.end Vals.end f = refl
  all_fit_types depth (Tys.more t ts) (Vals.more v vs) f =
      ap (λ (u : Ty). Tys.more u (tys_of vs)) (fits_type depth t v f.0) ∙ ap (Tys.more t) (all_fit_types depth ts vs f.1)
  all_fit_types depth ts vs f = absurd f

-- ---- what the relation says of the bytes

pub record IsSpelled (depth : ℕ) (endian : Endian) (place : ℕ) (t : Ty) (v : Val) (bytes : List ℕ) : Type 0 where
  pub fits : Fits depth t v
  pub short : is_short endian v place ≡ true
  pub is : bytes ≡ spelled endian v place

pub record AreAllSpelled (depth : ℕ) (endian : Endian) (place : ℕ) (ts : Tys) (vs : Vals) (bytes : List ℕ) : Type 0 where
  pub fits : AllFit depth ts vs
  pub short : are_short endian vs place ≡ true
  pub is : bytes ≡ all_spelled endian vs place

pub record AreEachSpelled (depth : ℕ) (endian : Endian) (place : ℕ) (t : Ty) (vs : Vals) (bytes : List ℕ) : Type 0 where
  pub fits : EachFits depth t vs
  pub short : are_short endian vs place ≡ true
  pub is : bytes ≡ all_spelled endian vs place

number_is : (endian : Endian) (place : ℕ) (b : BasicType) (n : ℕ) (bytes : List ℕ) → NumberMarshals endian place b n bytes → bytes ≡ number_spelled endian b n place
number_is endian place b n bytes m = m.1.1 ∙ ap (λ (r : List ℕ). zeros (padding (byte_len (width_of b)) place) ++ r) m.1.2

text_is : (endian : Endian) (place : ℕ) (b : BasicType) (text bytes : List ℕ) → TextMarshals endian place b text bytes → bytes ≡ text_spelled endian b text place
text_is endian place b text bytes m = m.1.1 ∙ ap (λ (r : List ℕ). zeros (padding (byte_len (width_of b)) place) ++ r) m.1.2

basic_number_is : (depth : ℕ) (endian : Endian) (place : ℕ) (b c : BasicType) (n : ℕ) (bytes : List ℕ) → c ≡ b → NumberMarshals endian place b n bytes
    → IsSpelled depth endian place (Ty.basic b) (Val.number c n) bytes
basic_number_is depth endian place b c n bytes same m = record {
  fits = (same, m.0);
  short = refl;
  is = number_is endian place b n bytes m ∙ ap (λ (k : BasicType). number_spelled endian k n place) (sym same);
}

basic_text_is : (depth : ℕ) (endian : Endian) (place : ℕ) (b c : BasicType) (text bytes : List ℕ) → c ≡ b → TextMarshals endian place b text bytes
    → IsSpelled depth endian place (Ty.basic b) (Val.text c text) bytes
basic_text_is depth endian place b c text bytes same m = record {
  fits = (same, m.0);
  short = refl;
  is = text_is endian place b text bytes m ∙ ap (λ (k : BasicType). text_spelled endian k text place) (sym same);
}

variant_is : (fewer : ℕ) (endian : Endian) (place : ℕ) (t : Ty) (v : Val) (signature rest bytes : List ℕ) → is_signature (Tys.more t Tys.end) ≡ true → bytes ≡ signature ++ rest
    → signature ≡ text_spelled endian basics.Signature (text_of t) place → IsSpelled fewer endian (behind place (length signature)) t v rest
    → IsSpelled (suc fewer) endian place Ty.variant (Val.variant v) bytes
variant_is fewer endian place t v signature rest bytes valid parts text inner =
    let same : ty_of v ≡ t = fits_type fewer t v inner.fits in
    let front : signature ≡ text_spelled endian basics.Signature (text_of (ty_of v)) place = text ∙ ap (λ (u : Ty). text_spelled endian basics.Signature (text_of u) place) (sym same) in
    record {
      fits = (subst (λ (u : Ty). is_signature (Tys.more u Tys.end) ≡ true) (sym same) valid, subst (λ (u : Ty). Fits fewer u v) (sym same) inner.fits);
      short = subst (λ (s : List ℕ). is_short endian v (behind place (length s)) ≡ true) front inner.short;
      is = parts ∙ ap (λ (r : List ℕ). signature ++ r) inner.is ∙ ap (λ (s : List ℕ). s ++ spelled endian v (behind place (length s))) front;
    }

array_is_same : (fewer : ℕ) (endian : Endian) (place : ℕ) (t : Ty) (vs : Vals) (bytes elements four first padded : List ℕ) → is_byte t ≡ false → length elements ≤ array_limit
    → bytes ≡ zeros (padding 4 place) ++ four → four ≡ number_bytes endian w32 (length elements) ++ first
    → first ≡ zeros (padding (alignment_of t) (behind (start_of 4 place) 4)) ++ padded → padded ≡ elements
    → AreEachSpelled fewer endian (first_at (alignment_of t) place) t vs elements → IsSpelled (suc fewer) endian place (Ty.array t) (Val.array t vs) bytes
array_is_same fewer endian place t vs bytes elements four first padded other long parts counted aligns same inner = record {
  fits = (refl, inner.fits, other);
  short = and_both _ _ inner.short (subst (λ (e : List ℕ). nat_le (length e) array_limit ≡ true) inner.is (le-leb _ _ long));
  is = parts ∙ ap (λ (r : List ℕ). zeros (padding 4 place) ++ r) (counted ∙ ap (λ (r : List ℕ). number_bytes endian w32 (length elements) ++ r)
      (aligns ∙ ap (λ (r : List ℕ). zeros (padding (alignment_of t) (behind (start_of 4 place) 4)) ++ r) same))
      ∙ ap (array_spelled endian (alignment_of t) place) inner.is;
}

bytes_is : (fewer : ℕ) (endian : Endian) (place : ℕ) (t : Ty) (them bytes elements four first padded : List ℕ) → t ≡ Ty.basic basics.Byte → AreBytes them → length elements ≤ array_limit
    → bytes ≡ zeros (padding 4 place) ++ four → four ≡ number_bytes endian w32 (length elements) ++ first
    → first ≡ zeros (padding (alignment_of t) (behind (start_of 4 place) 4)) ++ padded → padded ≡ elements → elements ≡ them
    → IsSpelled (suc fewer) endian place (Ty.array t) (Val.bytes them) bytes
bytes_is fewer endian place t them bytes elements four first padded byte each long parts counted aligns same is = record {
  fits = (byte, each);
  short = subst (λ (e : List ℕ). nat_le (length e) array_limit ≡ true) is (le-leb _ _ long);
  is = parts ∙ ap (λ (r : List ℕ). zeros (padding 4 place) ++ r) (counted ∙ ap (λ (r : List ℕ). number_bytes endian w32 (length elements) ++ r)
      (aligns ∙ ap (λ (r : List ℕ). zeros (padding (alignment_of t) (behind (start_of 4 place) 4)) ++ r) same))
      ∙ ap (array_spelled endian (alignment_of t) place) is ∙ ap (λ (u : Ty). array_spelled endian (alignment_of u) place them) byte;
}

array_is : (fewer : ℕ) (endian : Endian) (place : ℕ) (t u : Ty) (vs : Vals) (bytes : List ℕ) → u ≡ t → IsSpelled (suc fewer) endian place (Ty.array t) (Val.array t vs) bytes
    → IsSpelled (suc fewer) endian place (Ty.array t) (Val.array u vs) bytes
array_is fewer endian place t u vs bytes same whole = subst (λ (k : Ty). IsSpelled (suc fewer) endian place (Ty.array t) (Val.array k vs) bytes) (sym same) whole

struct_is : (fewer : ℕ) (endian : Endian) (place : ℕ) (ts : Tys) (vs : Vals) (bytes fields : List ℕ) → bytes ≡ zeros (padding 8 place) ++ fields
    → AreAllSpelled fewer endian (start_of 8 place) ts vs fields → IsSpelled (suc fewer) endian place (Ty.struct ts) (Val.struct vs) bytes
struct_is fewer endian place ts vs bytes fields parts inner = record {
  fits = inner.fits;
  short = inner.short;
  is = parts ∙ ap (λ (r : List ℕ). zeros (padding 8 place) ++ r) inner.is;
}

entry_is : (fewer : ℕ) (endian : Endian) (place : ℕ) (key : BasicType) (t : Ty) (k v : Val) (bytes parts front rest : List ℕ) → bytes ≡ zeros (padding 8 place) ++ parts → parts ≡ front ++ rest
    → IsSpelled fewer endian (start_of 8 place) (Ty.basic key) k front → IsSpelled fewer endian (behind (start_of 8 place) (length front)) t v rest
    → IsSpelled (suc fewer) endian place (Ty.entry key t) (Val.entry k v) bytes
entry_is fewer endian place key t k v bytes parts front rest padded cut first second = record {
  fits = (first.fits, second.fits);
  short = and_both _ _ first.short (subst (λ (s : List ℕ). is_short endian v (behind (start_of 8 place) (length s)) ≡ true) first.is second.short);
  is = padded ∙ ap (λ (r : List ℕ). zeros (padding 8 place) ++ r)
      (cut ∙ ap (λ (r : List ℕ). front ++ r) second.is ∙ ap (λ (s : List ℕ). s ++ spelled endian v (behind (start_of 8 place) (length s))) first.is);
}

all_more : (depth : ℕ) (endian : Endian) (place : ℕ) (t : Ty) (ts : Tys) (v : Val) (vs : Vals) (bytes front rest : List ℕ) → bytes ≡ front ++ rest → IsSpelled depth endian place t v front
    → AreAllSpelled depth endian (behind place (length front)) ts vs rest → AreAllSpelled depth endian place (Tys.more t ts) (Vals.more v vs) bytes
all_more depth endian place t ts v vs bytes front rest cut first others = record {
  fits = (first.fits, others.fits);
  short = and_both _ _ first.short (subst (λ (s : List ℕ). are_short endian vs (behind place (length s)) ≡ true) first.is others.short);
  is = cut ∙ ap (λ (r : List ℕ). front ++ r) others.is ∙ ap (λ (s : List ℕ). s ++ all_spelled endian vs (behind place (length s))) first.is;
}

each_more : (depth : ℕ) (endian : Endian) (place : ℕ) (t : Ty) (v : Val) (vs : Vals) (bytes front rest : List ℕ) → bytes ≡ front ++ rest → IsSpelled depth endian place t v front
    → AreEachSpelled depth endian (behind place (length front)) t vs rest → AreEachSpelled depth endian place t (Vals.more v vs) bytes
each_more depth endian place t v vs bytes front rest cut first others = record {
  fits = (first.fits, others.fits);
  short = and_both _ _ first.short (subst (λ (s : List ℕ). are_short endian vs (behind place (length s)) ≡ true) first.is others.short);
  is = cut ∙ ap (λ (r : List ℕ). front ++ r) others.is ∙ ap (λ (s : List ℕ). s ++ all_spelled endian vs (behind place (length s))) first.is;
}

mutual
  pub marshals_is : (depth : ℕ) (endian : Endian) (place : ℕ) (t : Ty) (v : Val) (bytes : List ℕ) → Marshals depth endian place t v bytes → IsSpelled depth endian place t v bytes
  marshals_is depth endian place (Ty.basic b) (Val.number c n) bytes m = basic_number_is depth endian place b c n bytes m.0 m.1
  marshals_is depth endian place (Ty.basic b) (Val.text c text) bytes m = basic_text_is depth endian place b c text bytes m.0 m.1
  marshals_is zero endian place Ty.variant (Val.variant v) bytes m = absurd m
  marshals_is (suc fewer) endian place Ty.variant (Val.variant v) bytes m =
      variant_is fewer endian place m.0 v m.1 m.2 bytes m.3 m.4 (text_is endian place basics.Signature (text_of m.0) m.1 m.5) (marshals_is fewer endian (behind place (length m.1)) m.0 v m.2 m.6)
  marshals_is zero endian place (Ty.array t) (Val.array u vs) bytes m = absurd m
  marshals_is (suc fewer) endian place (Ty.array t) (Val.array u vs) bytes m =
      array_is fewer endian place t u vs bytes m.0 (array_is_same fewer endian place t vs bytes m.2.0 m.2.2.0 m.2.2.2.0 m.2.2.2.2.0 m.1 m.2.1 m.2.2.1 m.2.2.2.1 m.2.2.2.2.1 m.2.2.2.2.2.0
      (each_is fewer endian (first_at (alignment_of t) place) t vs m.2.0 m.2.2.2.2.2.1))
  marshals_is zero endian place (Ty.array t) (Val.bytes them) bytes m = absurd m
  marshals_is (suc fewer) endian place (Ty.array t) (Val.bytes them) bytes m =
      bytes_is fewer endian place t them bytes m.2.0 m.2.2.0 m.2.2.2.0 m.2.2.2.2.0 m.0 m.1 m.2.1 m.2.2.1 m.2.2.2.1 m.2.2.2.2.1 m.2.2.2.2.2.0 m.2.2.2.2.2.1
  marshals_is zero endian place (Ty.struct ts) (Val.struct vs) bytes m = absurd m
  marshals_is (suc fewer) endian place (Ty.struct ts) (Val.struct vs) bytes m =
      struct_is fewer endian place ts vs bytes m.0 m.1 (all_is fewer endian (start_of 8 place) ts vs m.0 m.2)
  marshals_is zero endian place (Ty.entry key t) (Val.entry k v) bytes m = absurd m
  marshals_is (suc fewer) endian place (Ty.entry key t) (Val.entry k v) bytes m =
      entry_is fewer endian place key t k v bytes m.0 m.2.0 m.2.1 m.1 m.2.2 (marshals_is fewer endian (start_of 8 place) (Ty.basic key) k m.2.0 m.2.3)
      (marshals_is fewer endian (behind (start_of 8 place) (length m.2.0)) t v m.2.1 m.2.4)
  marshals_is depth endian place t v bytes m = absurd m

  pub all_is : (depth : ℕ) (endian : Endian) (place : ℕ) (ts : Tys) (vs : Vals) (bytes : List ℕ) → AllMarshal depth endian place ts vs bytes → AreAllSpelled depth endian place ts vs bytes
  all_is depth endian place Tys.end Vals.end bytes m = record { fits = tt; short = refl; is = m }
  all_is depth endian place (Tys.more t ts) (Vals.more v vs) bytes m =
      all_more depth endian place t ts v vs bytes m.0 m.1 m.2 (marshals_is depth endian place t v m.0 m.3) (all_is depth endian (behind place (length m.0)) ts vs m.1 m.4)
  all_is depth endian place ts vs bytes m = absurd m

  pub each_is : (depth : ℕ) (endian : Endian) (place : ℕ) (t : Ty) (vs : Vals) (bytes : List ℕ) → EachMarshals depth endian place t vs bytes → AreEachSpelled depth endian place t vs bytes
  each_is depth endian place t Vals.end bytes m = record { fits = tt; short = refl; is = m }
  each_is depth endian place t (Vals.more v vs) bytes m =
      each_more depth endian place t v vs bytes m.0 m.1 m.2 (marshals_is depth endian place t v m.0 m.3) (each_is depth endian (behind place (length m.0)) t vs m.1 m.4)

-- ---- the spelling is related

array_spelled_same : (fewer : ℕ) (endian : Endian) (place : ℕ) (t : Ty) (vs : Vals) → is_byte t ≡ false → length (all_spelled endian vs (first_at (alignment_of t) place)) ≤ array_limit
    → EachMarshals fewer endian (first_at (alignment_of t) place) t vs (all_spelled endian vs (first_at (alignment_of t) place))
    → Marshals (suc fewer) endian place (Ty.array t) (Val.array t vs) (spelled endian (Val.array t vs) place)
array_spelled_same fewer endian place t vs other long inner = (refl, other, (_, long, (_, refl, (_, refl, (_, refl, (refl, inner))))))

bytes_spelled_same : (fewer : ℕ) (endian : Endian) (place : ℕ) (them : List ℕ) → AreBytes them → length them ≤ array_limit
    → Marshals (suc fewer) endian place (Ty.array (Ty.basic basics.Byte)) (Val.bytes them) (spelled endian (Val.bytes them) place)
bytes_spelled_same fewer endian place them each long = (refl, each, (_, long, (_, refl, (_, refl, (_, refl, (refl, refl))))))

mutual
  pub spelled_marshals : (depth : ℕ) (endian : Endian) (place : ℕ) (t : Ty) (v : Val) → Fits depth t v → is_short endian v place ≡ true → Marshals depth endian place t v (spelled endian v place)
  spelled_marshals depth endian place (Ty.basic b) (Val.number c n) f s =
      (f.0, (f.1, (_, ap (λ (k : BasicType). number_spelled endian k n place) f.0, refl)))
  spelled_marshals depth endian place (Ty.basic b) (Val.text c text) f s =
      (f.0, (f.1, (_, ap (λ (k : BasicType). text_spelled endian k text place) f.0, refl)))
  spelled_marshals zero endian place Ty.variant (Val.variant v) f s = absurd f
  spelled_marshals (suc fewer) endian place Ty.variant (Val.variant v) f s =
      let front = text_spelled endian basics.Signature (text_of (ty_of v)) place in (
        ty_of v,
        front,
        spelled endian v (behind place (length front)),
        f.0,
        refl,
        ((Tys.more (ty_of v) Tys.end, f.0, sym (append-nil (text_of (ty_of v)))), (_, refl, refl)),
        spelled_marshals fewer endian (behind place (length front)) (ty_of v) v f.1 s,
      )
  spelled_marshals zero endian place (Ty.array t) (Val.array u vs) f s = absurd f
  spelled_marshals (suc fewer) endian place (Ty.array t) (Val.array u vs) f s =
      let parts = and_parts (are_short endian vs (first_at (alignment_of t) place)) _ (subst (λ (k : Ty). is_short endian (Val.array k vs) place ≡ true) f.0 s) in
      subst (λ (k : Ty). Marshals (suc fewer) endian place (Ty.array t) (Val.array k vs) (spelled endian (Val.array k vs) place)) (sym f.0)
      (array_spelled_same fewer endian place t vs f.2 (leb-true _ _ parts.1) (each_spelled_marshal fewer endian (first_at (alignment_of t) place) t vs f.1 parts.0))
  spelled_marshals zero endian place (Ty.array t) (Val.bytes them) f s = absurd f
  spelled_marshals (suc fewer) endian place (Ty.array t) (Val.bytes them) f s =
      subst (λ (k : Ty). Marshals (suc fewer) endian place (Ty.array k) (Val.bytes them) (spelled endian (Val.bytes them) place)) (sym f.0) (bytes_spelled_same fewer endian place them f.1 (leb-true _ _ s))
  spelled_marshals zero endian place (Ty.struct ts) (Val.struct vs) f s = absurd f
  spelled_marshals (suc fewer) endian place (Ty.struct ts) (Val.struct vs) f s = (_, refl, all_spelled_marshal fewer endian (start_of 8 place) ts vs f s)
  spelled_marshals zero endian place (Ty.entry key t) (Val.entry k v) f s = absurd f
  spelled_marshals (suc fewer) endian place (Ty.entry key t) (Val.entry k v) f s =
      let parts = and_parts (is_short endian k (start_of 8 place)) _ s in (
        _,
        refl,
        (
          _,
          _,
          refl,
          spelled_marshals fewer endian (start_of 8 place) (Ty.basic key) k f.0 parts.0,
          spelled_marshals fewer endian (behind (start_of 8 place) (length (spelled endian k (start_of 8 place)))) t v f.1 parts.1,
        ),
      )
  spelled_marshals depth endian place t v f s = absurd f

  pub all_spelled_marshal : (depth : ℕ) (endian : Endian) (place : ℕ) (ts : Tys) (vs : Vals) → AllFit depth ts vs → are_short endian vs place ≡ true → AllMarshal depth endian place ts vs (all_spelled endian vs place)
  all_spelled_marshal depth endian place Tys.end Vals.end f s = refl
  all_spelled_marshal depth endian place (Tys.more t ts) (Vals.more v vs) f s =
      let parts = and_parts (is_short endian v place) _ s in
      (_, _, refl, spelled_marshals depth endian place t v f.0 parts.0, all_spelled_marshal depth endian (behind place (length (spelled endian v place))) ts vs f.1 parts.1)
  all_spelled_marshal depth endian place ts vs f s = absurd f

  pub each_spelled_marshal : (depth : ℕ) (endian : Endian) (place : ℕ) (t : Ty) (vs : Vals) → EachFits depth t vs → are_short endian vs place ≡ true → EachMarshals depth endian place t vs (all_spelled endian vs place)
  each_spelled_marshal depth endian place t Vals.end f s = refl
  each_spelled_marshal depth endian place t (Vals.more v vs) f s =
      let parts = and_parts (is_short endian v place) _ s in
      (_, _, refl, spelled_marshals depth endian place t v f.0 parts.0, each_spelled_marshal depth endian (behind place (length (spelled endian v place))) t vs f.1 parts.1)

-- there is at most one list of bytes
pub one_spelling : (depth : ℕ) (endian : Endian) (place : ℕ) (t : Ty) (v : Val) (xs ys : List ℕ) → Marshals depth endian place t v xs → Marshals depth endian place t v ys → xs ≡ ys
one_spelling depth endian place t v xs ys m n =
    let first = marshals_is depth endian place t v xs m in
    let second = marshals_is depth endian place t v ys n in
    first.is ∙ sym second.is
