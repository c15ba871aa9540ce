-- What is read of any type fits it, and is spelled that way.
use Rattle.std.proofs.Common.{◌≡◌, ℕ, zero, suc, ◌<◌, ◌≤◌, ◌^◌, ◌&&◌, Bool, true, false, cond, List, [], ◌∷◌, ◌++◌, length, Result, Ok, Err, refl, sym, ap, subst, ◌∙◌, arith, inl, inr, append_assoc, append-nil, length-append}
use Rattle.std.specs.Prelude.{if◌then◌else◌, nat_le, nat_lt}
use Rattle.std.specs.Int.{w32}
use Rattle.std.proofs.lemmas.Bool.{cases_lt, lt-ltb, le-ltb, le-leb}
use Rattle.std.proofs.lemmas.List.{length-replicate}
use Rattle.dbus_types.specs.declared.complete_type.BasicType.{BasicType}
use Rattle.dbus_types.specs.declared.complete_type.BasicType.TheVariants as basics
use Rattle.dbus_types.specs.declared.endian.Endian.{Endian}
use Rattle.dbus_types.specs.Types.{Ty, Tys, is_signature, text_of, texts_of}
use Rattle.dbus_types.specs.Values.{Val, Vals, ty_of}
use Rattle.dbus_types.specs.Signatures.{◌>>=◌}
use Rattle.dbus_marshal.specs.Limits.{array_limit}
use Rattle.dbus_marshal.specs.declared.refused.ValueFault.{ValueFault}
use Rattle.dbus_marshal.specs.declared.refused.ValueFault.TheVariants.{ArrayTooLong}
use Rattle.dbus_marshal.specs.Wire.{alignment_of, padding, behind, start_of, zeros, number_bytes, is_byte, AreBytes}
use Rattle.dbus_marshal.specs.Fitting.{AllFit, EachFits}
use Rattle.dbus_marshal.specs.Spelling.{aligned, text_spelled, array_spelled, first_at, spelled, all_spelled, is_short, are_short}
use Rattle.dbus_marshal.specs.Unmarshal.{Reader, Spot, bytes_at, padding_at, number_at, signature_value_at, basic_at, only_type, variant_by, elements_from, elements_of, array_by, fields_by, struct_by, entry_by, value_at}
use Rattle.dbus_marshal.proofs.Relation.{fits_type}
use Rattle.dbus_marshal.proofs.Taking.{IsBytes, bind_ok, Takes, Takes-then, bytes_taken, padding_taken, number_taken, wide32}
use Rattle.dbus_marshal.proofs.TakenBasics.{Took, value_is, signature_taken, basic_took}

and_both : (a b : Bool) → a ≡ true → b ≡ true → (a && b) ≡ true
and_both true b e f = f
and_both false b e f = absurd cc

-- a reader whose values all fit, and are spelled that way
pub record IsTaker (depth : ℕ) (endian : Endian) (read : Ty → Reader Val) : Type 0 where
  pub takes : (t : Ty) (spot : Spot) (x : Val × Spot) → IsBytes spot.left → read t spot ≡ Ok x → Took depth endian t spot x

below_8 : (spot : Spot) (bytes : List ℕ) (after : Spot) → Takes spot bytes after → after.place < 8
below_8 spot bytes after takes = omega (arith, takes.place)

-- ---- a variant

only_is : (ts : Tys) (t : Ty) → only_type ts ≡ Ok t → ts ≡ Tys.more t Tys.end
only_is Tys.end t e = absurd cc
only_is (Tys.more u Tys.end) t e = let same : u ≡ t = cc in ap (λ (k : Ty). Tys.more k Tys.end) same
only_is (Tys.more u (Tys.more w ts)) t e = absurd cc

variant_took_as : (fewer : ℕ) (endian : Endian) (spot : Spot) (s : Tys × Spot) (v : Val × Spot) → is_signature (Tys.more (ty_of v.0) Tys.end) ≡ true
    → Takes spot (text_spelled endian basics.Signature (text_of (ty_of v.0)) spot.place) s.1 → Took fewer endian (ty_of v.0) s.1 v → Took (suc fewer) endian Ty.variant spot (Val.variant v.0, v.1)
variant_took_as fewer endian spot s v valid front inner =
    let S = text_spelled endian basics.Signature (text_of (ty_of v.0)) spot.place in
    record {
      fits = (valid, inner.fits);
      short = subst (λ (p : ℕ). is_short endian v.0 p ≡ true) front.place inner.short;
      takes = subst (λ (p : ℕ). Takes spot (S ++ spelled endian v.0 p) v.1) front.place (Takes-then spot S s.1 (spelled endian v.0 s.1.place) v.1 front inner.takes);
    }

variant_took : (fewer : ℕ) (endian : Endian) (read : Ty → Reader Val) (spot : Spot) (x : Val × Spot) → IsTaker fewer endian read → IsBytes spot.left → variant_by read endian spot ≡ Ok x
    → Took (suc fewer) endian Ty.variant spot x
unfolding variant_by
variant_took fewer endian read spot x taker fits e =
    let a = bind_ok (signature_value_at endian spot) (λ s. only_type s.0 >>= λ t. read t s.1 >>= λ v. Ok (Val.variant v.0, v.1)) x e in
    let b = bind_ok (only_type a.0.0) (λ t. read t a.0.1 >>= λ v. Ok (Val.variant v.0, v.1)) x a.2 in
    let c = bind_ok (read b.0 a.0.1) (λ v. Ok (Val.variant v.0, v.1)) x b.2 in
    let front = signature_taken endian spot a.0 fits a.1 in
    let inner = taker.takes b.0 a.0.1 c.0 front.0.fits c.1 in
    let same = sym (fits_type fewer b.0 c.0.0 inner.fits) in
    let types : a.0.0 ≡ Tys.more (ty_of c.0.0) Tys.end = only_is a.0.0 b.0 b.1 ∙ ap (λ (k : Ty). Tys.more k Tys.end) same in
    let text : texts_of a.0.0 ≡ text_of (ty_of c.0.0) = ap texts_of types ∙ append-nil (text_of (ty_of c.0.0)) in
    subst (λ (y : Val × Spot). Took (suc fewer) endian Ty.variant spot y) (value_is (Val.variant c.0.0, c.0.1) x c.2)
    (variant_took_as fewer endian spot a.0 c.0 (subst (λ (ts : Tys). is_signature ts ≡ true) types front.1)
    (subst (λ (bs : List ℕ). Takes spot (text_spelled endian basics.Signature bs spot.place) a.0.1) text front.0)
    (subst (λ (t : Ty). Took fewer endian t a.0.1 c.0) same inner))

-- ---- values one after the other

pub record TookAll (depth : ℕ) (endian : Endian) (ts : Tys) (spot : Spot) (x : Vals × Spot) : Type 0 where
  pub fits : AllFit depth ts x.0
  pub short : are_short endian x.0 spot.place ≡ true
  pub takes : Takes spot (all_spelled endian x.0 spot.place) x.1

abbrev values_done : Vals × Spot → Result (Vals × Spot) ValueFault
values_done x = Ok x

values_is : (x y : Vals × Spot) → values_done x ≡ values_done y → x ≡ y
values_is x y e = cc

nothing_taken : (spot : Spot) → IsBytes spot.left → spot.place < 8 → Takes spot [] spot
nothing_taken spot fits below = record { parts = refl; place = omega arith; fits = fits }

pub fields_took : (depth : ℕ) (endian : Endian) (read : Ty → Reader Val) (ts : Tys) (spot : Spot) (x : Vals × Spot) → IsTaker depth endian read → IsBytes spot.left → spot.place < 8
    → fields_by read ts spot ≡ Ok x → TookAll depth endian ts spot x
unfolding fields_by
fields_took depth endian read Tys.end spot x taker fits below e =
    subst (λ (y : Vals × Spot). TookAll depth endian Tys.end spot y) (values_is (Vals.end, spot) x e) (record { fits = tt; short = refl; takes = nothing_taken spot fits below })
fields_took depth endian read (Tys.more t ts) spot x taker fits below e =
    let a = bind_ok (read t spot) (λ v. fields_by read ts v.1 >>= λ vs. Ok (Vals.more v.0 vs.0, vs.1)) x e in
    let b = bind_ok (fields_by read ts a.0.1) (λ vs. Ok (Vals.more a.0.0 vs.0, vs.1)) x a.2 in
    let first = taker.takes t spot a.0 fits a.1 in
    let others = fields_took depth endian read ts a.0.1 b.0 taker first.takes.fits (below_8 spot (spelled endian a.0.0 spot.place) a.0.1 first.takes) b.1 in
    let F = spelled endian a.0.0 spot.place in
    subst (λ (y : Vals × Spot). TookAll depth endian (Tys.more t ts) spot y) (values_is (Vals.more a.0.0 b.0.0, b.0.1) x b.2)
    (record {
      fits = (first.fits, others.fits);
      short = and_both _ _ first.short (subst (λ (p : ℕ). are_short endian b.0.0 p ≡ true) first.takes.place others.short);
      takes = subst (λ (p : ℕ). Takes spot (F ++ all_spelled endian b.0.0 p) b.0.1) first.takes.place (Takes-then spot F a.0.1 (all_spelled endian b.0.0 a.0.1.place) b.0.1 first.takes others.takes);
    })

pub record TookEach (depth : ℕ) (endian : Endian) (t : Ty) (spot : Spot) (vs : Vals) : Type 0 where
  pub fits : EachFits depth t vs
  pub short : are_short endian vs spot.place ≡ true
  pub is : spot.left ≡ all_spelled endian vs spot.place

abbrev all_done : Vals → Result Vals ValueFault
all_done x = Ok x

all_done_is : (x y : Vals) → all_done x ≡ all_done y → x ≡ y
all_done_is x y e = cc

elements_took : (depth : ℕ) (endian : Endian) (read : Ty → Reader Val) (t : Ty) (n : ℕ) (spot : Spot) (left : List ℕ) (vs : Vals) → IsTaker depth endian read → IsBytes spot.left → left ≡ spot.left
    → elements_from (read t) n spot left ≡ Ok vs → TookEach depth endian t spot vs
unfolding elements_from
elements_took depth endian read t zero spot [] vs taker fits shows e =
    subst (λ (ws : Vals). TookEach depth endian t spot ws) (all_done_is Vals.end vs e) (record { fits = tt; short = refl; is = sym shows })
elements_took depth endian read t (suc n) spot [] vs taker fits shows e =
    subst (λ (ws : Vals). TookEach depth endian t spot ws) (all_done_is Vals.end vs e) (record { fits = tt; short = refl; is = sym shows })
elements_took depth endian read t zero spot (b ∷ left) vs taker fits shows e = absurd cc
elements_took depth endian read t (suc n) spot (b ∷ left) vs taker fits shows e =
    let a = bind_ok (read t spot) (λ v. elements_from (read t) n v.1 v.1.left >>= λ ws. Ok (Vals.more v.0 ws)) vs e in
    let c = bind_ok (elements_from (read t) n a.0.1 a.0.1.left) (λ ws. Ok (Vals.more a.0.0 ws)) vs a.2 in
    let first = taker.takes t spot a.0 fits a.1 in
    let others = elements_took depth endian read t n a.0.1 a.0.1.left c.0 taker first.takes.fits refl c.1 in
    let F = spelled endian a.0.0 spot.place in
    subst (λ (ws : Vals). TookEach depth endian t spot ws) (all_done_is (Vals.more a.0.0 c.0) vs c.2)
    (record {
      fits = (first.fits, others.fits);
      short = and_both _ _ first.short (subst (λ (p : ℕ). are_short endian c.0 p ≡ true) first.takes.place others.short);
      is = first.takes.parts ∙ ap (λ (r : List ℕ). F ++ r) others.is ∙ ap (λ (p : ℕ). F ++ all_spelled endian c.0 p) first.takes.place;
    })

-- ---- an array

abbrev one_done : Val → Result Val ValueFault
one_done x = Ok x

one_value : (x y : Val) → one_done x ≡ one_done y → x ≡ y
one_value x y e = cc

abbrev ok_value : Val × Spot → Result (Val × Spot) ValueFault
ok_value x = Ok x

-- the position of the first element
behind_four : (endian : Endian) (n place : ℕ) → behind place (length (aligned 4 place (number_bytes endian w32 n))) ≡ behind (start_of 4 place) 4
behind_four endian n place =
    let long : length (number_bytes endian w32 n) ≡ 4 = wide32.len endian n in
    omega (arith, length-append (zeros (padding 4 place)) (number_bytes endian w32 n), length-replicate {A = ℕ} (padding 4 place) 0, long)

joined : (a b c d : List ℕ) → (a ++ b) ++ (c ++ d) ≡ a ++ (b ++ (c ++ d))
joined a b c d = append_assoc a b (c ++ d)

array_took_as : (fewer : ℕ) (endian : Endian) (t : Ty) (spot : Spot) (n : ℕ × Spot) (start : Spot) (y : List ℕ × Spot) (vs : Vals) → is_byte t ≡ false → n.0 ≤ array_limit
    → Takes spot (aligned 4 spot.place (number_bytes endian w32 n.0)) n.1 → Takes n.1 (zeros (padding (alignment_of t) n.1.place)) start → Takes start y.0 y.1 → length y.0 ≡ n.0
    → TookEach fewer endian t (record { place = start.place; left = y.0 }) vs → Took (suc fewer) endian (Ty.array t) spot (Val.array t vs, y.1)
array_took_as fewer endian t spot n start y vs other long counted aligns whole count inner =
    let four : n.1.place ≡ behind (start_of 4 spot.place) 4 = counted.place ∙ behind_four endian n.0 spot.place in
    let Z = zeros (padding (alignment_of t) n.1.place) in
    let first : start.place ≡ first_at (alignment_of t) spot.place =
    aligns.place ∙ ap (behind n.1.place) (length-replicate {A = ℕ} (padding (alignment_of t) n.1.place) 0) ∙ ap (start_of (alignment_of t)) four in
    let is : y.0 ≡ all_spelled endian vs (first_at (alignment_of t) spot.place) = inner.is ∙ ap (all_spelled endian vs) first in
    let all : Takes spot (aligned 4 spot.place (number_bytes endian w32 n.0) ++ (Z ++ y.0)) y.1 =
    Takes-then spot (aligned 4 spot.place (number_bytes endian w32 n.0)) n.1 (Z ++ y.0) y.1 counted (Takes-then n.1 Z start y.0 y.1 aligns whole) in
    let text : aligned 4 spot.place (number_bytes endian w32 n.0) ++ (Z ++ y.0) ≡ array_spelled endian (alignment_of t) spot.place y.0 =
    joined (zeros (padding 4 spot.place)) (number_bytes endian w32 n.0) Z y.0
    ∙ ap (λ (k : ℕ). zeros (padding 4 spot.place) ++ (number_bytes endian w32 k ++ (Z ++ y.0))) (sym count)
    ∙ ap (λ (p : ℕ). zeros (padding 4 spot.place) ++ (number_bytes endian w32 (length y.0) ++ (zeros (padding (alignment_of t) p) ++ y.0))) four in
    let short_enough : nat_le (length y.0) array_limit ≡ true = le-leb _ _ (subst (λ (k : ℕ). k ≤ array_limit) (sym count) long) in
    record {
      fits = (refl, inner.fits, other);
      short = and_both _ _ (subst (λ (p : ℕ). are_short endian vs p ≡ true) first inner.short) (subst (λ (e : List ℕ). nat_le (length e) array_limit ≡ true) is short_enough);
      takes = subst (λ (bs : List ℕ). Takes spot bs y.1) (text ∙ ap (array_spelled endian (alignment_of t) spot.place) is) all;
    }

-- there is one type of a byte
is_byte_type : (t : Ty) → is_byte t ≡ true → t ≡ Ty.basic basics.Byte
is_byte_type (Ty.basic basics.Byte) e = refl
is_byte_type (Ty.basic basics.Boolean) e = absurd cc
is_byte_type (Ty.basic basics.Int16) e = absurd cc
is_byte_type (Ty.basic basics.Uint16) e = absurd cc
is_byte_type (Ty.basic basics.Int32) e = absurd cc
is_byte_type (Ty.basic basics.Uint32) e = absurd cc
is_byte_type (Ty.basic basics.Int64) e = absurd cc
is_byte_type (Ty.basic basics.Uint64) e = absurd cc
is_byte_type (Ty.basic basics.Double) e = absurd cc
is_byte_type (Ty.basic basics.UnixFd) e = absurd cc
is_byte_type (Ty.basic basics.String) e = absurd cc
is_byte_type (Ty.basic basics.ObjectPath) e = absurd cc
is_byte_type (Ty.basic basics.Signature) e = absurd cc
is_byte_type Ty.variant e = absurd cc
is_byte_type (Ty.array t) e = absurd cc
is_byte_type (Ty.struct ts) e = absurd cc
is_byte_type (Ty.entry key t) e = absurd cc

each_byte : (them : List ℕ) → IsBytes them → AreBytes them
each_byte [] fits = tt
each_byte (b ∷ them) fits = (fits 0, each_byte them (λ i. fits (suc i)))

-- an array of bytes
bytes_took_as : (fewer : ℕ) (endian : Endian) (spot : Spot) (n : ℕ × Spot) (start : Spot) (y : List ℕ × Spot) → n.0 ≤ array_limit
    → Takes spot (aligned 4 spot.place (number_bytes endian w32 n.0)) n.1 → Takes n.1 (zeros (padding 1 n.1.place)) start → Takes start y.0 y.1 → length y.0 ≡ n.0 → IsBytes y.0
    → Took (suc fewer) endian (Ty.array (Ty.basic basics.Byte)) spot (Val.bytes y.0, y.1)
bytes_took_as fewer endian spot n start y long counted aligns whole count fits =
    let four : n.1.place ≡ behind (start_of 4 spot.place) 4 = counted.place ∙ behind_four endian n.0 spot.place in
    let Z = zeros (padding 1 n.1.place) in
    let all : Takes spot (aligned 4 spot.place (number_bytes endian w32 n.0) ++ (Z ++ y.0)) y.1 =
    Takes-then spot (aligned 4 spot.place (number_bytes endian w32 n.0)) n.1 (Z ++ y.0) y.1 counted (Takes-then n.1 Z start y.0 y.1 aligns whole) in
    let text : aligned 4 spot.place (number_bytes endian w32 n.0) ++ (Z ++ y.0) ≡ array_spelled endian 1 spot.place y.0 =
    joined (zeros (padding 4 spot.place)) (number_bytes endian w32 n.0) Z y.0
    ∙ ap (λ (k : ℕ). zeros (padding 4 spot.place) ++ (number_bytes endian w32 k ++ (Z ++ y.0))) (sym count)
    ∙ ap (λ (p : ℕ). zeros (padding 4 spot.place) ++ (number_bytes endian w32 (length y.0) ++ (zeros (padding 1 p) ++ y.0))) four in
    record {
      fits = (refl, each_byte y.0 fits);
      short = le-leb _ _ (subst (λ (k : ℕ). k ≤ array_limit) (sym count) long);
      takes = subst (λ (bs : List ℕ). Takes spot bs y.1) text all;
    }

elements_took_as : (test : Bool) (fewer : ℕ) (endian : Endian) (read : Ty → Reader Val) (t : Ty) (spot : Spot) (n : ℕ × Spot) (start : Spot) (y : List ℕ × Spot) (v : Val) → is_byte t ≡ test → IsTaker fewer endian read
    → n.0 ≤ array_limit → Takes spot (aligned 4 spot.place (number_bytes endian w32 n.0)) n.1 → Takes n.1 (zeros (padding (alignment_of t) n.1.place)) start → Takes start y.0 y.1 → length y.0 ≡ n.0 → IsBytes y.0
    → cond test (Ok (Val.bytes y.0)) (elements_from (read t) (length y.0) (record { place = start.place; left = y.0 }) y.0 >>= λ vs. Ok (Val.array t vs)) ≡ Ok v
    → Took (suc fewer) endian (Ty.array t) spot (v, y.1)
elements_took_as true fewer endian read t spot n start y v test taker long counted aligns whole count fits e =
    let byte = is_byte_type t test in
    let bare : Takes n.1 (zeros (padding 1 n.1.place)) start = subst (λ (u : Ty). Takes n.1 (zeros (padding (alignment_of u) n.1.place)) start) byte aligns in
    subst (λ (w : Val). Took (suc fewer) endian (Ty.array t) spot (w, y.1)) (one_value (Val.bytes y.0) v e)
    (subst (λ (u : Ty). Took (suc fewer) endian (Ty.array u) spot (Val.bytes y.0, y.1)) (sym byte) (bytes_took_as fewer endian spot n start y long counted bare whole count fits))
elements_took_as false fewer endian read t spot n start y v test taker long counted aligns whole count fits e =
    let g = bind_ok (elements_from (read t) (length y.0) (record { place = start.place; left = y.0 }) y.0) (λ vs. Ok (Val.array t vs)) v e in
    let inner = elements_took fewer endian read t (length y.0) (record { place = start.place; left = y.0 }) y.0 g.0 taker fits refl g.1 in
    subst (λ (w : Val). Took (suc fewer) endian (Ty.array t) spot (w, y.1)) (one_value (Val.array t g.0) v g.2)
    (array_took_as fewer endian t spot n start y g.0 test long counted aligns whole count inner)

array_took : (fewer : ℕ) (endian : Endian) (read : Ty → Reader Val) (t : Ty) (spot : Spot) (x : Val × Spot) → IsTaker fewer endian read → IsBytes spot.left → array_by (read t) endian t spot ≡ Ok x
    → Took (suc fewer) endian (Ty.array t) spot x
unfolding array_by elements_of
array_took fewer endian read t spot x taker fits e =
    let a = bind_ok (number_at endian w32 spot) (λ n. if nat_lt array_limit n.0 then Err ArrayTooLong
    else (padding_at (alignment_of t) n.1 >>= λ start. bytes_at n.0 start >>= λ y. elements_of (read t) t (record { place = start.place; left = y.0 }) >>= λ v. Ok (v, y.1))) x e in
    let counted = number_taken w32 (2 ^ 32) wide32 endian spot a.0 fits a.1 in
    elim (cases_lt array_limit a.0.0) [
      | inl lt ↦
          let none : Err ArrayTooLong ≡ ok_value x = subst (λ (b : Bool). cond b (Err ArrayTooLong) (padding_at (alignment_of t) a.0.1 >>= λ start. bytes_at a.0.0 start >>= λ y. elements_of (read t) t (record { place = start.place; left = y.0 }) >>= λ v. Ok (v, y.1)) ≡ Ok x) (lt-ltb _ _ lt) a.2 in
          absurd cc
      | inr le ↦
          let rest : (padding_at (alignment_of t) a.0.1 >>= λ start. bytes_at a.0.0 start >>= λ y. elements_of (read t) t (record { place = start.place; left = y.0 }) >>= λ v. Ok (v, y.1)) ≡ Ok x =
          subst (λ (b : Bool). cond b (Err ArrayTooLong) (padding_at (alignment_of t) a.0.1 >>= λ start. bytes_at a.0.0 start >>= λ y. elements_of (read t) t (record { place = start.place; left = y.0 }) >>= λ v. Ok (v, y.1)) ≡ Ok x) (le-ltb _ _ le) a.2 in
          let b = bind_ok (padding_at (alignment_of t) a.0.1) (λ start. bytes_at a.0.0 start >>= λ y. elements_of (read t) t (record { place = start.place; left = y.0 }) >>= λ v. Ok (v, y.1)) x rest in
          let c = bind_ok (bytes_at a.0.0 b.0) (λ y. elements_of (read t) t (record { place = b.0.place; left = y.0 }) >>= λ v. Ok (v, y.1)) x b.2 in
          let d = bind_ok (elements_of (read t) t (record { place = b.0.place; left = c.0.0 })) (λ v. Ok (v, c.0.1)) x c.2 in
          let aligns = padding_taken (alignment_of t) a.0.1 b.0 counted.0.fits b.1 in
          let whole = bytes_taken a.0.0 b.0 c.0 aligns.fits c.1 in
          subst (λ (z : Val × Spot). Took (suc fewer) endian (Ty.array t) spot z) (value_is (d.0, c.0.1) x d.2)
          (elements_took_as (is_byte t) fewer endian read t spot a.0 b.0 c.0 d.0 refl taker le counted.0 aligns whole.0 whole.1 whole.2 d.1)
    ]

-- ---- structs and entries

start_place : (spot start : Spot) → Takes spot (zeros (padding 8 spot.place)) start → start.place ≡ start_of 8 spot.place
start_place spot start takes = takes.place ∙ ap (behind spot.place) (length-replicate {A = ℕ} (padding 8 spot.place) 0)

struct_took : (fewer : ℕ) (endian : Endian) (read : Ty → Reader Val) (ts : Tys) (spot : Spot) (x : Val × Spot) → IsTaker fewer endian read → IsBytes spot.left → struct_by read ts spot ≡ Ok x
    → Took (suc fewer) endian (Ty.struct ts) spot x
unfolding struct_by
struct_took fewer endian read ts spot x taker fits e =
    let a = bind_ok (padding_at 8 spot) (λ start. fields_by read ts start >>= λ vs. Ok (Val.struct vs.0, vs.1)) x e in
    let b = bind_ok (fields_by read ts a.0) (λ vs. Ok (Val.struct vs.0, vs.1)) x a.2 in
    let padded = padding_taken 8 spot a.0 fits a.1 in
    let Z = zeros (padding 8 spot.place) in
    let inner = fields_took fewer endian read ts a.0 b.0 taker padded.fits (below_8 spot Z a.0 padded) b.1 in
    let start = start_place spot a.0 padded in
    subst (λ (y : Val × Spot). Took (suc fewer) endian (Ty.struct ts) spot y) (value_is (Val.struct b.0.0, b.0.1) x b.2)
    (record {
      fits = inner.fits;
      short = subst (λ (p : ℕ). are_short endian b.0.0 p ≡ true) start inner.short;
      takes = subst (λ (p : ℕ). Takes spot (Z ++ all_spelled endian b.0.0 p) b.0.1) start (Takes-then spot Z a.0 (all_spelled endian b.0.0 a.0.place) b.0.1 padded inner.takes);
    })

entry_took_as : (fewer : ℕ) (endian : Endian) (key : BasicType) (t : Ty) (spot start : Spot) (k v : Val × Spot) → Takes spot (zeros (padding 8 spot.place)) start
    → Took fewer endian (Ty.basic key) start k → Took fewer endian t k.1 v → Took (suc fewer) endian (Ty.entry key t) spot (Val.entry k.0 v.0, v.1)
entry_took_as fewer endian key t spot start k v padded first second =
    let Z = zeros (padding 8 spot.place) in
    let K = spelled endian k.0 start.place in
    let at = start_place spot start padded in
    let both = Takes-then start K k.1 (spelled endian v.0 k.1.place) v.1 first.takes second.takes in
    let whole = Takes-then spot Z start (K ++ spelled endian v.0 k.1.place) v.1 padded both in
    let there = subst (λ (p : ℕ). Takes spot (Z ++ (K ++ spelled endian v.0 p)) v.1) first.takes.place whole in
    record {
      fits = (first.fits, second.fits);
      short = and_both _ _ (subst (λ (p : ℕ). is_short endian k.0 p ≡ true) at first.short)
          (subst (λ (p : ℕ). is_short endian v.0 (behind p (length (spelled endian k.0 p))) ≡ true) at (subst (λ (p : ℕ). is_short endian v.0 p ≡ true) first.takes.place second.short));
      takes = subst (λ (p : ℕ). Takes spot (Z ++ (spelled endian k.0 p ++ spelled endian v.0 (behind p (length (spelled endian k.0 p))))) v.1) at there;
    }

entry_took : (fewer : ℕ) (endian : Endian) (read : Ty → Reader Val) (key : BasicType) (t : Ty) (spot : Spot) (x : Val × Spot) → IsTaker fewer endian read → IsBytes spot.left → entry_by read endian key t spot ≡ Ok x
    → Took (suc fewer) endian (Ty.entry key t) spot x
unfolding entry_by
entry_took fewer endian read key t spot x taker fits e =
    let a = bind_ok (padding_at 8 spot) (λ start. basic_at endian key start >>= λ k. read t k.1 >>= λ v. Ok (Val.entry k.0 v.0, v.1)) x e in
    let b = bind_ok (basic_at endian key a.0) (λ k. read t k.1 >>= λ v. Ok (Val.entry k.0 v.0, v.1)) x a.2 in
    let c = bind_ok (read t b.0.1) (λ v. Ok (Val.entry b.0.0 v.0, v.1)) x b.2 in
    let padded = padding_taken 8 spot a.0 fits a.1 in
    let first = basic_took fewer endian key a.0 b.0 padded.fits b.1 in
    let second = taker.takes t b.0.1 c.0 first.takes.fits c.1 in
    subst (λ (y : Val × Spot). Took (suc fewer) endian (Ty.entry key t) spot y) (value_is (Val.entry b.0.0 c.0.0, c.0.1) x c.2)
    (entry_took_as fewer endian key t spot a.0 b.0 c.0 padded first second)

-- ---- every type

taken_by : (depth : ℕ) (endian : Endian) → ((fewer : ℕ) → depth ≡ suc fewer → IsTaker fewer endian (value_at fewer endian)) → (t : Ty) (spot : Spot) (x : Val × Spot) → IsBytes spot.left
    → value_at depth endian t spot ≡ Ok x → Took depth endian t spot x
unfolding value_at
taken_by zero endian inner (Ty.basic b) spot x fits e = basic_took zero endian b spot x fits e
taken_by (suc fewer) endian inner (Ty.basic b) spot x fits e = basic_took (suc fewer) endian b spot x fits e
taken_by zero endian inner Ty.variant spot x fits e = absurd cc
taken_by (suc fewer) endian inner Ty.variant spot x fits e = variant_took fewer endian (value_at fewer endian) spot x (inner fewer refl) fits e
taken_by zero endian inner (Ty.array t) spot x fits e = absurd cc
taken_by (suc fewer) endian inner (Ty.array t) spot x fits e = array_took fewer endian (value_at fewer endian) t spot x (inner fewer refl) fits e
taken_by zero endian inner (Ty.struct ts) spot x fits e = absurd cc
taken_by (suc fewer) endian inner (Ty.struct ts) spot x fits e = struct_took fewer endian (value_at fewer endian) ts spot x (inner fewer refl) fits e
taken_by zero endian inner (Ty.entry key t) spot x fits e = absurd cc
taken_by (suc fewer) endian inner (Ty.entry key t) spot x fits e = entry_took fewer endian (value_at fewer endian) key t spot x (inner fewer refl) fits e

pub takers : (depth : ℕ) (endian : Endian) → IsTaker depth endian (value_at depth endian)
takers zero endian = record { takes = taken_by zero endian (λ fewer e. absurd cc) }
takers (suc fewer) endian =
    record { takes = taken_by (suc fewer) endian (λ k e. let same : fewer ≡ k = cc in subst (λ (m : ℕ). IsTaker m endian (value_at m endian)) same (takers fewer endian)) }
