-- The spelling of a value of any type is read again, whatever follows.
use Rattle.std.proofs.Common.{◌≡◌, ℕ, zero, suc, ◌+◌, ◌<◌, ◌≤◌, ◌^◌, ◌&&◌, Bool, true, false, List, [], ◌∷◌, ◌++◌, length, Ok, refl, sym, ap, subst, ◌∙◌, arith, append_assoc, append-nil, length-append}
use Rattle.std.specs.Prelude.{nat_le}
use Rattle.std.specs.Int.{w32, byte_len}
use Rattle.std.proofs.lemmas.Bool.{le-ltb, leb-true}
use Rattle.std.proofs.lemmas.List.{length-replicate, length_push}
use Rattle.dbus_types.specs.declared.complete_type.BasicType.{BasicType}
use Rattle.dbus_types.specs.declared.complete_type.BasicType.TheVariants as basics
use Rattle.dbus_types.specs.declared.endian.Endian.{Endian}
use Rattle.dbus_types.specs.Types.{Ty, Tys, has_type, is_within, are_within, is_signature, text_of, texts_of, nesting_limit, signature_limit}
use Rattle.dbus_types.specs.Values.{Val, Vals, ty_of}
use Rattle.dbus_types.specs.Signatures.{◌>>=◌}
use Rattle.dbus_marshal.specs.Limits.{array_limit}
use Rattle.dbus_marshal.specs.Wire.{width_of, alignment_of, padding, behind, start_of, zeros, number_bytes, limit_of, is_byte, IsTextOf}
use Rattle.dbus_marshal.specs.Fitting.{Fits, AllFit, EachFits}
use Rattle.dbus_marshal.specs.Spelling.{aligned, text_spelled, array_spelled, first_at, spelled, all_spelled, is_short, are_short}
use Rattle.dbus_marshal.specs.Unmarshal.{Reader, Spot, signature_value_at, basic_at, variant_by, elements_from, elements_of, array_by, fields_by, struct_by, entry_by, value_at}
use Rattle.dbus_marshal.proofs.Taking.{wide8, wide16, wide32, wide64}
use Rattle.dbus_marshal.proofs.AgainBasics.{at, behind_twice, bytes_again, padding_again, number_again, signature_again, basic_again, text_again}

both : (a b : Bool) → (a && b) ≡ true → (a ≡ true) × (b ≡ true)
both true b e = (refl, e)
both false b e = absurd cc

and_both : (a b : Bool) → a ≡ true → b ≡ true → (a && b) ≡ true
and_both true b e f = f
and_both false b e f = absurd cc

-- ---- types whose values all have a byte

abbrev mutual
  -- no struct in the type is empty
  pub is_solid : Ty → Bool
  is_solid (Ty.basic b) = true
  is_solid Ty.variant = true
  is_solid (Ty.array t) = is_solid t
  is_solid (Ty.struct ts) = has_type ts && are_solid ts
  is_solid (Ty.entry key t) = is_solid t

  pub are_solid : Tys → Bool
  are_solid Tys.end = true
  are_solid (Tys.more t ts) = is_solid t && are_solid ts

mutual
  pub within_solid : (entries : Bool) (arrays structs : ℕ) (t : Ty) → is_within entries arrays structs t ≡ true → is_solid t ≡ true
  within_solid entries arrays structs (Ty.basic b) w = refl
  within_solid entries arrays structs Ty.variant w = refl
  within_solid entries zero structs (Ty.array t) w = absurd cc
  within_solid entries (suc arrays) structs (Ty.array t) w = within_solid true arrays structs t w
  within_solid entries arrays zero (Ty.struct ts) w = absurd cc
  within_solid entries arrays (suc structs) (Ty.struct ts) w =
      let parts = both (has_type ts) (are_within arrays structs ts) w in
      and_both _ _ parts.0 (within_are_solid arrays structs ts parts.1)
  within_solid entries arrays structs (Ty.entry key t) w = within_solid false arrays structs t (both entries (is_within false arrays structs t) w).1

  pub within_are_solid : (arrays structs : ℕ) (ts : Tys) → are_within arrays structs ts ≡ true → are_solid ts ≡ true
  within_are_solid arrays structs Tys.end w = refl
  within_are_solid arrays structs (Tys.more t ts) w =
      let parts = both (is_within false arrays structs t) (are_within arrays structs ts) w in
      and_both _ _ (within_solid false arrays structs t parts.0) (within_are_solid arrays structs ts parts.1)

pub signature_solid : (ts : Tys) → is_signature ts ≡ true → are_solid ts ≡ true
signature_solid ts valid = within_are_solid nesting_limit nesting_limit ts (both (are_within nesting_limit nesting_limit ts) (nat_le (length (texts_of ts)) signature_limit) valid).0

pub one_solid : (t : Ty) → is_signature (Tys.more t Tys.end) ≡ true → is_solid t ≡ true
one_solid t valid = (both (is_solid t) true (signature_solid (Tys.more t Tys.end) valid)).0

number_some : (endian : Endian) (b : BasicType) (n : ℕ) → n < limit_of b → 0 < length (number_bytes endian (width_of b) n)
number_some endian basics.Byte n below = omega (arith, wide8.len endian n)
number_some endian basics.Boolean n below = omega (arith, wide32.len endian n)
number_some endian basics.Int16 n below = omega (arith, wide16.len endian n)
number_some endian basics.Uint16 n below = omega (arith, wide16.len endian n)
number_some endian basics.Int32 n below = omega (arith, wide32.len endian n)
number_some endian basics.Uint32 n below = omega (arith, wide32.len endian n)
number_some endian basics.Int64 n below = omega (arith, wide64.len endian n)
number_some endian basics.Uint64 n below = omega (arith, wide64.len endian n)
number_some endian basics.Double n below = omega (arith, wide64.len endian n)
number_some endian basics.UnixFd n below = omega (arith, wide32.len endian n)
number_some endian basics.String n below = absurd (omega arith)
number_some endian basics.ObjectPath n below = absurd (omega arith)
number_some endian basics.Signature n below = absurd (omega arith)

some_behind : (xs ys : List ℕ) → 0 < length ys → 0 < length (xs ++ ys)
some_behind xs ys some = omega (arith, length-append xs ys)

some_before : (xs ys : List ℕ) → 0 < length xs → 0 < length (xs ++ ys)
some_before xs ys some = omega (arith, length-append xs ys)

text_some : (endian : Endian) (b : BasicType) (text : List ℕ) (place : ℕ) → 0 < length (text_spelled endian b text place)
text_some endian b text place =
    some_behind (zeros (padding (byte_len (width_of b)) place)) (number_bytes endian (width_of b) (length text) ++ (text ++ 0 ∷ []))
    (some_behind (number_bytes endian (width_of b) (length text)) (text ++ 0 ∷ []) (omega (arith, length_push text 0)))

-- a value of a solid type has a byte
pub some_bytes : (depth : ℕ) (endian : Endian) (t : Ty) (v : Val) (place : ℕ) → is_solid t ≡ true → Fits depth t v → 0 < length (spelled endian v place)
some_bytes depth endian (Ty.basic b) (Val.number c n) place solid f =
    some_behind (zeros (padding (byte_len (width_of c)) place)) (number_bytes endian (width_of c) n) (number_some endian c n (subst (λ (k : BasicType). n < limit_of k) (sym f.0) f.1))
some_bytes depth endian (Ty.basic b) (Val.text c text) place solid f = text_some endian c text place
some_bytes depth endian Ty.variant (Val.variant v) place solid f =
    let front = text_spelled endian basics.Signature (text_of (ty_of v)) place in
    some_before front (spelled endian v (behind place (length front))) (text_some endian basics.Signature (text_of (ty_of v)) place)
some_bytes depth endian (Ty.array t) (Val.array u vs) place solid f =
    let elements = all_spelled endian vs (first_at (alignment_of u) place) in
    let rest = aligned (alignment_of u) (behind (start_of 4 place) 4) elements in
    some_behind (zeros (padding 4 place)) (number_bytes endian w32 (length elements) ++ rest)
    (some_before (number_bytes endian w32 (length elements)) rest (omega (arith, wide32.len endian (length elements))))
some_bytes depth endian (Ty.array t) (Val.bytes them) place solid f =
    let rest = aligned 1 (behind (start_of 4 place) 4) them in
    some_behind (zeros (padding 4 place)) (number_bytes endian w32 (length them) ++ rest)
    (some_before (number_bytes endian w32 (length them)) rest (omega (arith, wide32.len endian (length them))))
some_bytes zero endian (Ty.struct ts) (Val.struct vs) place solid f = absurd f
some_bytes (suc fewer) endian (Ty.struct Tys.end) (Val.struct vs) place solid f = absurd cc
some_bytes (suc fewer) endian (Ty.struct (Tys.more t ts)) (Val.struct Vals.end) place solid f = absurd f
some_bytes (suc fewer) endian (Ty.struct (Tys.more t ts)) (Val.struct (Vals.more v vs)) place solid f =
    let first = spelled endian v (start_of 8 place) in
    let rest = all_spelled endian vs (behind (start_of 8 place) (length first)) in
    some_behind (zeros (padding 8 place)) (first ++ rest) (some_before first rest (some_bytes fewer endian t v (start_of 8 place) (both (is_solid t) (are_solid ts) solid).0 f.0))
some_bytes zero endian (Ty.entry key t) (Val.entry k v) place solid f = absurd f
some_bytes (suc fewer) endian (Ty.entry key t) (Val.entry k v) place solid f =
    let first = spelled endian k (start_of 8 place) in
    let rest = spelled endian v (behind (start_of 8 place) (length first)) in
    some_behind (zeros (padding 8 place)) (first ++ rest) (some_before first rest (some_bytes fewer endian (Ty.basic key) k (start_of 8 place) refl f.0))
some_bytes depth endian t v place solid f = absurd f

-- ---- what is spelled is read again

-- a reader that reads again what is spelled
pub record ReadsAgain (depth : ℕ) (endian : Endian) (read : Ty → Reader Val) : Type 0 where
  pub again : (t : Ty) (v : Val) (place : ℕ) (rest : List ℕ) → is_solid t ≡ true → Fits depth t v → is_short endian v place ≡ true
      → read t (at place (spelled endian v place ++ rest)) ≡ Ok (v, at (behind place (length (spelled endian v place))) rest)

pub fields_again : (depth : ℕ) (endian : Endian) (read : Ty → Reader Val) (ts : Tys) (vs : Vals) (place : ℕ) (rest : List ℕ) → ReadsAgain depth endian read → place < 8
    → are_solid ts ≡ true → AllFit depth ts vs → are_short endian vs place ≡ true
    → fields_by read ts (at place (all_spelled endian vs place ++ rest)) ≡ Ok (vs, at (behind place (length (all_spelled endian vs place))) rest)
unfolding fields_by
fields_again depth endian read Tys.end Vals.end place rest reads below solid f s =
    let same : place ≡ behind place 0 = omega arith in
    ap (λ (p : ℕ). Ok (Vals.end, at p rest)) same
fields_again depth endian read (Tys.more t ts) (Vals.more v vs) place rest reads below solid f s =
    let solids = both (is_solid t) (are_solid ts) solid in
    let shorts = both (is_short endian v place) (are_short endian vs (behind place (length (spelled endian v place)))) s in
    let F = spelled endian v place in
    let next = behind place (length F) in
    let R = all_spelled endian vs next in
    let end : behind next (length R) ≡ behind place (length (F ++ R)) = behind_twice place (length F) (length R) ∙ ap (behind place) (sym (length-append F R)) in
    rw (append_assoc F R rest, reads.again t v place (R ++ rest) solids.0 f.0 shorts.0, fields_again depth endian read ts vs next rest reads (omega arith) solids.1 f.1 shorts.1)
    (ap (λ (p : ℕ). Ok (Vals.more v vs, at p rest)) end)
fields_again depth endian read ts vs place rest reads below solid f s = absurd f

elements_on : (read : Reader Val) (n : ℕ) (spot : Spot) (left : List ℕ) → 0 < length left
    → elements_from read (suc n) spot left ≡ (read spot >>= λ v. elements_from read n v.1 v.1.left >>= λ vs. Ok (Vals.more v.0 vs))
unfolding elements_from
elements_on read n spot [] some = absurd (omega arith)
elements_on read n spot (b ∷ left) some = refl

elements_again : (depth : ℕ) (endian : Endian) (read : Ty → Reader Val) (t : Ty) (vs : Vals) (n place : ℕ) → ReadsAgain depth endian read → is_solid t ≡ true → EachFits depth t vs
    → are_short endian vs place ≡ true → length (all_spelled endian vs place) ≤ n → elements_from (read t) n (at place (all_spelled endian vs place)) (all_spelled endian vs place) ≡ Ok vs
unfolding elements_from
elements_again depth endian read t Vals.end zero place reads solid f s turns = refl
elements_again depth endian read t Vals.end (suc n) place reads solid f s turns = refl
elements_again depth endian read t (Vals.more v vs) zero place reads solid f s turns =
    absurd (omega (arith, some_bytes depth endian t v place solid f.0, length-append (spelled endian v place) (all_spelled endian vs (behind place (length (spelled endian v place))))))
elements_again depth endian read t (Vals.more v vs) (suc n) place reads solid f s turns =
    let shorts = both (is_short endian v place) (are_short endian vs (behind place (length (spelled endian v place)))) s in
    let F = spelled endian v place in
    let next = behind place (length F) in
    let R = all_spelled endian vs next in
    let some = some_bytes depth endian t v place solid f.0 in
    elements_on (read t) n (at place (F ++ R)) (F ++ R) (some_before F R some)
    ∙ rw (reads.again t v place R solid f.0 shorts.0, elements_again depth endian read t vs n next reads solid f.1 shorts.1 (omega (arith, some, length-append F R))) refl

-- ---- a variant

variant_again : (fewer : ℕ) (endian : Endian) (read : Ty → Reader Val) (v : Val) (place : ℕ) (rest : List ℕ) → ReadsAgain fewer endian read → is_signature (Tys.more (ty_of v) Tys.end) ≡ true
    → Fits fewer (ty_of v) v → is_short endian (Val.variant v) place ≡ true
    → variant_by read endian (at place (spelled endian (Val.variant v) place ++ rest)) ≡ Ok (Val.variant v, at (behind place (length (spelled endian (Val.variant v) place))) rest)
unfolding variant_by
variant_again fewer endian read v place rest reads valid f s =
    let T = text_of (ty_of v) in
    let F = text_spelled endian basics.Signature T place in
    let next = behind place (length F) in
    let V = spelled endian v next in
    let got : signature_value_at endian (at place (F ++ (V ++ rest))) ≡ Ok (Tys.more (ty_of v) Tys.end, at next (V ++ rest)) =
    subst (λ (bs : List ℕ). signature_value_at endian (at place (text_spelled endian basics.Signature bs place ++ (V ++ rest)))
    ≡ Ok (Tys.more (ty_of v) Tys.end, at (behind place (length (text_spelled endian basics.Signature bs place))) (V ++ rest))) (append-nil T)
    (signature_again endian place (Tys.more (ty_of v) Tys.end) (V ++ rest) valid) in
    let end : behind next (length V) ≡ behind place (length (F ++ V)) = behind_twice place (length F) (length V) ∙ ap (behind place) (sym (length-append F V)) in
    rw (append_assoc F V rest, got, reads.again (ty_of v) v next rest (one_solid (ty_of v) valid) f s) (ap (λ (p : ℕ). Ok (Val.variant v, at p rest)) end)

-- ---- an array

array_end : (endian : Endian) (alignment place : ℕ) (elements : List ℕ) → behind (first_at alignment place) (length elements) ≡ behind place (length (array_spelled endian alignment place elements))
array_end endian alignment place elements =
    let N = number_bytes endian w32 (length elements) in
    let Z = zeros (padding alignment (behind (start_of 4 place) 4)) in
    let long : length N ≡ 4 = wide32.len endian (length elements) in
    let zeros_long : length Z ≡ padding alignment (behind (start_of 4 place) 4) = length-replicate {A = ℕ} (padding alignment (behind (start_of 4 place) 4)) 0 in
    behind_twice (behind (start_of 4 place) 4) (padding alignment (behind (start_of 4 place) 4)) (length elements)
    ∙ behind_twice (start_of 4 place) 4 (padding alignment (behind (start_of 4 place) 4) + length elements)
    ∙ behind_twice place (padding 4 place) (4 + (padding alignment (behind (start_of 4 place) 4) + length elements))
    ∙ ap (behind place) (sym (length-append (zeros (padding 4 place)) (N ++ (Z ++ elements))
    ∙ ap (λ (k : ℕ). k + length (N ++ (Z ++ elements))) (length-replicate {A = ℕ} (padding 4 place) 0)
    ∙ ap (λ (k : ℕ). padding 4 place + k) (length-append N (Z ++ elements) ∙ ap (λ (k : ℕ). k + length (Z ++ elements)) long
    ∙ ap (λ (k : ℕ). 4 + k) (length-append Z elements ∙ ap (λ (k : ℕ). k + length elements) zeros_long))))

array_regroup : (zs ns ys es rest : List ℕ) → (zs ++ (ns ++ (ys ++ es))) ++ rest ≡ (zs ++ ns) ++ (ys ++ (es ++ rest))
array_regroup zs ns ys es rest =
    append_assoc zs (ns ++ (ys ++ es)) rest ∙ ap (λ (r : List ℕ). zs ++ r) (append_assoc ns (ys ++ es) rest ∙ ap (λ (r : List ℕ). ns ++ r) (append_assoc ys es rest))
    ∙ sym (append_assoc zs ns (ys ++ (es ++ rest)))

array_again : (fewer : ℕ) (endian : Endian) (read : Ty → Reader Val) (t : Ty) (vs : Vals) (place : ℕ) (rest : List ℕ) → ReadsAgain fewer endian read → is_byte t ≡ false → is_solid t ≡ true → EachFits fewer t vs
    → is_short endian (Val.array t vs) place ≡ true
    → array_by (read t) endian t (at place (spelled endian (Val.array t vs) place ++ rest)) ≡ Ok (Val.array t vs, at (behind place (length (spelled endian (Val.array t vs) place))) rest)
unfolding array_by elements_of
array_again fewer endian read t vs place rest reads other solid f s =
    let first = first_at (alignment_of t) place in
    let E = all_spelled endian vs first in
    let shorts = both (are_short endian vs first) (nat_le (length E) array_limit) s in
    let long : length E ≤ array_limit = leb-true _ _ shorts.1 in
    let Z = zeros (padding (alignment_of t) (behind (start_of 4 place) 4)) in
    rw (
      array_regroup (zeros (padding 4 place)) (number_bytes endian w32 (length E)) Z E rest,
      number_again w32 (2 ^ 32) wide32 endian place (length E) (Z ++ (E ++ rest)) (omega arith),
      le-ltb array_limit (length E) long,
      padding_again (alignment_of t) (behind (start_of 4 place) 4) (E ++ rest),
      bytes_again first (length E) E rest refl,
      other,
      elements_again fewer endian read t vs (length E) first reads solid f shorts.0 (omega arith),
    )
    (ap (λ (p : ℕ). Ok (Val.array t vs, at p rest)) (array_end endian (alignment_of t) place E))

bytes_array_again : (endian : Endian) (read : Reader Val) (them : List ℕ) (place : ℕ) (rest : List ℕ) → is_short endian (Val.bytes them) place ≡ true
    → array_by read endian (Ty.basic basics.Byte) (at place (spelled endian (Val.bytes them) place ++ rest)) ≡ Ok (Val.bytes them, at (behind place (length (spelled endian (Val.bytes them) place))) rest)
unfolding array_by elements_of
bytes_array_again endian read them place rest s =
    let first = first_at 1 place in
    let long : length them ≤ array_limit = leb-true _ _ s in
    let Z = zeros (padding 1 (behind (start_of 4 place) 4)) in
    rw (
      array_regroup (zeros (padding 4 place)) (number_bytes endian w32 (length them)) Z them rest,
      number_again w32 (2 ^ 32) wide32 endian place (length them) (Z ++ (them ++ rest)) (omega arith),
      le-ltb array_limit (length them) long,
      padding_again 1 (behind (start_of 4 place) 4) (them ++ rest),
      bytes_again first (length them) them rest refl,
    )
    (ap (λ (p : ℕ). Ok (Val.bytes them, at p rest)) (array_end endian 1 place them))

-- ---- structs and entries

padded_end : (alignment place : ℕ) (bytes : List ℕ) → behind (start_of alignment place) (length bytes) ≡ behind place (length (aligned alignment place bytes))
padded_end alignment place bytes =
    behind_twice place (padding alignment place) (length bytes)
    ∙ ap (behind place) (sym (length-append (zeros (padding alignment place)) bytes ∙ ap (λ (k : ℕ). k + length bytes) (length-replicate {A = ℕ} (padding alignment place) 0)))

struct_again : (fewer : ℕ) (endian : Endian) (read : Ty → Reader Val) (ts : Tys) (vs : Vals) (place : ℕ) (rest : List ℕ) → ReadsAgain fewer endian read → are_solid ts ≡ true → AllFit fewer ts vs
    → are_short endian vs (start_of 8 place) ≡ true
    → struct_by read ts (at place (spelled endian (Val.struct vs) place ++ rest)) ≡ Ok (Val.struct vs, at (behind place (length (spelled endian (Val.struct vs) place))) rest)
unfolding struct_by
struct_again fewer endian read ts vs place rest reads solid f s =
    let Z = zeros (padding 8 place) in
    let E = all_spelled endian vs (start_of 8 place) in
    rw (append_assoc Z E rest, padding_again 8 place (E ++ rest), fields_again fewer endian read ts vs (start_of 8 place) rest reads (omega arith) solid f s)
    (ap (λ (p : ℕ). Ok (Val.struct vs, at p rest)) (padded_end 8 place E))

key_again : (depth : ℕ) (endian : Endian) (key : BasicType) (k : Val) (place : ℕ) (rest : List ℕ) → Fits depth (Ty.basic key) k
    → basic_at endian key (at place (spelled endian k place ++ rest)) ≡ Ok (k, at (behind place (length (spelled endian k place))) rest)
key_again depth endian key (Val.number c n) place rest f =
    subst (λ (b : BasicType). basic_at endian b (at place (spelled endian (Val.number c n) place ++ rest)) ≡ Ok (Val.number c n, at (behind place (length (spelled endian (Val.number c n) place))) rest)) f.0
    (basic_again endian c n place rest (subst (λ (b : BasicType). n < limit_of b) (sym f.0) f.1))
key_again depth endian key (Val.text c text) place rest f =
    subst (λ (b : BasicType). basic_at endian b (at place (spelled endian (Val.text c text) place ++ rest)) ≡ Ok (Val.text c text, at (behind place (length (spelled endian (Val.text c text) place))) rest)) f.0
    (text_again endian c text place rest (subst (λ (b : BasicType). IsTextOf b text) (sym f.0) f.1))
key_again depth endian key k place rest f = absurd f

entry_again : (fewer : ℕ) (endian : Endian) (read : Ty → Reader Val) (key : BasicType) (t : Ty) (k v : Val) (place : ℕ) (rest : List ℕ) → ReadsAgain fewer endian read → is_solid t ≡ true
    → Fits fewer (Ty.basic key) k → Fits fewer t v → is_short endian v (behind (start_of 8 place) (length (spelled endian k (start_of 8 place)))) ≡ true
    → entry_by read endian key t (at place (spelled endian (Val.entry k v) place ++ rest)) ≡ Ok (Val.entry k v, at (behind place (length (spelled endian (Val.entry k v) place))) rest)
unfolding entry_by
entry_again fewer endian read key t k v place rest reads solid fk fv s =
    let Z = zeros (padding 8 place) in
    let start = start_of 8 place in
    let K = spelled endian k start in
    let next = behind start (length K) in
    let V = spelled endian v next in
    let end : behind next (length V) ≡ behind place (length (Z ++ (K ++ V))) =
    behind_twice start (length K) (length V) ∙ ap (behind start) (sym (length-append K V)) ∙ padded_end 8 place (K ++ V) in
    rw (append_assoc Z (K ++ V) rest, padding_again 8 place ((K ++ V) ++ rest), append_assoc K V rest, key_again fewer endian key k start (V ++ rest) fk, reads.again t v next rest solid fv s)
    (ap (λ (p : ℕ). Ok (Val.entry k v, at p rest)) end)

-- ---- every type

again_by : (depth : ℕ) (endian : Endian) → ((fewer : ℕ) → depth ≡ suc fewer → ReadsAgain fewer endian (value_at fewer endian)) → (t : Ty) (v : Val) (place : ℕ) (rest : List ℕ)
    → is_solid t ≡ true → Fits depth t v → is_short endian v place ≡ true
    → value_at depth endian t (at place (spelled endian v place ++ rest)) ≡ Ok (v, at (behind place (length (spelled endian v place))) rest)
unfolding value_at
again_by zero endian inner (Ty.basic b) v place rest solid f s = key_again zero endian b v place rest f
again_by (suc fewer) endian inner (Ty.basic b) v place rest solid f s = key_again (suc fewer) endian b v place rest f
again_by zero endian inner Ty.variant (Val.variant v) place rest solid f s = absurd f
again_by (suc fewer) endian inner Ty.variant (Val.variant v) place rest solid f s = variant_again fewer endian (value_at fewer endian) v place rest (inner fewer refl) f.0 f.1 s
again_by zero endian inner (Ty.array t) (Val.array u vs) place rest solid f s = absurd f
again_by (suc fewer) endian inner (Ty.array t) (Val.array u vs) place rest solid f s =
    subst (λ (k : Ty). value_at (suc fewer) endian (Ty.array t) (at place (spelled endian (Val.array k vs) place ++ rest)) ≡ Ok (Val.array k vs, at (behind place (length (spelled endian (Val.array k vs) place))) rest))
    (sym f.0) (array_again fewer endian (value_at fewer endian) t vs place rest (inner fewer refl) f.2 solid f.1 (subst (λ (k : Ty). is_short endian (Val.array k vs) place ≡ true) f.0 s))
again_by zero endian inner (Ty.array t) (Val.bytes them) place rest solid f s = absurd f
again_by (suc fewer) endian inner (Ty.array t) (Val.bytes them) place rest solid f s =
    subst (λ (k : Ty). value_at (suc fewer) endian (Ty.array k) (at place (spelled endian (Val.bytes them) place ++ rest)) ≡ Ok (Val.bytes them, at (behind place (length (spelled endian (Val.bytes them) place))) rest))
    (sym f.0) (bytes_array_again endian (value_at fewer endian (Ty.basic basics.Byte)) them place rest s)
again_by zero endian inner (Ty.struct ts) (Val.struct vs) place rest solid f s = absurd f
again_by (suc fewer) endian inner (Ty.struct ts) (Val.struct vs) place rest solid f s =
    struct_again fewer endian (value_at fewer endian) ts vs place rest (inner fewer refl) (both (has_type ts) (are_solid ts) solid).1 f s
again_by zero endian inner (Ty.entry key t) (Val.entry k v) place rest solid f s = absurd f
again_by (suc fewer) endian inner (Ty.entry key t) (Val.entry k v) place rest solid f s =
    let shorts = both (is_short endian k (start_of 8 place)) (is_short endian v (behind (start_of 8 place) (length (spelled endian k (start_of 8 place))))) s in
    entry_again fewer endian (value_at fewer endian) key t k v place rest (inner fewer refl) solid f.0 f.1 shorts.1
again_by depth endian inner t v place rest solid f s = absurd f

pub readers_again : (depth : ℕ) (endian : Endian) → ReadsAgain depth endian (value_at depth endian)
readers_again zero endian = record { again = again_by zero endian (λ fewer e. absurd cc) }
readers_again (suc fewer) endian =
    record { again = again_by (suc fewer) endian (λ k e. let same : fewer ≡ k = cc in subst (λ (m : ℕ). ReadsAgain m endian (value_at m endian)) same (readers_again fewer endian)) }
