-- The two laws of reading a signature: types are read exactly if the text spells them.
use Rattle.std.proofs.Common.{◌≡◌, ℕ, zero, suc, ◌<◌, ◌≤◌, ◌==◌, ◌&&◌, Bool, true, false, cond, List, [], ◌∷◌, ◌++◌, length, Result, Ok, Err, refl, sym, ap, subst, ◌∙◌, arith, append_assoc, length-append, ltb, inl, inr, Vec, Global}
use Rattle.std.specs.Prelude.{nat_le, IfOk, IsTrue}
use Rattle.std.proofs.lemmas.Bool.{le-ltb, leb-true, le-leb, lt-ltb, cases_lt}
use Rattle.std.proofs.lemmas.Bool.Decides.{eqb_tells}
use Rattle.dbus_types.specs.declared.complete_type.BasicType.{BasicType}
use Rattle.dbus_types.specs.declared.complete_type.BasicType.TheVariants as basics
use Rattle.dbus_types.specs.declared.signature_reading.Lead.{Lead}
use Rattle.dbus_types.specs.declared.signature_reading.Lead.TheVariants as leads
use Rattle.dbus_types.specs.declared.complete_type.CompleteType.{CompleteType}
use Rattle.dbus_types.specs.Views.{types_of}
use Rattle.dbus_types.specs.declared.signature.SignatureFault.{SignatureFault}
use Rattle.dbus_types.specs.declared.signature.SignatureFault.TheVariants.{BadType, TooLong}
use Rattle.dbus_types.specs.Types.{Ty, Tys, basic, variant, array, struct, entry, end, more, code_of, text_of, texts_of, has_type, is_within, are_within, is_signature, nesting_limit, signature_limit}
use Rattle.dbus_types.specs.Signatures.{◌>>=◌, Reads, Reader, lead_of, led_by, closed_by, keyed_by, entry_by, element_by, array_by, struct_by, fields_by, types_by, type_at, signature_at}
use Rattle.dbus_types.proofs.SignatureReading.{array_in, struct_in, type_at-is}

-- the value of a step that didn't fail
pub bind_ok : {A B E : Type 0} (r : Result A E) (f : A → Result B E) (y : B) → (r >>= f) ≡ Ok y → (x : A) × (r ≡ Ok x) × (f x ≡ Ok y)
bind_ok (Ok x) f y e = (x, refl, e)
bind_ok (Err d) f y e = absurd cc

-- both tests are true
pub both_true : (a b : Bool) → (a && b) ≡ true → (a ≡ true) × (b ≡ true)
both_true true b e = (refl, e)
both_true false b e = absurd cc

lead_of-code : (b : BasicType) → lead_of (code_of b) ≡ leads.Basic b
lead_of-code basics.Byte = refl
lead_of-code basics.Boolean = refl
lead_of-code basics.Int16 = refl
lead_of-code basics.Uint16 = refl
lead_of-code basics.Int32 = refl
lead_of-code basics.Uint32 = refl
lead_of-code basics.Int64 = refl
lead_of-code basics.Uint64 = refl
lead_of-code basics.Double = refl
lead_of-code basics.UnixFd = refl
lead_of-code basics.String = refl
lead_of-code basics.ObjectPath = refl
lead_of-code basics.Signature = refl

-- ---- what is spelled is read

not_41 : (b : BasicType) → (code_of b == 41) ≡ false
not_41 basics.Byte = refl
not_41 basics.Boolean = refl
not_41 basics.Int16 = refl
not_41 basics.Uint16 = refl
not_41 basics.Int32 = refl
not_41 basics.Uint32 = refl
not_41 basics.Int64 = refl
not_41 basics.Uint64 = refl
not_41 basics.Double = refl
not_41 basics.UnixFd = refl
not_41 basics.String = refl
not_41 basics.ObjectPath = refl
not_41 basics.Signature = refl

not_123 : (b : BasicType) → (code_of b == 123) ≡ false
not_123 basics.Byte = refl
not_123 basics.Boolean = refl
not_123 basics.Int16 = refl
not_123 basics.Uint16 = refl
not_123 basics.Int32 = refl
not_123 basics.Uint32 = refl
not_123 basics.Int64 = refl
not_123 basics.Uint64 = refl
not_123 basics.Double = refl
not_123 basics.UnixFd = refl
not_123 basics.String = refl
not_123 basics.ObjectPath = refl
not_123 basics.Signature = refl

-- a reader of fields continues where a type begins
fields_on : (read : Reader) (n : ℕ) (t : Ty) (rest : List ℕ) (arrays structs : ℕ) → is_within false arrays structs t ≡ true
    → fields_by read (suc n) (text_of t ++ rest) ≡ (read (text_of t ++ rest) >>= λ u. fields_by read n u.1 >>= λ us. Ok (more u.0 us.0, us.1))
unfolding fields_by
fields_on read n (basic b) rest arrays structs within =
    ap (λ (x : Bool). cond x (Ok (end, rest)) (read (code_of b ∷ rest) >>= λ u. fields_by read n u.1 >>= λ us. Ok (more u.0 us.0, us.1))) (not_41 b)
fields_on read n variant rest arrays structs within = refl
fields_on read n (array t) rest arrays structs within = refl
fields_on read n (struct ts) rest arrays structs within = refl
fields_on read n (entry key t) rest arrays structs within = absurd cc

types_on : (read : Reader) (n : ℕ) (t : Ty) (rest : List ℕ) (arrays structs : ℕ) → is_within false arrays structs t ≡ true
    → types_by read (suc n) (text_of t ++ rest) ≡ (read (text_of t ++ rest) >>= λ u. types_by read n u.1 >>= λ us. Ok (more u.0 us))
unfolding types_by
types_on read n (basic b) rest arrays structs within = refl
types_on read n variant rest arrays structs within = refl
types_on read n (array t) rest arrays structs within = refl
types_on read n (struct ts) rest arrays structs within = refl
types_on read n (entry key t) rest arrays structs within = absurd cc

some_code : (t : Ty) → 0 < length (text_of t)
some_code (basic b) = omega arith
some_code variant = omega arith
some_code (array t) = omega arith
some_code (struct ts) = omega arith
some_code (entry key t) = omega arith

-- an element that isn't an entry
element_plain : (read : Reader) (t : Ty) (arrays structs : ℕ) (rest : List ℕ) → is_within false arrays structs t ≡ true → element_by read (text_of t ++ rest) ≡ read (text_of t ++ rest)
unfolding element_by
element_plain read (basic b) arrays structs rest within = ap (λ (x : Bool). cond x (entry_by read rest) (read (code_of b ∷ rest))) (not_123 b)
element_plain read variant arrays structs rest within = refl
element_plain read (array t) arrays structs rest within = refl
element_plain read (struct ts) arrays structs rest within = refl
element_plain read (entry key t) arrays structs rest within = absurd cc

-- a reader that reads each type within these limits, whatever follows
pub record IsReader (arrays structs : ℕ) (read : Reader) : Type 0 where
  pub again : (t : Ty) (rest : List ℕ) → is_within false arrays structs t ≡ true → read (text_of t ++ rest) ≡ Ok (t, rest)

fields_again : (read : Reader) (arrays structs : ℕ) (ts : Tys) (n : ℕ) (rest : List ℕ) → IsReader arrays structs read → are_within arrays structs ts ≡ true → length (texts_of ts) < n
    → fields_by read n (texts_of ts ++ 41 ∷ rest) ≡ Ok (ts, rest)
unfolding fields_by
fields_again read arrays structs ts zero rest reads within turns = absurd (omega arith)
fields_again read arrays structs end (suc n) rest reads within turns = refl
fields_again read arrays structs (more t ts) (suc n) rest reads within turns =
    let each = both_true (is_within false arrays structs t) (are_within arrays structs ts) within in
    let after = texts_of ts ++ 41 ∷ rest in
    let fewer : length (texts_of ts) < n = omega (arith, some_code t, length-append (text_of t) (texts_of ts)) in
    ap (fields_by read (suc n)) (append_assoc (text_of t) (texts_of ts) (41 ∷ rest))
    ∙ fields_on read n t after arrays structs each.0
    ∙ rw (reads.again t after each.0, fields_again read arrays structs ts n rest reads each.1 fewer) refl

struct_again : (read : Reader) (arrays structs : ℕ) (ts : Tys) (rest : List ℕ) → IsReader arrays structs read → has_type ts ≡ true → are_within arrays structs ts ≡ true
    → struct_by read (texts_of ts ++ 41 ∷ rest) ≡ Ok (struct ts, rest)
unfolding struct_by
struct_again read arrays structs end rest reads some within = absurd cc
struct_again read arrays structs (more t ts) rest reads some within =
    let each = both_true (is_within false arrays structs t) (are_within arrays structs ts) within in
    let after = texts_of ts ++ 41 ∷ rest in
    let turns : length (texts_of ts) < length after = omega (arith, length-append (texts_of ts) (41 ∷ rest)) in
    ap (struct_by read) (append_assoc (text_of t) (texts_of ts) (41 ∷ rest))
    ∙ rw (reads.again t after each.0, fields_again read arrays structs ts (length after) rest reads each.1 turns) refl

entry_again : (read : Reader) (arrays structs : ℕ) (key : BasicType) (t : Ty) (rest : List ℕ) → IsReader arrays structs read → is_within false arrays structs t ≡ true
    → entry_by read (code_of key ∷ (text_of t ++ 125 ∷ rest)) ≡ Ok (entry key t, rest)
unfolding entry_by closed_by
entry_again read arrays structs key t rest reads within =
    ap (λ (lead : Lead). keyed_by read lead (text_of t ++ 125 ∷ rest)) (lead_of-code key) ∙ rw (reads.again t (125 ∷ rest) within) refl

array_again : (read : Reader) (arrays structs : ℕ) (t : Ty) (rest : List ℕ) → IsReader arrays structs read → is_within true arrays structs t ≡ true
    → array_by read (text_of t ++ rest) ≡ Ok (array t, rest)
unfolding array_by element_by
array_again read arrays structs (entry key t) rest reads within =
    ap (λ (codes : List ℕ). array_by read (123 ∷ code_of key ∷ codes)) (append_assoc (text_of t) (125 ∷ []) rest) ∙ rw (entry_again read arrays structs key t rest reads within) refl
array_again read arrays structs (basic b) rest reads within = rw (element_plain read (basic b) arrays structs rest refl, reads.again (basic b) rest refl) refl
array_again read arrays structs variant rest reads within = rw (element_plain read variant arrays structs rest refl, reads.again variant rest refl) refl
array_again read arrays structs (array t) rest reads within = rw (element_plain read (array t) arrays structs rest within, reads.again (array t) rest within) refl
array_again read arrays structs (struct ts) rest reads within = rw (element_plain read (struct ts) arrays structs rest within, reads.again (struct ts) rest within) refl

-- each reader within the limits, by the readers of what is inside
reader_by : (arrays structs : ℕ) → ((fewer : ℕ) → arrays ≡ suc fewer → IsReader fewer structs (type_at fewer structs)) → ((fewer : ℕ) → structs ≡ suc fewer → IsReader arrays fewer (type_at arrays fewer))
    → (t : Ty) (rest : List ℕ) → is_within false arrays structs t ≡ true → type_at arrays structs (text_of t ++ rest) ≡ Ok (t, rest)
reader_by arrays structs inner outer (basic b) rest within =
    type_at-is arrays structs (code_of b ∷ rest) ∙ ap (λ (lead : Lead). led_by (array_in arrays structs) (struct_in arrays structs) lead rest) (lead_of-code b)
reader_by arrays structs inner outer variant rest within = type_at-is arrays structs (118 ∷ rest)
reader_by zero structs inner outer (array t) rest within = absurd cc
reader_by (suc arrays) structs inner outer (array t) rest within =
    type_at-is (suc arrays) structs (97 ∷ (text_of t ++ rest)) ∙ array_again (type_at arrays structs) arrays structs t rest (inner arrays refl) within
reader_by arrays zero inner outer (struct ts) rest within = absurd cc
reader_by arrays (suc structs) inner outer (struct ts) rest within =
    let some = both_true (has_type ts) (are_within arrays structs ts) within in
    ap (λ (codes : List ℕ). type_at arrays (suc structs) (40 ∷ codes)) (append_assoc (texts_of ts) (41 ∷ []) rest)
    ∙ type_at-is arrays (suc structs) (40 ∷ (texts_of ts ++ 41 ∷ rest))
    ∙ struct_again (type_at arrays structs) arrays structs ts rest (outer structs refl) some.0 some.1
reader_by arrays structs inner outer (entry key t) rest within = absurd cc

-- the readers of this many arrays, by recursion on the structs
readers_inner : (arrays : ℕ) → ((fewer : ℕ) → arrays ≡ suc fewer → (structs : ℕ) → IsReader fewer structs (type_at fewer structs)) → (structs : ℕ) → IsReader arrays structs (type_at arrays structs)
readers_inner arrays below zero = record { again = reader_by arrays zero (λ fewer e. below fewer e zero) (λ fewer e. absurd cc) }
readers_inner arrays below (suc structs) =
    let before = readers_inner arrays below structs in
    record { again = reader_by arrays (suc structs) (λ fewer e. below fewer e (suc structs)) (λ fewer e. let same : structs ≡ fewer = cc in subst (λ (n : ℕ). IsReader arrays n (type_at arrays n)) same before) }

-- each reader within limits reads each type within them
pub readers : (arrays structs : ℕ) → IsReader arrays structs (type_at arrays structs)
readers zero structs = readers_inner zero (λ fewer e. absurd cc) structs
readers (suc arrays) structs =
    readers_inner (suc arrays) (λ fewer e s. let same : arrays ≡ fewer = cc in subst (λ (n : ℕ). IsReader n s (type_at n s)) same (readers arrays s)) structs

types_again : (read : Reader) (ts : Tys) (n : ℕ) → IsReader nesting_limit nesting_limit read → are_within nesting_limit nesting_limit ts ≡ true → length (texts_of ts) ≤ n → types_by read n (texts_of ts) ≡ Ok ts
unfolding types_by
types_again read end zero reads within turns = refl
types_again read end (suc n) reads within turns = refl
types_again read (more t ts) zero reads within turns = absurd (omega (arith, some_code t, length-append (text_of t) (texts_of ts)))
types_again read (more t ts) (suc n) reads within turns =
    let each = both_true (is_within false nesting_limit nesting_limit t) (are_within nesting_limit nesting_limit ts) within in
    types_on read n t (texts_of ts) nesting_limit nesting_limit each.0
    ∙ rw (reads.again t (texts_of ts) each.0, types_again read ts n reads each.1 (omega (arith, some_code t, length-append (text_of t) (texts_of ts)))) refl

pub signature_again : (ts : Tys) → is_signature ts ≡ true → signature_at (texts_of ts) ≡ Ok ts
unfolding signature_at
signature_again ts within =
    let each = both_true (are_within nesting_limit nesting_limit ts) (nat_le (length (texts_of ts)) signature_limit) within in
    let short : ltb signature_limit (length (texts_of ts)) ≡ false = le-ltb _ _ (leb-true _ _ each.1) in
    rw short (types_again (type_at nesting_limit nesting_limit) ts (length (texts_of ts)) (readers nesting_limit nesting_limit) each.0 (omega arith))

-- ---- what is read is spelled that way

-- what a reader took from the start
pub record Takes (arrays structs : ℕ) (entries : Bool) (codes : List ℕ) (t : Ty) (rest : List ℕ) : Type 0 where
  pub parts : codes ≡ text_of t ++ rest
  pub within : is_within entries arrays structs t ≡ true

pub record IsTaker (arrays structs : ℕ) (read : Reader) : Type 0 where
  pub takes : (codes : List ℕ) (x : Ty × List ℕ) → read codes ≡ Ok x → Takes arrays structs false codes x.0 x.1

abbrev done : Ty × List ℕ → Result (Ty × List ℕ) SignatureFault
done x = Ok x

ok_is : (x y : Ty × List ℕ) → done x ≡ done y → x ≡ y
ok_is x y e = cc

abbrev fields_done : Tys × List ℕ → Result (Tys × List ℕ) SignatureFault
fields_done x = Ok x

fields_ok : (x y : Tys × List ℕ) → fields_done x ≡ fields_done y → x ≡ y
fields_ok x y e = cc

abbrev types_done : Tys → Result Tys SignatureFault
types_done x = Ok x

types_ok : (x y : Tys) → types_done x ≡ types_done y → x ≡ y
types_ok x y e = cc

-- what a lead says of its code
abbrev IsLed : ℕ → Lead → Type 0
IsLed code (leads.Basic b) = code ≡ code_of b
IsLed code leads.Variant = code ≡ 118
IsLed code leads.Array = code ≡ 97
IsLed code leads.Struct = code ≡ 40
IsLed code leads.Other = Unit {0}

led_or : (code k : ℕ) (lead other : Lead) → (code ≡ k → IsLed code lead) → IsLed code other → IsLed code (cond (code == k) lead other)
led_or code k lead other here later = elim (eqb_tells code k) [
  | inl is ↦ subst (λ (b : Bool). IsLed code (cond b lead other)) (sym is.0) (here is.1)
  | inr not ↦ subst (λ (b : Bool). IsLed code (cond b lead other)) (sym not.0) later
]

led_is : (code : ℕ) → IsLed code (lead_of code)
led_is code =
    led_or code 121 _ _ (λ e. e) (led_or code 98 _ _ (λ e. e) (led_or code 110 _ _ (λ e. e) (led_or code 113 _ _ (λ e. e) (led_or code 105 _ _ (λ e. e) (led_or code 117 _ _ (λ e. e)
    (led_or code 120 _ _ (λ e. e) (led_or code 116 _ _ (λ e. e) (led_or code 100 _ _ (λ e. e) (led_or code 104 _ _ (λ e. e) (led_or code 115 _ _ (λ e. e) (led_or code 111 _ _ (λ e. e)
    (led_or code 103 _ _ (λ e. e) (led_or code 118 _ _ (λ e. e) (led_or code 97 _ _ (λ e. e) (led_or code 40 leads.Struct leads.Other (λ e. e) tt)))))))))))))))

as_element : (arrays structs : ℕ) (t : Ty) → is_within false arrays structs t ≡ true → is_within true arrays structs t ≡ true
as_element arrays structs (basic b) within = refl
as_element arrays structs variant within = refl
as_element arrays structs (array t) within = within
as_element arrays structs (struct ts) within = within
as_element arrays structs (entry key t) within = absurd cc

closed_takes : (key : BasicType) (t : Ty) (codes : List ℕ) (x : Ty × List ℕ) → closed_by key t codes ≡ Ok x → (codes ≡ 125 ∷ x.1) × (entry key t ≡ x.0)
unfolding closed_by
closed_takes key t [] x e = absurd cc
closed_takes key t (code ∷ codes) x e = elim (eqb_tells code 125) [
  | inl is ↦
      let got : done (entry key t, codes) ≡ done x = subst (λ (b : Bool). cond b (Ok (entry key t, codes)) (Err BadType) ≡ Ok x) is.0 e in
      let same = ok_is (entry key t, codes) x got in
      (rw is.1 (ap (λ (y : Ty × List ℕ). 125 ∷ y.1) same), ap (λ (y : Ty × List ℕ). y.0) same)
  | inr not ↦
      let got : Err BadType ≡ done x = subst (λ (b : Bool). cond b (Ok (entry key t, codes)) (Err BadType) ≡ Ok x) not.0 e in
      absurd cc
]

keyed_takes : (read : Reader) (arrays structs : ℕ) (code : ℕ) (lead : Lead) (codes : List ℕ) (x : Ty × List ℕ) → IsTaker arrays structs read → IsLed code lead → keyed_by read lead codes ≡ Ok x
    → Takes arrays structs true (123 ∷ code ∷ codes) x.0 x.1
keyed_takes read arrays structs code (leads.Basic key) codes x taker led e =
    let a = bind_ok (read codes) (λ t. closed_by key t.0 t.1) x e in
    let value = taker.takes codes a.0 a.1 in
    let close = closed_takes key a.0.0 a.0.1 x a.2 in
    let text : 123 ∷ code ∷ codes ≡ text_of (entry key a.0.0) ++ x.1 =
    ap (λ (k : ℕ). 123 ∷ k ∷ codes) led
    ∙ ap (λ (r : List ℕ). 123 ∷ code_of key ∷ r) (value.parts ∙ ap (λ (r : List ℕ). text_of a.0.0 ++ r) close.0 ∙ sym (append_assoc (text_of a.0.0) (125 ∷ []) x.1)) in
    subst (λ (t : Ty). Takes arrays structs true (123 ∷ code ∷ codes) t x.1) close.1 (record { parts = text; within = value.within })
keyed_takes read arrays structs code leads.Variant codes x taker led e = absurd cc
keyed_takes read arrays structs code leads.Array codes x taker led e = absurd cc
keyed_takes read arrays structs code leads.Struct codes x taker led e = absurd cc
keyed_takes read arrays structs code leads.Other codes x taker led e = absurd cc

entry_takes : (read : Reader) (arrays structs : ℕ) (codes : List ℕ) (x : Ty × List ℕ) → IsTaker arrays structs read → entry_by read codes ≡ Ok x → Takes arrays structs true (123 ∷ codes) x.0 x.1
unfolding entry_by
entry_takes read arrays structs [] x taker e = absurd cc
entry_takes read arrays structs (code ∷ codes) x taker e = keyed_takes read arrays structs code (lead_of code) codes x taker (led_is code) e

plain_takes : (read : Reader) (arrays structs : ℕ) (codes : List ℕ) (x : Ty × List ℕ) → IsTaker arrays structs read → read codes ≡ Ok x → Takes arrays structs true codes x.0 x.1
plain_takes read arrays structs codes x taker e =
    let got = taker.takes codes x e in
    record { parts = got.parts; within = as_element arrays structs x.0 got.within }

element_takes : (read : Reader) (arrays structs : ℕ) (codes : List ℕ) (x : Ty × List ℕ) → IsTaker arrays structs read → element_by read codes ≡ Ok x → Takes arrays structs true codes x.0 x.1
unfolding element_by
element_takes read arrays structs [] x taker e = plain_takes read arrays structs [] x taker e
element_takes read arrays structs (code ∷ codes) x taker e = elim (eqb_tells code 123) [
  | inl is ↦
      let got : entry_by read codes ≡ Ok x = subst (λ (b : Bool). cond b (entry_by read codes) (read (code ∷ codes)) ≡ Ok x) is.0 e in
      rw is.1 (entry_takes read arrays structs codes x taker got)
  | inr not ↦ plain_takes read arrays structs (code ∷ codes) x taker (subst (λ (b : Bool). cond b (entry_by read codes) (read (code ∷ codes)) ≡ Ok x) not.0 e)
]

array_takes : (read : Reader) (arrays structs : ℕ) (codes : List ℕ) (x : Ty × List ℕ) → IsTaker arrays structs read → array_by read codes ≡ Ok x → Takes (suc arrays) structs false (97 ∷ codes) x.0 x.1
unfolding array_by
array_takes read arrays structs codes x taker e =
    let a = bind_ok (element_by read codes) (λ t. Ok (array t.0, t.1)) x e in
    let got = element_takes read arrays structs codes a.0 taker a.1 in
    subst (λ (y : Ty × List ℕ). Takes (suc arrays) structs false (97 ∷ codes) y.0 y.1) (ok_is (array a.0.0, a.0.1) x a.2) (record { parts = ap (λ (r : List ℕ). 97 ∷ r) got.parts; within = got.within })

and_true : (a b : Bool) → a ≡ true → b ≡ true → (a && b) ≡ true
and_true true b e f = f
and_true false b e f = absurd cc

fields_take : (read : Reader) (arrays structs : ℕ) (n : ℕ) (codes : List ℕ) (x : Tys × List ℕ) → IsTaker arrays structs read → fields_by read n codes ≡ Ok x
    → (codes ≡ texts_of x.0 ++ 41 ∷ x.1) × (are_within arrays structs x.0 ≡ true)
unfolding fields_by
fields_take read arrays structs zero codes x taker e = absurd cc
fields_take read arrays structs (suc n) [] x taker e = absurd cc
fields_take read arrays structs (suc n) (code ∷ codes) x taker e = elim (eqb_tells code 41) [
  | inl is ↦
      let got : fields_done (end, codes) ≡ fields_done x = subst (λ (b : Bool). cond b (Ok (end, codes)) (read (code ∷ codes) >>= λ t. fields_by read n t.1 >>= λ ts. Ok (more t.0 ts.0, ts.1)) ≡ Ok x) is.0 e in
      subst (λ (y : Tys × List ℕ). (code ∷ codes ≡ texts_of y.0 ++ 41 ∷ y.1) × (are_within arrays structs y.0 ≡ true)) (fields_ok (end, codes) x got) (ap (λ (k : ℕ). k ∷ codes) is.1, refl)
  | inr not ↦
      let got : (read (code ∷ codes) >>= λ t. fields_by read n t.1 >>= λ ts. Ok (more t.0 ts.0, ts.1)) ≡ Ok x = subst (λ (b : Bool). cond b (Ok (end, codes)) (read (code ∷ codes) >>= λ t. fields_by read n t.1 >>= λ ts. Ok (more t.0 ts.0, ts.1)) ≡ Ok x) not.0 e in
      let a = bind_ok (read (code ∷ codes)) (λ t. fields_by read n t.1 >>= λ ts. Ok (more t.0 ts.0, ts.1)) x got in
      let b = bind_ok (fields_by read n a.0.1) (λ ts. Ok (more a.0.0 ts.0, ts.1)) x a.2 in
      let first = taker.takes (code ∷ codes) a.0 a.1 in
      let others = fields_take read arrays structs n a.0.1 b.0 taker b.1 in
      let text : code ∷ codes ≡ texts_of (more a.0.0 b.0.0) ++ 41 ∷ b.0.1 = first.parts ∙ ap (λ (r : List ℕ). text_of a.0.0 ++ r) others.0 ∙ sym (append_assoc (text_of a.0.0) (texts_of b.0.0) (41 ∷ b.0.1)) in
      subst (λ (y : Tys × List ℕ). (code ∷ codes ≡ texts_of y.0 ++ 41 ∷ y.1) × (are_within arrays structs y.0 ≡ true)) (fields_ok (more a.0.0 b.0.0, b.0.1) x b.2)
      (text, and_true (is_within false arrays structs a.0.0) (are_within arrays structs b.0.0) first.within others.1)
]

struct_takes : (read : Reader) (arrays structs : ℕ) (codes : List ℕ) (x : Ty × List ℕ) → IsTaker arrays structs read → struct_by read codes ≡ Ok x → Takes arrays (suc structs) false (40 ∷ codes) x.0 x.1
unfolding struct_by
struct_takes read arrays structs codes x taker e =
    let a = bind_ok (read codes) (λ t. fields_by read (length t.1) t.1 >>= λ ts. Ok (struct (more t.0 ts.0), ts.1)) x e in
    let b = bind_ok (fields_by read (length a.0.1) a.0.1) (λ ts. Ok (struct (more a.0.0 ts.0), ts.1)) x a.2 in
    let first = taker.takes codes a.0 a.1 in
    let others = fields_take read arrays structs (length a.0.1) a.0.1 b.0 taker b.1 in
    let all = texts_of (more a.0.0 b.0.0) in
    let inner : codes ≡ all ++ 41 ∷ b.0.1 = first.parts ∙ ap (λ (r : List ℕ). text_of a.0.0 ++ r) others.0 ∙ sym (append_assoc (text_of a.0.0) (texts_of b.0.0) (41 ∷ b.0.1)) in
    let text : 40 ∷ codes ≡ text_of (struct (more a.0.0 b.0.0)) ++ b.0.1 = ap (λ (r : List ℕ). 40 ∷ r) (inner ∙ sym (append_assoc all (41 ∷ []) b.0.1)) in
    let inside : are_within arrays structs (more a.0.0 b.0.0) ≡ true =
    (and_true (is_within false arrays structs a.0.0) (are_within arrays structs b.0.0) first.within others.1) in
    subst (λ (y : Ty × List ℕ). Takes arrays (suc structs) false (40 ∷ codes) y.0 y.1) (ok_is (struct (more a.0.0 b.0.0), b.0.1) x b.2) (record { parts = text; within = inside })

led_takes : (arrays structs : ℕ) (code : ℕ) (lead : Lead) (codes : List ℕ) (x : Ty × List ℕ)
    → ((fewer : ℕ) → arrays ≡ suc fewer → IsTaker fewer structs (type_at fewer structs)) → ((fewer : ℕ) → structs ≡ suc fewer → IsTaker arrays fewer (type_at arrays fewer))
    → IsLed code lead → led_by (array_in arrays structs) (struct_in arrays structs) lead codes ≡ Ok x → Takes arrays structs false (code ∷ codes) x.0 x.1
led_takes arrays structs code (leads.Basic b) codes x inner outer led e =
    subst (λ (y : Ty × List ℕ). Takes arrays structs false (code ∷ codes) y.0 y.1) (ok_is (basic b, codes) x e) (record { parts = ap (λ (k : ℕ). k ∷ codes) led; within = refl })
led_takes arrays structs code leads.Variant codes x inner outer led e =
    subst (λ (y : Ty × List ℕ). Takes arrays structs false (code ∷ codes) y.0 y.1) (ok_is (variant, codes) x e) (record { parts = ap (λ (k : ℕ). k ∷ codes) led; within = refl })
led_takes zero structs code leads.Array codes x inner outer led e = absurd cc
led_takes (suc arrays) structs code leads.Array codes x inner outer led e = rw led (array_takes (type_at arrays structs) arrays structs codes x (inner arrays refl) e)
led_takes arrays zero code leads.Struct codes x inner outer led e = absurd cc
led_takes arrays (suc structs) code leads.Struct codes x inner outer led e = rw led (struct_takes (type_at arrays structs) arrays structs codes x (outer structs refl) e)
led_takes arrays structs code leads.Other codes x inner outer led e = absurd cc

taker_by : (arrays structs : ℕ) → ((fewer : ℕ) → arrays ≡ suc fewer → IsTaker fewer structs (type_at fewer structs)) → ((fewer : ℕ) → structs ≡ suc fewer → IsTaker arrays fewer (type_at arrays fewer))
    → (codes : List ℕ) (x : Ty × List ℕ) → type_at arrays structs codes ≡ Ok x → Takes arrays structs false codes x.0 x.1
taker_by arrays structs inner outer [] x e = let none : Err BadType ≡ done x = sym (type_at-is arrays structs []) ∙ e in absurd cc
taker_by arrays structs inner outer (code ∷ codes) x e = led_takes arrays structs code (lead_of code) codes x inner outer (led_is code) (sym (type_at-is arrays structs (code ∷ codes)) ∙ e)

takers_inner : (arrays : ℕ) → ((fewer : ℕ) → arrays ≡ suc fewer → (structs : ℕ) → IsTaker fewer structs (type_at fewer structs)) → (structs : ℕ) → IsTaker arrays structs (type_at arrays structs)
takers_inner arrays below zero = record { takes = taker_by arrays zero (λ fewer e. below fewer e zero) (λ fewer e. absurd cc) }
takers_inner arrays below (suc structs) =
    let before = takers_inner arrays below structs in
    record { takes = taker_by arrays (suc structs) (λ fewer e. below fewer e (suc structs)) (λ fewer e. let same : structs ≡ fewer = cc in subst (λ (n : ℕ). IsTaker arrays n (type_at arrays n)) same before) }

-- what each reader within limits reads is spelled that way, and is within them
pub takers : (arrays structs : ℕ) → IsTaker arrays structs (type_at arrays structs)
takers zero structs = takers_inner zero (λ fewer e. absurd cc) structs
takers (suc arrays) structs =
    takers_inner (suc arrays) (λ fewer e s. let same : arrays ≡ fewer = cc in subst (λ (n : ℕ). IsTaker n s (type_at n s)) same (takers arrays s)) structs

types_take : (read : Reader) (n : ℕ) (codes : List ℕ) (ts : Tys) → IsTaker nesting_limit nesting_limit read → types_by read n codes ≡ Ok ts → (codes ≡ texts_of ts) × (are_within nesting_limit nesting_limit ts ≡ true)
unfolding types_by
types_take read zero [] ts taker e = subst (λ (us : Tys). ([] ≡ texts_of us) × (are_within nesting_limit nesting_limit us ≡ true)) (types_ok end ts e) (refl, refl)
types_take read (suc n) [] ts taker e = subst (λ (us : Tys). ([] ≡ texts_of us) × (are_within nesting_limit nesting_limit us ≡ true)) (types_ok end ts e) (refl, refl)
types_take read zero (code ∷ codes) ts taker e = absurd cc
types_take read (suc n) (code ∷ codes) ts taker e =
    let a = bind_ok (read (code ∷ codes)) (λ t. types_by read n t.1 >>= λ us. Ok (more t.0 us)) ts e in
    let b = bind_ok (types_by read n a.0.1) (λ us. Ok (more a.0.0 us)) ts a.2 in
    let first = taker.takes (code ∷ codes) a.0 a.1 in
    let others = types_take read n a.0.1 b.0 taker b.1 in
    subst (λ (us : Tys). (code ∷ codes ≡ texts_of us) × (are_within nesting_limit nesting_limit us ≡ true)) (types_ok (more a.0.0 b.0) ts b.2)
    (first.parts ∙ ap (λ (r : List ℕ). text_of a.0.0 ++ r) others.0, and_true (is_within false nesting_limit nesting_limit a.0.0) (are_within nesting_limit nesting_limit b.0) first.within others.1)

pub signature_takes : (codes : List ℕ) (ts : Tys) → signature_at codes ≡ Ok ts → (is_signature ts ≡ true) × (codes ≡ texts_of ts)
unfolding signature_at
signature_takes codes ts e = elim (cases_lt signature_limit (length codes)) [
  | inl lt ↦
      let got : Err TooLong ≡ types_done ts = subst (λ (b : Bool). cond b (Err TooLong) (types_by (type_at nesting_limit nesting_limit) (length codes) codes) ≡ Ok ts) (lt-ltb _ _ lt) e in
      absurd cc
  | inr le ↦
      let got = types_take (type_at nesting_limit nesting_limit) (length codes) codes ts (takers nesting_limit nesting_limit) (subst (λ (b : Bool). cond b (Err TooLong) (types_by (type_at nesting_limit nesting_limit) (length codes) codes) ≡ Ok ts) (le-ltb _ _ le) e) in
      (and_true (are_within nesting_limit nesting_limit ts) (nat_le (length (texts_of ts)) signature_limit) got.1 (subst (λ (text : List ℕ). nat_le (length text) signature_limit ≡ true) got.0 (le-leb _ _ le)), got.0)
]

-- what was read of a short text is what its signature lists, or the same fault
pub signature_short : (codes : List ℕ) → length codes ≤ signature_limit → signature_at codes ≡ types_by (type_at nesting_limit nesting_limit) (length codes) codes
unfolding signature_at
signature_short codes short = rw (le-ltb _ _ short) refl

pub signature_found : (result : Result (Vec CompleteType Global) SignatureFault) (codes : List ℕ) → Reads (λ x. types_of x.items) result (signature_at codes)
    → IfOk result (λ x. IsTrue (is_signature (types_of x.items)) × (codes ≡ texts_of (types_of x.items)))
signature_found (Ok x) codes reads = signature_takes codes (types_of x.items) reads
signature_found (Err e) codes reads = tt

-- a text that the types spell is read as they are
pub signature_of : (codes : List ℕ) (ts : Tys) → is_signature ts ≡ true → codes ≡ texts_of ts → signature_at codes ≡ Ok ts
signature_of codes ts within spelled = ap signature_at spelled ∙ signature_again ts within
