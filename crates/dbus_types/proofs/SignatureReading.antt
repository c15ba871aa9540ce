-- What the readers of a signature return, one code at a time.
use Rattle.std.proofs.Common.{◌≡◌, ℕ, zero, suc, ◌+◌, ◌-◌, ◌<◌, ◌≤◌, ◌==◌, Bool, true, false, cond, List, [], ◌∷◌, length, Result, Ok, Err, refl, sym, ap, subst, ◌∙◌, arith, sub-one, Vec, Global}
use Rattle.std.proofs.lemmas.List.{nil_from_length}
use Rattle.std.proofs.lemmas.Bool.{ne_eqb}
use Rattle.dbus_types.specs.declared.complete_type.CompleteType.{CompleteType, Struct}
use Rattle.dbus_types.specs.declared.signature_reading.Lead.{Lead}
use Rattle.dbus_types.specs.declared.signature.SignatureFault.{SignatureFault}
use Rattle.dbus_types.specs.declared.signature.SignatureFault.TheVariants.{BadType, TooDeep, TooLong, OutOfMemory}
use Rattle.dbus_types.specs.Types.{Ty, Tys, end, more, struct}
use Rattle.dbus_types.specs.Views.{type_of, types_of}
use Rattle.dbus_types.specs.Signatures.{◌>>=◌, Refuses, Reader, too_deep, lead_of, led_by, type_by, array_by, struct_by, fields_by, types_by, type_at, types_then, with_front, types_behind}
use Rattle.dbus_types.proofs.Views.{types_then-end, struct_is}

-- a reading that returns each fault of another one returns the fault that the other one returns
pub refuses_as : {Y Z : Type 0} (e : SignatureFault) (read : Result Y SignatureFault) (total : Result Z SignatureFault) → ((f : SignatureFault) → read ≡ Err f → total ≡ Err f) → Refuses e read → Refuses e total
refuses_as BadType read total same fault = same BadType fault
refuses_as TooDeep read total same fault = same TooDeep fault
refuses_as TooLong read total same fault = same TooLong fault
refuses_as OutOfMemory read total same fault = tt

-- what reads an array's rest, and a struct's
abbrev pub array_in : ℕ → ℕ → Reader
array_in zero structs = too_deep
array_in (suc arrays) structs = array_by (type_at arrays structs)

abbrev pub struct_in : ℕ → ℕ → Reader
struct_in arrays zero = too_deep
struct_in arrays (suc structs) = struct_by (type_at arrays structs)

pub type_at-is : (arrays structs : ℕ) (codes : List ℕ) → type_at arrays structs codes ≡ type_by (array_in arrays structs) (struct_in arrays structs) codes
unfolding type_at
type_at-is zero zero codes = refl
type_at-is zero (suc structs) codes = refl
type_at-is (suc arrays) zero codes = refl
type_at-is (suc arrays) (suc structs) codes = refl

pub type_at-none : (arrays structs : ℕ) (codes : List ℕ) → length codes ≡ 0 → type_at arrays structs codes ≡ Err BadType
type_at-none arrays structs codes none = ap (type_at arrays structs) (nil_from_length codes none) ∙ type_at-is arrays structs []

pub type_at-led : (arrays structs : ℕ) (codes : List ℕ) (code : ℕ) (rest : List ℕ) (lead : Lead) → codes ≡ code ∷ rest → lead ≡ lead_of code
    → type_at arrays structs codes ≡ led_by (array_in arrays structs) (struct_in arrays structs) lead rest
type_at-led arrays structs codes code rest lead parts led =
    ap (type_at arrays structs) parts ∙ type_at-is arrays structs (code ∷ rest) ∙ ap (λ (l : Lead). led_by (array_in arrays structs) (struct_in arrays structs) l rest) (sym led)

pub array_in-is : (arrays structs : ℕ) (rest : List ℕ) → (arrays ≡ 0 → ⊥) → array_in arrays structs rest ≡ array_by (type_at (arrays - 1) structs) rest
array_in-is zero structs rest some = absurd (some refl)
array_in-is (suc arrays) structs rest some = rw sub-one refl

pub struct_in-is : (arrays structs : ℕ) (rest : List ℕ) → (structs ≡ 0 → ⊥) → struct_in arrays structs rest ≡ struct_by (type_at arrays (structs - 1)) rest
struct_in-is arrays zero rest some = absurd (some refl)
struct_in-is arrays (suc structs) rest some = rw sub-one refl

-- ---- the fields of a struct

pub is_other : {code other : ℕ} → (code ≡ other → ⊥) → (code == other) ≡ false
is_other {code} {other} differs = ne_eqb code other differs

left_one : (n i : ℕ) → i < n → n - i ≡ suc (n - (i + 1))
left_one n i lt = omega arith

fields_at : (read : Reader) (n : ℕ) (code : ℕ) (rest : List ℕ) (is_end : Bool) → (code == 41) ≡ is_end
    → fields_by read (suc n) (code ∷ rest) ≡ cond is_end (Ok (end, rest)) (read (code ∷ rest) >>= λ t. fields_by read n t.1 >>= λ ts. Ok (more t.0 ts.0, ts.1))
unfolding fields_by
fields_at read n code rest is_end e = ap (λ (b : Bool). cond b (Ok (end, rest)) (read (code ∷ rest) >>= λ t. fields_by read n t.1 >>= λ ts. Ok (more t.0 ts.0, ts.1))) e

pub fields_none : (read : Reader) (front : Tys) (n i : ℕ) (codes : List ℕ) (total : Result (Tys × List ℕ) SignatureFault) → i < n → length codes ≡ 0
    → with_front front (fields_by read (n - i) codes) ≡ total → total ≡ Err BadType
unfolding fields_by
fields_none read front n i codes total lt none so_far =
    let one : with_front front (fields_by read (n - i) codes) ≡ Err BadType = rw (left_one n i lt, nil_from_length codes none) refl in
    sym so_far ∙ one

pub fields_over : (read : Reader) (front : Tys) (n i : ℕ) (codes : List ℕ) (total : Result (Tys × List ℕ) SignatureFault) → n ≤ i
    → with_front front (fields_by read (n - i) codes) ≡ total → total ≡ Err BadType
unfolding fields_by
fields_over read front n i codes total le so_far =
    let none : n - i ≡ 0 = omega arith in
    let one : with_front front (fields_by read (n - i) codes) ≡ Err BadType = rw none refl in
    sym so_far ∙ one

pub fields_closed : (read : Reader) (front : Tys) (n i : ℕ) (codes : List ℕ) (code : ℕ) (rest : List ℕ) (total : Result (Tys × List ℕ) SignatureFault) → i < n → codes ≡ code ∷ rest → code ≡ 41
    → with_front front (fields_by read (n - i) codes) ≡ total → total ≡ Ok (front, rest)
fields_closed read front n i codes code rest total lt parts closes so_far =
    let at_code : (code == 41) ≡ true = rw closes refl in
    let one : with_front front (fields_by read (n - i) codes) ≡ Ok (front, rest) =
    rw (left_one n i lt, parts, fields_at read (n - (i + 1)) code rest true at_code) (ap (λ (ts : Tys). Ok (ts, rest)) (types_then-end front)) in
    sym so_far ∙ one

regroup : (front : Tys) (t : Ty) (next : Tys) (read : Result (Tys × List ℕ) SignatureFault) → ((us : Tys) → types_then next us ≡ types_then front (more t us))
    → with_front front (read >>= λ ts. Ok (more t ts.0, ts.1)) ≡ with_front next read
regroup front t next (Ok ts) e = ap (λ (us : Tys). Ok (us, ts.1)) (sym (e ts.0))
regroup front t next (Err f) e = refl

pub fields_next : (read : Reader) (front : Tys) (n i : ℕ) (codes : List ℕ) (code : ℕ) (rest : List ℕ) (t : Ty) (after : List ℕ) (next : Tys) (total : Result (Tys × List ℕ) SignatureFault) → i < n → codes ≡ code ∷ rest
    → (code == 41) ≡ false → read codes ≡ Ok (t, after) → ((us : Tys) → types_then next us ≡ types_then front (more t us))
    → with_front front (fields_by read (n - i) codes) ≡ total → with_front next (fields_by read (n - (i + 1)) after) ≡ total
fields_next read front n i codes code rest t after next total lt parts goes_on found pushed so_far =
    let found_here : read (code ∷ rest) ≡ Ok (t, after) = ap read (sym parts) ∙ found in
    let one : with_front front (fields_by read (n - i) codes) ≡ with_front next (fields_by read (n - (i + 1)) after) =
    rw (left_one n i lt, parts, fields_at read (n - (i + 1)) code rest false goes_on, found_here) (regroup front t next (fields_by read (n - (i + 1)) after) pushed) in
    sym one ∙ so_far

fields_fault_is : (f : SignatureFault) (read : Reader) (front : Tys) (n i : ℕ) (codes : List ℕ) (code : ℕ) (rest : List ℕ) → i < n → codes ≡ code ∷ rest → (code == 41) ≡ false → read codes ≡ Err f
    → with_front front (fields_by read (n - i) codes) ≡ Err f
fields_fault_is f read front n i codes code rest lt parts goes_on fault =
    let fault_here : read (code ∷ rest) ≡ Err f = ap read (sym parts) ∙ fault in
    rw (left_one n i lt, parts, fields_at read (n - (i + 1)) code rest false goes_on, fault_here) refl

pub fields_fault : (e : SignatureFault) (read : Reader) (front : Tys) (n i : ℕ) (codes : List ℕ) (code : ℕ) (rest : List ℕ) (total : Result (Tys × List ℕ) SignatureFault) → i < n → codes ≡ code ∷ rest
    → (code == 41) ≡ false → Refuses e (read codes) → with_front front (fields_by read (n - i) codes) ≡ total → Refuses e total
fields_fault e read front n i codes code rest total lt parts goes_on fault so_far =
    refuses_as e (read codes) total (λ f is. sym so_far ∙ fields_fault_is f read front n i codes code rest lt parts goes_on is) fault

in_struct : (t : Ty) (read : Result (Tys × List ℕ) SignatureFault) (fields : Tys) (rest : List ℕ) → with_front (more t end) read ≡ Ok (fields, rest)
    → ◌>>=◌ {B = Ty × List ℕ} read (λ ts. Ok (struct (more t ts.0), ts.1)) ≡ Ok (struct fields, rest)
in_struct t (Ok ts) fields rest e = ap (λ (r : Result (Tys × List ℕ) SignatureFault). ◌>>=◌ {B = Ty × List ℕ} r (λ ts. Ok (struct ts.0, ts.1))) e
in_struct t (Err f) fields rest e = absurd cc

pub struct_read : (read : Reader) (codes after : List ℕ) (t : Ty) (first : Tys) (fields : Vec CompleteType Global) (rest : List ℕ) → read codes ≡ Ok (t, after)
    → with_front first (fields_by read (length after) after) ≡ Ok (types_of fields.items, rest) → first ≡ more t end
    → struct_by read codes ≡ Ok (type_of (Struct fields), rest)
unfolding struct_by
struct_read read codes after t first fields rest found others is_first =
    let from_one : with_front (more t end) (fields_by read (length after) after) ≡ Ok (types_of fields.items, rest) = subst (λ (ts : Tys). with_front ts (fields_by read (length after) after) ≡ Ok (types_of fields.items, rest)) is_first others in
    rw (found, struct_is fields) (in_struct t (fields_by read (length after) after) (types_of fields.items) rest from_one)

-- ---- the types of a signature

pub types_behind-end : (read : Result Tys SignatureFault) → types_behind end read ≡ read
types_behind-end (Ok ts) = refl
types_behind-end (Err f) = refl

pub types_none : (read : Reader) (front : Tys) (n : ℕ) (codes : List ℕ) (total : Result Tys SignatureFault) → length codes ≡ 0
    → types_behind front (types_by read n codes) ≡ total → total ≡ Ok front
unfolding types_by
types_none read front zero codes total none so_far =
    let one : types_behind front (types_by read 0 codes) ≡ Ok front = rw (nil_from_length codes none) (ap (λ (ts : Tys). Ok ts) (types_then-end front)) in
    sym so_far ∙ one
types_none read front (suc n) codes total none so_far =
    let one : types_behind front (types_by read (suc n) codes) ≡ Ok front = rw (nil_from_length codes none) (ap (λ (ts : Tys). Ok ts) (types_then-end front)) in
    sym so_far ∙ one

regroup_types : (front : Tys) (t : Ty) (next : Tys) (read : Result Tys SignatureFault) → ((us : Tys) → types_then next us ≡ types_then front (more t us))
    → types_behind front (◌>>=◌ {B = Tys} read (λ ts. Ok (more t ts))) ≡ types_behind next read
regroup_types front t next (Ok ts) e = ap (λ (us : Tys). Ok us) (sym (e ts))
regroup_types front t next (Err f) e = refl

pub types_next : (read : Reader) (front : Tys) (n i : ℕ) (codes : List ℕ) (t : Ty) (after : List ℕ) (next : Tys) (total : Result Tys SignatureFault) → i < n → (length codes ≡ 0 → ⊥)
    → read codes ≡ Ok (t, after) → ((us : Tys) → types_then next us ≡ types_then front (more t us))
    → types_behind front (types_by read (n - i) codes) ≡ total → types_behind next (types_by read (n - (i + 1)) after) ≡ total
unfolding types_by
types_next read front n i [] t after next total lt some found pushed so_far = absurd (some refl)
types_next read front n i (code ∷ rest) t after next total lt some found pushed so_far =
    let one : types_behind front (types_by read (n - i) (code ∷ rest)) ≡ types_behind next (types_by read (n - (i + 1)) after) =
    rw (left_one n i lt, found) (regroup_types front t next (types_by read (n - (i + 1)) after) pushed) in
    sym one ∙ so_far

types_fault_is : (f : SignatureFault) (read : Reader) (front : Tys) (n i : ℕ) (codes : List ℕ) → i < n → (length codes ≡ 0 → ⊥) → read codes ≡ Err f → types_behind front (types_by read (n - i) codes) ≡ Err f
unfolding types_by
types_fault_is f read front n i [] lt some fault = absurd (some refl)
types_fault_is f read front n i (code ∷ rest) lt some fault = rw (left_one n i lt, fault) refl

pub types_fault : (e : SignatureFault) (read : Reader) (front : Tys) (n i : ℕ) (codes : List ℕ) (total : Result Tys SignatureFault) → i < n → (length codes ≡ 0 → ⊥)
    → Refuses e (read codes) → types_behind front (types_by read (n - i) codes) ≡ total → Refuses e total
types_fault e read front n i codes total lt some fault so_far =
    refuses_as e (read codes) total (λ f is. sym so_far ∙ types_fault_is f read front n i codes lt some is) fault
