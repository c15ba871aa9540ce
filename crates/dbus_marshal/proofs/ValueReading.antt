-- What the readers of values return, one value at a time.
use Rattle.std.proofs.Common.{Box, Bool, true, Some, None, subst, ◌≡◌, ℕ, zero, suc, ◌+◌, ◌-◌, ◌<◌, ◌≤◌, List, [], ◌∷◌, ◌++◌, length, Result, Ok, Err, refl, sym, ap, ◌∙◌, append_assoc, arith, rules, sub-one, false, ltb, le_refl, Vec, Global}
use Rattle.std.proofs.lemmas.List.{nil_from_length}
use Rattle.dbus_types.specs.declared.complete_type.BasicType.TheVariants as basics
use Rattle.dbus_types.specs.declared.complete_type.CompleteType.{CompleteType, Basic, Variant, Array', Struct', DictEntry'}
use Rattle.dbus_types.proofs.ValueViews.{inner_holds, plain_array, core_struct, known_first, known_none, lone_is}
use Rattle.dbus_types.specs.declared.value.TypedArray.{TypedArray}
use Rattle.dbus_types.specs.Views.{type_of, types_of}
use Rattle.dbus_marshal.specs.Wire.{is_byte}
use Rattle.dbus_types.specs.declared.complete_type.BasicType.{BasicType}
use Rattle.dbus_types.specs.declared.endian.Endian.{Endian}
use Rattle.dbus_types.specs.declared.value.Value.{Value, Array, InnerArray, Bytes, DictEntry}
use Rattle.dbus_types.specs.declared.value.DictEntry.{DictEntry as KeyAndValue}
use Rattle.dbus_types.specs.Types.{Ty, Tys}
use Rattle.dbus_types.specs.Values.{Val, Vals}
use Rattle.dbus_types.specs.ValueViews.{core_as, value_of, values_of, value_as, each_as, fields_as, known_as, lone_in, HasFields}
use Rattle.dbus_types.specs.Signatures.{◌>>=◌}
use Rattle.dbus_marshal.specs.declared.refused.ValueFault.{ValueFault}
use Rattle.dbus_marshal.specs.declared.refused.ValueFault.TheVariants.{Short, Padding, BadBool, BadText, BadPath, BadSignature, ArrayTooLong, TooDeep, Rest, OutOfMemory}
use Rattle.dbus_marshal.specs.declared.cursor.Cursor.{Cursor}
use Rattle.dbus_marshal.specs.Cursors.{spot_of}
use Rattle.dbus_marshal.specs.Unmarshal.{Refuses, Reads, Reader, Spot, further, bytes_at, padding_at, number_at, basic_number_at, elements_of, only_type, basic_at, value_at, variant_by, array_by, struct_by, entry_by, fields_by, elements_from, values_then, with_values, with_fields}

-- a reading that returns each fault of another one returns the fault that the other one returns
pub refuses_as : {Y Z : Type 0} (e : ValueFault) (read : Result Y ValueFault) (total : Result Z ValueFault) → ((f : ValueFault) → read ≡ Err f → total ≡ Err f) → Refuses e read → Refuses e total
refuses_as Short read total same fault = same Short fault
refuses_as Padding read total same fault = same Padding fault
refuses_as BadBool read total same fault = same BadBool fault
refuses_as BadText read total same fault = same BadText fault
refuses_as BadPath read total same fault = same BadPath fault
refuses_as BadSignature read total same fault = same BadSignature fault
refuses_as ArrayTooLong read total same fault = same ArrayTooLong fault
refuses_as TooDeep read total same fault = same TooDeep fault
refuses_as Rest read total same fault = same Rest fault
refuses_as OutOfMemory read total same fault = tt

-- ---- a value, by its type

pub value_at-basic : (depth : ℕ) (endian : Endian) (b : BasicType) (spot : Spot) → value_at depth endian (Ty.basic b) spot ≡ basic_at endian b spot
unfolding value_at
value_at-basic zero endian b spot = refl
value_at-basic (suc depth) endian b spot = refl

pub value_at-variant : (depth : ℕ) (endian : Endian) (spot : Spot) → (depth ≡ 0 → ⊥) → value_at depth endian Ty.variant spot ≡ variant_by (value_at (depth - 1) endian) endian spot
unfolding value_at
value_at-variant zero endian spot some = absurd (some refl)
value_at-variant (suc depth) endian spot some = rw sub-one refl

pub value_at-array : (depth : ℕ) (endian : Endian) (t : Ty) (spot : Spot) → (depth ≡ 0 → ⊥) → value_at depth endian (Ty.array t) spot ≡ array_by (value_at (depth - 1) endian t) endian t spot
unfolding value_at
value_at-array zero endian t spot some = absurd (some refl)
value_at-array (suc depth) endian t spot some = rw sub-one refl

pub value_at-struct : (depth : ℕ) (endian : Endian) (ts : Tys) (spot : Spot) → (depth ≡ 0 → ⊥) → value_at depth endian (Ty.struct ts) spot ≡ struct_by (value_at (depth - 1) endian) ts spot
unfolding value_at
value_at-struct zero endian ts spot some = absurd (some refl)
value_at-struct (suc depth) endian ts spot some = rw sub-one refl

pub value_at-entry : (depth : ℕ) (endian : Endian) (key : BasicType) (t : Ty) (spot : Spot) → (depth ≡ 0 → ⊥) → value_at depth endian (Ty.entry key t) spot ≡ entry_by (value_at (depth - 1) endian) endian key t spot
unfolding value_at
value_at-entry zero endian key t spot some = absurd (some refl)
value_at-entry (suc depth) endian key t spot some = rw sub-one refl

pub too_deep : (depth : ℕ) (endian : Endian) (t : Ty) (spot : Spot) → depth ≡ 0 → ((b : BasicType) → t ≡ Ty.basic b → ⊥) → value_at depth endian t spot ≡ Err TooDeep
unfolding value_at
too_deep zero endian (Ty.basic b) spot none inner = absurd (inner b refl)
too_deep zero endian Ty.variant spot none inner = refl
too_deep zero endian (Ty.array t) spot none inner = refl
too_deep zero endian (Ty.struct ts) spot none inner = refl
too_deep zero endian (Ty.entry key t) spot none inner = refl
too_deep (suc depth) endian t spot none inner = absurd cc

pub is_basic : (t : CompleteType) (b : BasicType) → type_of t ≡ Ty.basic b → t ≡ Basic b
is_basic (Basic a) b e = let same : a ≡ b = cc in ap Basic same
is_basic Variant b e = absurd cc
is_basic (Array' place t) b e = absurd cc
is_basic (Struct' shape row) b e = absurd cc
is_basic (DictEntry' key place t) b e = absurd cc

-- a list of one type has an only type, and no other list does
pub only_none : (types : List CompleteType) → length types ≡ 0 → only_type (types_of types) ≡ Err BadSignature
only_none types none = ap (λ (ts : List CompleteType). only_type (types_of ts)) (nil_from_length types none)

pub only_many : (types : List CompleteType) (first : CompleteType) (others : List CompleteType) → types ≡ first ∷ others → (length others ≡ 0 → ⊥) → only_type (types_of types) ≡ Err BadSignature
only_many types first [] parts some = absurd (some refl)
only_many types first (second ∷ others) parts some = ap (λ (ts : List CompleteType). only_type (types_of ts)) parts

pub only_one : (types : List CompleteType) (first : CompleteType) (others : List CompleteType) → types ≡ first ∷ others → length others ≡ 0 → only_type (types_of types) ≡ Ok (type_of first)
only_one types first others parts none = ap (λ (ts : List CompleteType). only_type (types_of ts)) (parts ∙ ap (λ (ts : List CompleteType). first ∷ ts) (nil_from_length others none))

-- ---- values after others

pub values_then-end : (vs : Vals) → values_then vs Vals.end ≡ vs
values_then-end Vals.end = refl
values_then-end (Vals.more v vs) = ap (Vals.more v) (values_then-end vs)

pub each_as-push : (t : Ty) (vs : List Value) (v : Value) (ws : Vals) → values_then (each_as t (vs ++ v ∷ [])) ws ≡ values_then (each_as t vs) (Vals.more (value_as t v) ws)
each_as-push t [] v ws = refl
each_as-push t (u ∷ vs) v ws = ap (Vals.more (value_as t u)) (each_as-push t vs v ws)

-- ---- the elements of an array

left_one : (n i : ℕ) → i < n → n - i ≡ suc (n - (i + 1))
left_one n i lt = omega arith

pub with_values-end : (read : Result Vals ValueFault) → with_values Vals.end read ≡ read
with_values-end (Ok vs) = refl
with_values-end (Err f) = refl

pub elements_none : (read : Reader Val) (front : Vals) (n : ℕ) (spot : Spot) (left : List ℕ) (total : Result Vals ValueFault) → length left ≡ 0
    → with_values front (elements_from read n spot left) ≡ total → total ≡ Ok front
unfolding elements_from
elements_none read front zero spot left total none so_far =
    let one : with_values front (elements_from read 0 spot left) ≡ Ok front = rw (nil_from_length left none) (ap (λ (vs : Vals). Ok vs) (values_then-end front)) in
    sym so_far ∙ one
elements_none read front (suc n) spot left total none so_far =
    let one : with_values front (elements_from read (suc n) spot left) ≡ Ok front = rw (nil_from_length left none) (ap (λ (vs : Vals). Ok vs) (values_then-end front)) in
    sym so_far ∙ one

pub elements_over : (read : Reader Val) (front : Vals) (n i : ℕ) (spot : Spot) (left : List ℕ) (total : Result Vals ValueFault) → n ≤ i → (length left ≡ 0 → ⊥)
    → with_values front (elements_from read (n - i) spot left) ≡ total → total ≡ Err Short
unfolding elements_from
elements_over read front n i spot [] total le some so_far = absurd (some refl)
elements_over read front n i spot (b ∷ left) total le some so_far =
    let none : n - i ≡ 0 = omega arith in
    let one : with_values front (elements_from read (n - i) spot (b ∷ left)) ≡ Err Short = rw none refl in
    sym so_far ∙ one

regroup : (front : Vals) (v : Val) (next : Vals) (read : Result Vals ValueFault) → ((ws : Vals) → values_then next ws ≡ values_then front (Vals.more v ws))
    → with_values front (◌>>=◌ {B = Vals} read (λ vs. Ok (Vals.more v vs))) ≡ with_values next read
regroup front v next (Ok vs) e = ap (λ (ws : Vals). Ok ws) (sym (e vs))
regroup front v next (Err f) e = refl

pub elements_next : (read : Reader Val) (front : Vals) (n i : ℕ) (spot : Spot) (left : List ℕ) (v : Val) (after : Spot) (next : Vals) (total : Result Vals ValueFault) → i < n → (length left ≡ 0 → ⊥)
    → read spot ≡ Ok (v, after) → ((ws : Vals) → values_then next ws ≡ values_then front (Vals.more v ws))
    → with_values front (elements_from read (n - i) spot left) ≡ total → with_values next (elements_from read (n - (i + 1)) after after.left) ≡ total
unfolding elements_from
elements_next read front n i spot [] v after next total lt some found pushed so_far = absurd (some refl)
elements_next read front n i spot (b ∷ left) v after next total lt some found pushed so_far =
    let one : with_values front (elements_from read (n - i) spot (b ∷ left)) ≡ with_values next (elements_from read (n - (i + 1)) after after.left) =
    rw (left_one n i lt, found) (regroup front v next (elements_from read (n - (i + 1)) after after.left) pushed) in
    sym one ∙ so_far

elements_fault_is : (f : ValueFault) (read : Reader Val) (front : Vals) (n i : ℕ) (spot : Spot) (left : List ℕ) → i < n → (length left ≡ 0 → ⊥) → read spot ≡ Err f
    → with_values front (elements_from read (n - i) spot left) ≡ Err f
unfolding elements_from
elements_fault_is f read front n i spot [] lt some fault = absurd (some refl)
elements_fault_is f read front n i spot (b ∷ left) lt some fault = rw (left_one n i lt, fault) refl

pub elements_fault : (e : ValueFault) (read : Reader Val) (front : Vals) (n i : ℕ) (spot : Spot) (left : List ℕ) (total : Result Vals ValueFault) → i < n → (length left ≡ 0 → ⊥)
    → Refuses e (read spot) → with_values front (elements_from read (n - i) spot left) ≡ total → Refuses e total
elements_fault e read front n i spot left total lt some fault so_far =
    refuses_as e (read spot) total (λ f is. sym so_far ∙ elements_fault_is f read front n i spot left lt some is) fault

-- ---- the fields of a struct

-- the types that are left after those of the values
abbrev pub AreLeft : Bool → Tys → List Value → Tys → Type 0
AreLeft inner ts values left = (rest : List Value) → fields_as inner ts (values ++ rest) ≡ values_then (fields_as inner ts values) (fields_as inner left rest)

values_then-assoc : (us vs ws : Vals) → values_then (values_then us vs) ws ≡ values_then us (values_then vs ws)
values_then-assoc Vals.end vs ws = refl
values_then-assoc (Vals.more u us) vs ws = ap (Vals.more u) (values_then-assoc us vs ws)

pub none_left : (inner : Bool) (ts : Tys) (values : List Value) → values ≡ [] → AreLeft inner ts values ts
none_left inner ts values none rest = rw (none, known_none inner ts) refl

pub fields_push : (inner : Bool) (ts : Tys) (values pushed : List Value) (t : Ty) (others left : Tys) (v : Value) → pushed ≡ values ++ v ∷ [] → left ≡ Tys.more t others → AreLeft inner ts values left
    → (ws : Vals) → values_then (fields_as inner ts pushed) ws ≡ values_then (fields_as inner ts values) (Vals.more (value_as (known_as inner t) v) ws)
fields_push inner ts values pushed t others left v is same lefts ws =
    let first : fields_as inner left (v ∷ []) ≡ Vals.more (value_as (known_as inner t) v) Vals.end =
    ap (λ (us : Tys). fields_as inner us (v ∷ [])) same ∙ known_first inner t others v [] ∙ ap (Vals.more (value_as (known_as inner t) v)) (known_none inner others) in
    ap (λ (l : List Value). values_then (fields_as inner ts l) ws) is ∙ ap (λ (us : Vals). values_then us ws) (lefts (v ∷ []) ∙ ap (values_then (fields_as inner ts values)) first)
    ∙ values_then-assoc (fields_as inner ts values) (Vals.more (value_as (known_as inner t) v) Vals.end) ws

pub fields_left : (inner : Bool) (ts : Tys) (values pushed : List Value) (t : Ty) (others left : Tys) (v : Value) → pushed ≡ values ++ v ∷ [] → left ≡ Tys.more t others → AreLeft inner ts values left
    → AreLeft inner ts pushed others
fields_left inner ts values pushed t others left v is same lefts rest =
    let first : fields_as inner left (v ∷ rest) ≡ Vals.more (value_as (known_as inner t) v) (fields_as inner others rest) =
    ap (λ (us : Tys). fields_as inner us (v ∷ rest)) same ∙ known_first inner t others v rest in
    ap (λ (l : List Value). fields_as inner ts (l ++ rest)) is ∙ ap (fields_as inner ts) (append_assoc values (v ∷ []) rest) ∙ lefts (v ∷ rest) ∙ ap (values_then (fields_as inner ts values)) first
    ∙ sym (fields_push inner ts values pushed t others left v is same lefts (fields_as inner others rest))

pub with_fields-end : (read : Result (Vals × Spot) ValueFault) → with_fields Vals.end read ≡ read
with_fields-end (Ok x) = refl
with_fields-end (Err f) = refl

regroup_fields : (front : Vals) (v : Val) (next : Vals) (read : Result (Vals × Spot) ValueFault) → ((ws : Vals) → values_then next ws ≡ values_then front (Vals.more v ws))
    → with_fields front (◌>>=◌ {B = Vals × Spot} read (λ vs. Ok (Vals.more v vs.0, vs.1))) ≡ with_fields next read
regroup_fields front v next (Ok x) e = ap (λ (ws : Vals). Ok (ws, x.1)) (sym (e x.0))
regroup_fields front v next (Err f) e = refl

pub fields_next : (read : Ty → Reader Val) (front : Vals) (t : Ty) (ts types : Tys) (spot : Spot) (v : Val) (after : Spot) (next : Vals) (total : Result (Vals × Spot) ValueFault) → types ≡ Tys.more t ts
    → read t spot ≡ Ok (v, after) → ((ws : Vals) → values_then next ws ≡ values_then front (Vals.more v ws))
    → with_fields front (fields_by read types spot) ≡ total → with_fields next (fields_by read ts after) ≡ total
unfolding fields_by
fields_next read front t ts types spot v after next total is found pushed so_far =
    let one : with_fields front (fields_by read types spot) ≡ with_fields next (fields_by read ts after) = rw (is, found) (regroup_fields front v next (fields_by read ts after) pushed) in
    sym one ∙ so_far

fields_fault_is : (f : ValueFault) (read : Ty → Reader Val) (front : Vals) (t : Ty) (ts types : Tys) (spot : Spot) → types ≡ Tys.more t ts → read t spot ≡ Err f
    → with_fields front (fields_by read types spot) ≡ Err f
unfolding fields_by
fields_fault_is f read front t ts types spot is fault = rw (is, fault) refl

pub fields_fault : (e : ValueFault) (read : Ty → Reader Val) (front : Vals) (t : Ty) (ts types : Tys) (spot : Spot) (total : Result (Vals × Spot) ValueFault) → types ≡ Tys.more t ts
    → Refuses e (read t spot) → with_fields front (fields_by read types spot) ≡ total → Refuses e total
fields_fault e read front t ts types spot total is fault so_far =
    refuses_as e (read t spot) total (λ f same. sym so_far ∙ fields_fault_is f read front t ts types spot is same) fault

pub fields_end : (read : Ty → Reader Val) (front : Vals) (types : Tys) (spot : Spot) (total : Result (Vals × Spot) ValueFault) → types ≡ Tys.end
    → with_fields front (fields_by read types spot) ≡ total → total ≡ Ok (front, spot)
unfolding fields_by
fields_end read front types spot total is so_far =
    let one : with_fields front (fields_by read types spot) ≡ Ok (front, spot) = rw is (ap (λ (vs : Vals). Ok (vs, spot)) (values_then-end front)) in
    sym so_far ∙ one

-- ---- what a container contains

bytes_as : (inner : Bool) (t : Ty) (bytes : Box (List ℕ) Global) → value_as (known_as inner (Ty.array t)) (Bytes bytes) ≡ Val.bytes bytes.value
bytes_as true t bytes = refl
bytes_as false t bytes = refl

pub bytes_are : (inner : Bool) (read : Reader Val) (t : Ty) (spot : Spot) (bytes : Box (List ℕ) Global) → is_byte t ≡ true → bytes.value ≡ spot.left → elements_of read t spot ≡ Ok (value_as (known_as inner (Ty.array t)) (Bytes bytes))
unfolding elements_of
bytes_are inner read t spot bytes is same = rw is (ap (λ (bs : List ℕ). Ok (Val.bytes bs)) (sym same) ∙ ap (λ (v : Val). Ok v) (sym (bytes_as inner t bytes)))

elements_are : (read : Reader Val) (t : Ty) (spot : Spot) (vs : Vals) → is_byte t ≡ false → elements_from read (length spot.left) spot spot.left ≡ Ok vs → elements_of read t spot ≡ Ok (Val.array t vs)
unfolding elements_of
elements_are read t spot vs other found = rw (other, found) refl

-- an array inside another one
pub inner_are : (inner : Bool) (read : Reader Val) (t : Ty) (spot : Spot) (values : Box (Vec Value Global) Global) (vs : List Value) → inner ≡ true → is_byte t ≡ false
    → elements_from read (length spot.left) spot spot.left ≡ Ok (each_as t vs) → values.value.items ≡ vs → elements_of read t spot ≡ Ok (value_as (known_as inner (Ty.array t)) (InnerArray values))
inner_are inner read t spot values vs is other found same =
    elements_are read t spot (each_as t vs) other found ∙ ap (λ (l : List Value). Ok (Val.array t (each_as t l))) (sym same) ∙ ap (λ (v : Val). Ok v) (sym (inner_holds (Ty.array t) values))
    ∙ ap (λ (b : Bool). Ok (value_as (known_as b (Ty.array t)) (InnerArray values))) (sym is)

-- an array that has its type
pub array_are : (inner : Bool) (read : Reader Val) (t : Ty) (spot : Spot) (array : Box TypedArray Global) (vs : List Value) → inner ≡ false → is_byte t ≡ false
    → elements_from read (length spot.left) spot spot.left ≡ Ok (each_as t vs) → type_of array.value.element ≡ t → array.value.values.items ≡ vs → elements_of read t spot ≡ Ok (value_as (known_as inner (Ty.array t)) (Array array))
array_are inner read t spot array vs is other found type same =
    elements_are read t spot (each_as t vs) other found ∙ ap (λ (l : List Value). Ok (Val.array t (each_as t l))) (sym same)
    ∙ ap (λ (u : Ty). Ok (Val.array u (each_as u array.value.values.items))) (sym type) ∙ ap (λ (v : Val). Ok v) (sym (plain_array array))
    ∙ ap (λ (b : Bool). Ok (value_as (known_as b (Ty.array t)) (Array array))) (sym is)

-- a struct whose fields were read
pub struct_are : (inner : Bool) (read : Ty → Reader Val) (ts : Tys) (spot start after : Spot) (value : Value) (fields : List Value) → lone_in inner ts ≡ None → padding_at 8 spot ≡ Ok start
    → fields_by read ts start ≡ Ok (fields_as inner ts fields, after) → HasFields value fields → struct_by read ts spot ≡ Ok (value_as (known_as inner (Ty.struct ts)) value, after)
unfolding struct_by
struct_are inner read ts spot start after value fields none padded found has = rw (padded, found) (ap (λ (v : Val). Ok (v, after)) (sym (core_struct inner ts value fields none has)))

one_field : (read : Ty → Reader Val) (t : Ty) (spot : Spot) → fields_by read (Tys.more t Tys.end) spot ≡ (read t spot >>= λ v. Ok (Vals.more v.0 Vals.end, v.1))
unfolding fields_by
one_field read t spot = refl

-- a struct of one field in an array is kept as its field
pub lone_read : (inner : Bool) (read : Ty → Reader Val) (ts : Tys) (t : Ty) (spot start : Spot) (result : Result (Value × Cursor) ValueFault) → lone_in inner ts ≡ Some t → padding_at 8 spot ≡ Ok start
    → Reads (λ x. (value_as (known_as true t) x.0, spot_of x.1)) result (read t start)
    → Reads (λ x. (value_as (known_as inner (Ty.struct ts)) x.0, spot_of x.1)) result (struct_by read ts spot)
unfolding struct_by
lone_read inner read ts t spot start (Ok x) lone padded found =
    let parts = lone_is inner ts t lone in
    rw (parts.0, parts.1, padded, one_field read t start, found) refl
lone_read inner read ts t spot start (Err e) lone padded fault =
    let parts = lone_is inner ts t lone in
    refuses_as e (read t start) (struct_by read ts spot) (λ f is. rw (parts.1, padded, one_field read t start, is) refl) fault

-- ---- a value, by its type and where it is

abbrev pub ReadsAs : Bool → Ty → Result (Value × Cursor) ValueFault → Result (Val × Spot) ValueFault → Type 0
ReadsAs inner t result read = Reads (λ x. (value_as (known_as inner t) x.0, spot_of x.1)) result read

pub read_as : (inner : Bool) (depth : ℕ) (endian : Endian) (t u : Ty) (spot : Spot) (result : Result (Value × Cursor) ValueFault) (other : Result (Val × Spot) ValueFault) → t ≡ u → value_at depth endian u spot ≡ other
    → ReadsAs inner u result other → ReadsAs inner t result (value_at depth endian t spot)
read_as inner depth endian t u spot result other same is reads =
    subst (λ (k : Ty). ReadsAs inner k result (value_at depth endian k spot)) (sym same) (subst (λ (r : Result (Val × Spot) ValueFault). ReadsAs inner u result r) (sym is) reads)

pub basic_reads : (inner : Bool) (b : BasicType) (result : Result (Value × Cursor) ValueFault) (read : Result (Val × Spot) ValueFault) → ((known : Ty) → Reads (λ x. (core_as known x.0, spot_of x.1)) result read)
    → ReadsAs inner (Ty.basic b) result read
basic_reads true b result read any = any (Ty.basic b)
basic_reads false b result read any = any Ty.variant

pub variant_reads : (inner : Bool) (result : Result (Value × Cursor) ValueFault) (read : Result (Val × Spot) ValueFault) → Reads (λ x. (value_as Ty.variant x.0, spot_of x.1)) result read → ReadsAs inner Ty.variant result read
variant_reads true result read reads = reads
variant_reads false result read reads = reads

-- a key and its value
pub entry_are : (inner : Bool) (read : Ty → Reader Val) (endian : Endian) (key : BasicType) (t : Ty) (spot start behind after : Spot) (entry : Box KeyAndValue Global) (k v : Value) → padding_at 8 spot ≡ Ok start
    → basic_at endian key start ≡ Ok (core_as (known_as inner (Ty.entry key t)) k, behind) → read t behind ≡ Ok (value_as (known_as inner t) v, after) → entry.value.key ≡ k → entry.value.value ≡ v
    → entry_by read endian key t spot ≡ Ok (value_as (known_as inner (Ty.entry key t)) (DictEntry entry), after)
unfolding entry_by
entry_are true read endian key t spot start behind after entry k v padded first second is_key is_value =
    rw (padded, first, second) (ap (λ (x : Value). Ok (Val.entry (core_as (Ty.entry key t) x) (value_as t v), after)) (sym is_key) ∙ ap (λ (x : Value). Ok (Val.entry (core_as (Ty.entry key t) entry.value.key) (value_as t x), after)) (sym is_value))
entry_are false read endian key t spot start behind after entry k v padded first second is_key is_value =
    rw (padded, first, second) (ap (λ (x : Value). Ok (Val.entry (value_of x) (value_of v), after)) (sym is_key) ∙ ap (λ (x : Value). Ok (Val.entry (value_of entry.value.key) (value_of x), after)) (sym is_value))
