-- The views of values whose parts are in vectors.
use Rattle.dbus_types.specs.declared.value.TypedArray.{TypedArray}
use Rattle.std.proofs.Common.{◌≡◌, List, [], ◌∷◌, length, Bool, true, false, Some, None, refl, sym, ap, ◌∙◌, arith, Vec, Box, Global}
use mathlib.Core.Former.{Count}
use Rattle.dbus_types.specs.declared.complete_type.BasicType.{BasicType}
use Rattle.dbus_types.specs.Types.{Ty, Tys}
use Rattle.dbus_types.specs.Values.{Val, Vals}
use Rattle.dbus_types.specs.Views.{type_of}
use Rattle.dbus_types.specs.ValueViews.{core_as, core_of, value_as, value_of, values_of, each_as, all_as, fields_as, row_each, row_all, element_of, fields_of, struct_fields, held_of, typed_array, known_as, lone_in, unless_two, if_not_two, HasFields, is_struct, nothing}
use Rattle.dbus_types.specs.declared.value.Value.{Value, Array, Array', InnerArray, InnerArray', Struct, Struct', Pair, Pair', Row_of-Value, end_of-Value, more_of-Value, items-the_row-Value, items_hidden-the_row-Value-0, items_hidden-the_row-Value-1}

each_is : (t : Ty) (n : _) (row : Row_of-Value n) → row_each t row ≡ each_as t (items-the_row-Value n row)
each_is t n end_of-Value = refl
each_is t n (more_of-Value v rest) = ap (Vals.more (value_as t v)) (each_is t _ rest)

all_is : (ts : Tys) (n : _) (row : Row_of-Value n) → row_all ts row ≡ all_as ts (items-the_row-Value n row)
all_is ts n end_of-Value = refl
all_is Tys.end n (more_of-Value v rest) = ap (Vals.more nothing) (all_is Tys.end _ rest)
all_is (Tys.more t ts) n (more_of-Value v rest) = ap (Vals.more (value_as t v)) (all_is ts _ rest)

abbrev row_of : Value → (n : Count) × Row_of-Value n
row_of (Struct' _ _ row) = (_, row)
row_of (InnerArray' _ _ row) = (_, row)
row_of (Pair' _ _ row) = (_, row)
row_of (Array' _ _ _ row) = (_, row)
row_of _ = (_, end_of-Value)

-- a struct's fields are what its vector contains, if there aren't two
pub struct_holds : (known : Ty) (vs : Box (Vec Value Global) Global) → core_as known (Struct vs) ≡ Val.struct (unless_two (struct_fields known (all_as (fields_of known) vs.value.items) (each_as known vs.value.items)))
struct_holds known vs =
    let row = row_of (Struct vs) in
    ap (λ (us : Vals). Val.struct (unless_two (struct_fields known us (row_each known row.1)))) (all_is (fields_of known) row.0 row.1 ∙ ap (all_as (fields_of known)) (items_hidden-the_row-Value-0 vs.value))
    ∙ ap (λ (us : Vals). Val.struct (unless_two (struct_fields known (all_as (fields_of known) vs.value.items) us))) (each_is known row.0 row.1 ∙ ap (each_as known) (items_hidden-the_row-Value-0 vs.value))

-- the elements of an array inside an array are what its vector contains
pub inner_holds : (known : Ty) (vs : Box (Vec Value Global) Global) → core_as known (InnerArray vs) ≡ Val.array (element_of known) (each_as (element_of known) vs.value.items)
inner_holds known vs =
    let row = row_of (InnerArray vs) in
    ap (Val.array (element_of known)) (each_is (element_of known) row.0 row.1 ∙ ap (each_as (element_of known)) (items_hidden-the_row-Value-0 vs.value))

-- the elements of an array with a type of its own are what its vector contains
pub array_holds : (known : Ty) (a : Box TypedArray Global) → core_as known (Array a) ≡ typed_array known (type_of a.value.element) (each_as (type_of a.value.element) a.value.values.items)
array_holds known a =
    let t = type_of a.value.element in
    let row = row_of (Array a) in
    ap (typed_array known t) (each_is t row.0 row.1 ∙ ap (each_as t) (items_hidden-the_row-Value-0 a.value.values))

-- an array that isn't inside another one
pub plain_array : (a : Box TypedArray Global) → value_of (Array a) ≡ Val.array (type_of a.value.element) (each_as (type_of a.value.element) a.value.values.items)
plain_array a = array_holds Ty.variant a

-- ---- by what is known

pub known_first : (inner : Bool) (t : Ty) (ts : Tys) (v : Value) (vs : List Value) → fields_as inner (Tys.more t ts) (v ∷ vs) ≡ Vals.more (value_as (known_as inner t) v) (fields_as inner ts vs)
known_first true t ts v vs = refl
known_first false t ts v vs = refl

pub known_none : (inner : Bool) (ts : Tys) → fields_as inner ts [] ≡ Vals.end
known_none true ts = refl
known_none false ts = refl

pub known_held : (inner : Bool) (key : BasicType) (t : Ty) → held_of (known_as inner (Ty.entry key t)) ≡ known_as inner t
known_held true key t = refl
known_held false key t = refl

pub known_variant : (inner : Bool) → known_as inner Ty.variant ≡ Ty.variant
known_variant true = refl
known_variant false = refl

pub core_struct : (inner : Bool) (ts : Tys) (value : Value) (fields : List Value) → lone_in inner ts ≡ None → HasFields value fields → value_as (known_as inner (Ty.struct ts)) value ≡ Val.struct (fields_as inner ts fields)
core_struct false ts value fields none has = has Ty.variant
core_struct true Tys.end value fields none has = has (Ty.struct Tys.end)
core_struct true (Tys.more t Tys.end) value fields none has = absurd cc
core_struct true (Tys.more t (Tys.more u ts)) value fields none has = has (Ty.struct (Tys.more t (Tys.more u ts)))

pub core_basic : (inner : Bool) (b : BasicType) (v : Value) → value_as (known_as inner (Ty.basic b)) v ≡ core_as (known_as inner (Ty.basic b)) v
core_basic true b v = refl
core_basic false b v = refl

pub core_entry : (inner : Bool) (key : BasicType) (t : Ty) (v : Value) → value_as (known_as inner (Ty.entry key t)) v ≡ core_as (known_as inner (Ty.entry key t)) v
core_entry true key t v = refl
core_entry false key t v = refl

pub lone_is : (inner : Bool) (ts : Tys) (t : Ty) → lone_in inner ts ≡ Some t → (inner ≡ true) × (ts ≡ Tys.more t Tys.end)
lone_is false ts t e = absurd cc
lone_is true Tys.end t e = absurd cc
lone_is true (Tys.more u Tys.end) t e = let same : u ≡ t = cc in (refl, ap (λ (k : Ty). Tys.more k Tys.end) same)
lone_is true (Tys.more u (Tys.more w ts)) t e = absurd cc

-- ---- the fields of a struct

each_two : (t : Ty) (vs : List Value) → unless_two (each_as t vs) ≡ each_as t (if_not_two vs)
each_two t [] = refl
each_two t (v ∷ []) = refl
each_two t (v ∷ w ∷ []) = refl
each_two t (v ∷ w ∷ x ∷ vs) = refl

all_two : (ts : Tys) (vs : List Value) → unless_two (all_as ts vs) ≡ all_as ts (if_not_two vs)
all_two ts [] = refl
all_two Tys.end (v ∷ []) = refl
all_two (Tys.more t ts) (v ∷ []) = refl
all_two Tys.end (v ∷ w ∷ []) = refl
all_two (Tys.more t Tys.end) (v ∷ w ∷ []) = refl
all_two (Tys.more t (Tys.more u ts)) (v ∷ w ∷ []) = refl
all_two Tys.end (v ∷ w ∷ x ∷ vs) = refl
all_two (Tys.more t Tys.end) (v ∷ w ∷ x ∷ vs) = refl
all_two (Tys.more t (Tys.more u Tys.end)) (v ∷ w ∷ x ∷ vs) = refl
all_two (Tys.more t (Tys.more u (Tys.more s ts))) (v ∷ w ∷ x ∷ vs) = refl

struct_two : (known : Ty) (vs : List Value) → unless_two (struct_fields known (all_as (fields_of known) vs) (each_as known vs)) ≡ struct_fields known (all_as (fields_of known) (if_not_two vs)) (each_as known (if_not_two vs))
struct_two (Ty.struct ts) vs = all_two ts vs
struct_two (Ty.basic b) vs = each_two (Ty.basic b) vs
struct_two Ty.variant vs = each_two Ty.variant vs
struct_two (Ty.array t) vs = each_two (Ty.array t) vs
struct_two (Ty.entry key t) vs = each_two (Ty.entry key t) vs

-- a struct that is a vector has the vector's fields, if there aren't two
pub vector_fields : (value : Value) (vs : Box (Vec Value Global) Global) (fields : List Value) → value ≡ Struct vs → fields ≡ if_not_two vs.value.items → HasFields value fields
vector_fields value vs fields is same known =
    ap (core_as known) is ∙ struct_holds known vs ∙ ap Val.struct (struct_two known vs.value.items)
    ∙ ap (λ (l : List Value). Val.struct (struct_fields known (all_as (fields_of known) l) (each_as known l))) (sym same)

-- a struct of two fields has what its array contains
pub pair_fields : (value : Value) (vs : Box (List Value) Global) (fields : List Value) → value ≡ Pair vs → fields ≡ vs.value → HasFields value fields
pair_fields value vs fields is same known =
    let row = row_of (Pair vs) in
    ap (core_as known) is
    ∙ ap (λ (us : Vals). Val.struct (struct_fields known us (row_each known row.1))) (all_is (fields_of known) row.0 row.1 ∙ ap (all_as (fields_of known)) (items_hidden-the_row-Value-1 vs.value))
    ∙ ap (λ (us : Vals). Val.struct (struct_fields known (all_as (fields_of known) vs.value) us)) (each_is known row.0 row.1 ∙ ap (each_as known) (items_hidden-the_row-Value-1 vs.value))
    ∙ ap (λ (l : List Value). Val.struct (struct_fields known (all_as (fields_of known) l) (each_as known l))) (sym same)

-- a vector of fields that aren't two keeps them
pub kept_fields : (fields : List Value) → (length fields ≡ 2 → ⊥) → fields ≡ if_not_two fields
kept_fields [] other = refl
kept_fields (v ∷ []) other = refl
kept_fields (v ∷ w ∷ []) other = absurd (other refl)
kept_fields (v ∷ w ∷ x ∷ vs) other = refl
