-- The views of types whose parts are in vectors.
use Rattle.std.proofs.Common.{◌≡◌, ℕ, ◌+◌, ◌<◌, List, [], ◌∷◌, ◌++◌, length, take, get_or, refl, sym, ap, ◌∙◌, Vec, Global}
use Rattle.std.proofs.lemmas.List.{take_more}
use mathlib.Core.Former.{Count}
use Rattle.dbus_types.specs.Types.{Ty, Tys, struct, more, end}
use Rattle.dbus_types.specs.Views.{type_of, types_of, row_types}
use Rattle.dbus_types.specs.Signatures.{types_then}
use Rattle.dbus_types.specs.declared.complete_type.CompleteType.{CompleteType, Struct, Struct', Row_of-CompleteType, end_of-CompleteType, more_of-CompleteType, items-the_row-CompleteType, items_hidden-the_row-CompleteType-0}

row_is : (n : _) (row : Row_of-CompleteType n) → row_types row ≡ types_of (items-the_row-CompleteType n row)
row_is n end_of-CompleteType = refl
row_is n (more_of-CompleteType t rest) = ap (more (type_of t)) (row_is _ rest)

abbrev row_of : CompleteType → (n : Count) × Row_of-CompleteType n
row_of (Struct' _ row) = (_, row)
row_of _ = (_, end_of-CompleteType)

-- a struct's fields are what its vector contains
pub struct_is : (ts : Vec CompleteType Global) → type_of (Struct ts) ≡ struct (types_of ts.items)
struct_is ts =
    let row = row_of (Struct ts) in
    ap struct (row_is row.0 row.1 ∙ ap types_of (items_hidden-the_row-CompleteType-0 ts))

pub types_then-end : (ts : Tys) → types_then ts end ≡ ts
types_then-end end = refl
types_then-end (more t ts) = ap (more t) (types_then-end ts)

pub types_of-push : (ts : List CompleteType) (t : CompleteType) (us : Tys) → types_then (types_of (ts ++ t ∷ [])) us ≡ types_then (types_of ts) (more (type_of t) us)
types_of-push [] t us = refl
types_of-push (u ∷ ts) t us = ap (more (type_of u)) (types_of-push ts t us)

-- one more type on both sides
pub types_of-one_more : (copied types : List CompleteType) (copy each : CompleteType) (i : ℕ) → i < length types → each ≡ get_or types i each → type_of copy ≡ type_of each
    → types_of copied ≡ types_of (take i types) → types_of (copied ++ copy ∷ []) ≡ types_of (take (i + 1) types)
types_of-one_more copied types copy each i lt is same so_far =
    let one : types_of (copied ++ copy ∷ []) ≡ types_then (types_of copied) (more (type_of copy) end) = sym (types_then-end _) ∙ types_of-push copied copy end in
    let other : types_of (take i types ++ each ∷ []) ≡ types_then (types_of (take i types)) (more (type_of each) end) = sym (types_then-end _) ∙ types_of-push (take i types) each end in
    one ∙ ap (λ (ts : Tys). types_then ts (more (type_of copy) end)) so_far ∙ ap (λ (t : Ty). types_then (types_of (take i types)) (more t end)) same ∙ sym other
    ∙ ap (λ (x : CompleteType). types_of (take i types ++ x ∷ [])) is ∙ ap types_of (sym (take_more types i each lt))
