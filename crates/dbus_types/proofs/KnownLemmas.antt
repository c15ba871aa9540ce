-- Structs of one field around a type.
use Rattle.std.proofs.Common.{◌≡◌, ℕ, zero, suc, ◌+◌, ◌<◌, Bool, true, false, Option, Some, None, List, [], ◌∷◌, length, refl, ap, sym, ◌∙◌, arith}
use Rattle.dbus_types.specs.declared.complete_type.CompleteType.{CompleteType}
use Rattle.dbus_types.specs.Types.{Ty, Tys}
use Rattle.dbus_types.specs.Views.{types_of}
use Rattle.dbus_types.specs.ValueViews.{core_of, lone_in}
use Rattle.dbus_types.specs.Known.{lone_field, wrapping}

pub lone_many : (inner : Bool) (types : List CompleteType) (first : CompleteType) (others : List CompleteType) → types ≡ first ∷ others → (length others ≡ 0 → ⊥) → None ≡ lone_in inner (types_of types)
lone_many inner types first [] parts some = absurd (some refl)
lone_many true types first (second ∷ others) parts some = ap (λ (ts : List CompleteType). lone_in true (types_of ts)) (sym parts)
lone_many false types first (second ∷ others) parts some = refl

-- the number of them
abbrev pub wraps : Ty → ℕ
wraps (Ty.struct (Tys.more t Tys.end)) = suc (wraps t)
wraps (Ty.struct (Tys.more t (Tys.more u ts))) = 0
wraps (Ty.struct Tys.end) = 0
wraps (Ty.basic b) = 0
wraps Ty.variant = 0
wraps (Ty.array t) = 0
wraps (Ty.entry key t) = 0

is_struct : (t only : Ty) → lone_field t ≡ Some only → t ≡ Ty.struct (Tys.more only Tys.end)
is_struct (Ty.struct (Tys.more t Tys.end)) only e = let same : t ≡ only = cc in ap (λ (u : Ty). Ty.struct (Tys.more u Tys.end)) same
is_struct (Ty.struct (Tys.more t (Tys.more u ts))) only e = absurd cc
is_struct (Ty.struct Tys.end) only e = absurd cc
is_struct (Ty.basic b) only e = absurd cc
is_struct Ty.variant only e = absurd cc
is_struct (Ty.array t) only e = absurd cc
is_struct (Ty.entry key t) only e = absurd cc

pub core_next : (t only whole : Ty) → lone_field t ≡ Some only → core_of t ≡ whole → core_of only ≡ whole
core_next t only whole e is = sym (ap core_of (is_struct t only e)) ∙ is

pub wraps_next : (t only : Ty) → lone_field t ≡ Some only → wraps only < wraps t
wraps_next t only e = rw (is_struct t only e) (omega arith)

pub core_over : (t whole : Ty) → lone_field t ≡ None → core_of t ≡ whole → t ≡ whole
core_over (Ty.struct (Tys.more t Tys.end)) whole e is = absurd cc
core_over (Ty.struct (Tys.more t (Tys.more u ts))) whole e is = is
core_over (Ty.struct Tys.end) whole e is = is
core_over (Ty.basic b) whole e is = is
core_over Ty.variant whole e is = is
core_over (Ty.array t) whole e is = is
core_over (Ty.entry key t) whole e is = is

pub wrapping_some : (t only : Ty) → lone_field t ≡ Some only → 8 ≡ wrapping t
wrapping_some t only e = rw (is_struct t only e) refl

pub wrapping_none : (t : Ty) → lone_field t ≡ None → 1 ≡ wrapping t
wrapping_none (Ty.struct (Tys.more t Tys.end)) e = absurd cc
wrapping_none (Ty.struct (Tys.more t (Tys.more u ts))) e = refl
wrapping_none (Ty.struct Tys.end) e = refl
wrapping_none (Ty.basic b) e = refl
wrapping_none Ty.variant e = refl
wrapping_none (Ty.array t) e = refl
wrapping_none (Ty.entry key t) e = refl
