-- The ids of the rows that the tests load are distinct.
use Rattle.std.proofs.Common.{◌≡◌, ℕ, List, [], ◌∷◌, nat_eq, refl, sym, subst}
use Rattle.std.specs.List.{IsDistinct}

three-distinct : IsDistinct nat_eq (7 ∷ 3 ∷ 5 ∷ [])
unfolding IsDistinct
three-distinct = ((refl, (refl, tt)), ((refl, tt), (tt, tt)))

pub distinct-three : (ids : List ℕ) → ids ≡ 7 ∷ 3 ∷ 5 ∷ [] → IsDistinct nat_eq ids
distinct-three ids are = subst (IsDistinct nat_eq) (sym are) three-distinct

one-distinct : (id : ℕ) → IsDistinct nat_eq (id ∷ [])
unfolding IsDistinct
one-distinct id = (tt, tt)

pub distinct-one : (ids : List ℕ) (id : ℕ) → ids ≡ id ∷ [] → IsDistinct nat_eq ids
distinct-one ids id are = subst (IsDistinct nat_eq) (sym are) (one-distinct id)
