-- Lists that compare as equal, element by element.
use Rattle.std.proofs.Common.{◌≡◌, ℕ, ◌+◌, ◌<◌, ◌≤◌, ◌&&◌, Bool, true, false, List, [], ◌∷◌, length, map, take, get_or, refl, sym, ap, ◌∙◌, arith}
use Rattle.std.specs.Cmp.Lexicographic.{pointwise}
use Rattle.std.proofs.lemmas.List.{get_or-map, length-map, take_all, take_more_same}
use Rattle.keyring_file.specs.declared.clear.ClearItem.{ClearItem}
use Rattle.collection_store.specs.State.{unhashed}

both : (a b : Bool) → (a && b) ≡ true → (a ≡ true) × (b ≡ true)
both true b e = (refl, e)
both false b e = absurd cc

pub same_lists : {A : Type 0} (same : A → A → Bool) → ((a b : A) → same a b ≡ true → a ≡ b) → (xs ys : List A) → pointwise same xs ys ≡ true → xs ≡ ys
same_lists same one [] [] e = refl
same_lists same one [] (y ∷ ys) e = absurd cc
same_lists same one (x ∷ xs) [] e = absurd cc
same_lists same one (x ∷ xs) (y ∷ ys) e =
    let h = both (same x y) (pointwise same xs ys) e in
    let head : x ≡ y = one x y h.0 in
    let tail : xs ≡ ys = same_lists same one xs ys h.1 in
    λ i. head i ∷ tail i

-- ---- items that are the same except for their hashes

module _ (one other : List ClearItem) (same : map unhashed one ≡ map unhashed other) where
  as_many : length one ≡ length other
  as_many = omega (arith, ap (λ l. length l) same, length-map one unhashed, length-map other unhashed)

  pub same_at : (place : ℕ) (x y : ClearItem) → place < length one → x ≡ get_or one place x → y ≡ get_or other place y → unhashed x ≡ unhashed y
  same_at place x y within at there =
      let also : place < length other = omega (arith, within, as_many) in
      ap unhashed at ∙ sym (get_or-map unhashed one place x (unhashed x) within) ∙ ap (λ l. get_or l place (unhashed x)) same ∙ get_or-map unhashed other place y (unhashed x) also ∙ sym (ap unhashed there)

  pub same_more : (place : ℕ) (x y : ClearItem) → place < length one → x ≡ get_or one place x → y ≡ get_or other place y → x ≡ y → take place one ≡ take place other → take (place + 1) one ≡ take (place + 1) other
  same_more place x y within at there is before =
      let also : place < length other = omega (arith, within, as_many) in
      take_more_same one other place x within also before (sym at ∙ is ∙ there ∙ ap (λ d. get_or other place d) (sym is))

  pub same_whole : (place : ℕ) → length one ≤ place → take place one ≡ take place other → one ≡ other
  same_whole place whole so_far =
      let also : length other ≤ place = omega (arith, whole, as_many) in
      sym (take_all place one whole) ∙ so_far ∙ take_all place other also
