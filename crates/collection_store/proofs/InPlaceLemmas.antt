-- Items whose hashes are compared with their own attributes, one after another.
use Rattle.std.proofs.Common.{◌≡◌, ℕ, ◌+◌, ◌<◌, ◌≤◌, List, ◌∷◌, length, get_or, drop, sym, ap, subst, ◌∙◌, arith}
use Rattle.std.specs.List.{AllByRecursion, zip}
use Rattle.std.proofs.lemmas.List.{drop_all, drop_more}
use Rattle.attribute_hash.specs.Hash.{hashes}
use Rattle.keyring_file.specs.declared.area.FullItem.{FullItem}
use Rattle.keyring_file.specs.declared.clear.ClearItem.{ClearItem}
use Rattle.keyring_seal.specs.Arranged.{Row}

-- these items have the hashes of their own attributes
abbrev pub AreOwn : List Row → Type 0
AreOwn these = AllByRecursion (λ (row : Row). row.0.hashed ≡ hashes row.1.attributes) these

module _ (clear : List ClearItem) (items : List FullItem) (place : ℕ) where
  -- the items from this position on
  abbrev pub AreOwnFrom : Type 0
  AreOwnFrom = AreOwn (zip (drop place clear) (drop place items))

  pub own_end : length clear ≤ place → AreOwnFrom
  own_end whole = rw (drop_all place clear whole) tt

  module _ (x : ClearItem) (y : FullItem) (within : place < length clear) (as_many : length items ≡ length clear) (is_x : x ≡ get_or clear place x) (is_y : y ≡ get_or items place y) where
    next : zip (drop place clear) (drop place items) ≡ (x, y) ∷ zip (drop (place + 1) clear) (drop (place + 1) items)
    next =
        let one : drop place clear ≡ x ∷ drop (place + 1) clear = drop_more clear place x within ∙ ap (λ h. h ∷ drop (place + 1) clear) (sym is_x) in
        let other : drop place items ≡ y ∷ drop (place + 1) items = drop_more items place y (omega (arith, within, as_many)) ∙ ap (λ h. h ∷ drop (place + 1) items) (sym is_y) in
        λ i. zip (one i) (other i)

    pub own_here : AreOwnFrom → (x.hashed ≡ hashes y.attributes) × AreOwn (zip (drop (place + 1) clear) (drop (place + 1) items))
    own_here own = subst AreOwn next own

    pub own_from : x.hashed ≡ hashes y.attributes → AreOwn (zip (drop (place + 1) clear) (drop (place + 1) items)) → AreOwnFrom
    own_from here own = subst AreOwn (sym next) (here, own)
