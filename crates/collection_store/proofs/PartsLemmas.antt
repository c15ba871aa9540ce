-- The parts of a content that was opened.
use Rattle.std.proofs.Common.{◌≡◌, ℕ, nat_eq, List, [], ◌∷◌, length, map, refl, ap, sym, ◌∙◌, arith}
use Rattle.std.specs.BTreeMap.{insert_entry}
use Rattle.std.specs.Cmp.{nat_eq_equiv}
use Rattle.std.specs.List.{AllByRecursion, IsDistinct, zip}
use Rattle.std.specs.List.Sorted.{IsStrictlyIncreasing}
use Rattle.std.specs.Map.{keys_of, values_of}
use Rattle.std.specs.Ordering.{nat_cmp}
use Rattle.std.proofs.lemmas.List.Sorted.{IsPermutation-map}
use Rattle.std.proofs.lemmas.Map.Keys.{IsDistinct-IsPermutation, sorted_from_strictly_increasing}
use Rattle.attribute_hash.specs.Hash.{hashes}
use Rattle.kr_base.specs.declared.ids.ItemId.{ItemId}
use Rattle.keyring_file.specs.Clear.{ClearPart, IsOfVersion}
use Rattle.keyring_file.specs.declared.area.FullItem.{FullItem}
use Rattle.keyring_file.specs.declared.clear.ClearItem.{ClearItem}
use Rattle.item_store.specs.Rows.{HasJustRows, IsRising as AreRising, Row as StoreRow, Rows, row_at, row_of}
use Rattle.keyring_seal.specs.declared.content.Content.{Content}
use Rattle.keyring_seal.specs.Arranged.{IsSealable, Row, arranged_rows, hashed_row, row_number, rows}
use Rattle.keyring_seal.specs.Order.{by_number, entered}
use Rattle.keyring_seal.proofs.ArrangeLemmas.{clear_items_of, same_version}
use Rattle.keyring_seal.proofs.OrderLemmas.{changed, changed-insert, values_of-changed}
use Rattle.keyring_seal.proofs.RisingLemmas.{as_they_stand, place_by_rising, rising_by_number, rising_by_place}
use Rattle.keyring_seal.proofs.SealLemmas.{arranged-permutation, map_number-zip}
use Rattle.collection_store.specs.State.{AreParts, IsInPlace, by_id, ids_of, rows_with, unhashed, without_hashes}
use Rattle.collection_store.proofs.OrderLemmas.{by_number_rising}

-- values that are changed and keep their numbers are sorted in the same order
module _ {X Y : Type 0} (g : X → Y) (number : Y → ℕ) where
  entered_changed : (es : List (ℕ × X)) (xs : List X) → changed g (entered (λ x. number (g x)) es xs) ≡ entered number (changed g es) (map g xs)
  entered_changed es [] = refl
  entered_changed es (x ∷ more) = entered_changed (insert_entry nat_cmp es (number (g x)) x) more ∙ ap (λ t. entered number t (map g more)) (changed-insert g (number (g x)) x es)

  by_number_changed : (xs : List X) → map g (by_number (λ x. number (g x)) xs) ≡ by_number number (map g xs)
  unfolding by_number
  by_number_changed xs = sym (values_of-changed g (entered (λ x. number (g x)) [] xs)) ∙ ap (λ t. values_of t) (entered_changed [] xs)

zip_first : (clear : List ClearItem) (items : List FullItem) → length items ≡ length clear → map (λ (row : Row). row.0) (zip clear items) ≡ clear
zip_first [] items same = refl
zip_first (x ∷ clear) [] same = absurd (omega (arith, same))
zip_first (x ∷ clear) (y ∷ items) same = ap (λ (t : List ClearItem). x ∷ t) (zip_first clear items (omega (arith, same)))

-- a row in the form of `item_store`
abbrev as_row : Row → ℕ × StoreRow
as_row row = (row.0.id.0, record { kind = row.0.kind; item = row.1 })

-- a row as `item_store` takes it
abbrev pub as_given : Row → ItemId × ℕ × FullItem
as_given row = (row.0.id, row.0.kind, row.1)

-- the clear part of a row with the hashes of its own attributes
abbrev pub as_clear : Row → ClearItem
as_clear row = (hashed_row row).0

given_rows : (ordered : List Row) → map row_of (map as_given ordered) ≡ map as_row ordered
given_rows [] = refl
given_rows (row ∷ more) = ap (λ (t : Rows). as_row row ∷ t) (given_rows more)

given_numbers : (ordered : List Row) → map (λ (g : ItemId × ℕ × FullItem). g.0.0) (map as_given ordered) ≡ map row_number ordered
given_numbers [] = refl
given_numbers (row ∷ more) = ap (λ (t : List ℕ). row_number row ∷ t) (given_numbers more)

row_keys : (ordered : List Row) → keys_of (map as_row ordered) ≡ map row_number ordered
row_keys [] = refl
row_keys (row ∷ more) = ap (λ (t : List ℕ). row_number row ∷ t) (row_keys more)

clear_ids : (ordered : List Row) → ids_of (map as_clear ordered) ≡ map row_number ordered
clear_ids [] = refl
clear_ids (row ∷ more) = ap (λ (t : List ℕ). row_number row ∷ t) (clear_ids more)

rejoined : (ordered : List Row) → zip (map as_clear ordered) (map (λ (r : ℕ × StoreRow). r.1.item) (map as_row ordered)) ≡ map hashed_row ordered
rejoined [] = refl
rejoined (row ∷ more) = ap (λ (t : List Row). hashed_row row ∷ t) (rejoined more)

all_hashed : (ordered : List Row) → AllByRecursion (λ (row : Row). row.0.hashed ≡ hashes row.1.attributes) (map hashed_row ordered)
all_hashed [] = tt
all_hashed (row ∷ more) = (refl, all_hashed more)

clear_unhashed : (ordered : List Row) → map unhashed (map as_clear ordered) ≡ map unhashed (map (λ (row : Row). row.0) ordered)
clear_unhashed [] = refl
clear_unhashed (row ∷ more) = ap (λ (t : List ClearItem). unhashed row.0 ∷ t) (clear_unhashed more)

-- two lists of rows in order of their ids are equal if they have the same row for each id
abbrev pub OneList : Type 0
OneList = (one other : Rows) → AreRising one → AreRising other → ((id : ℕ) → row_at id one ≡ row_at id other) → one ≡ other

module _ (content : Content) (can : IsSealable content) where
  abbrev ordered : List Row
  ordered = by_number row_number (rows content)

  rising : IsStrictlyIncreasing (map row_number ordered)
  rising = place_by_rising row_number ordered (by_number_rising row_number (rows content))

  pub given_distinct : (given : List (ItemId × ℕ × FullItem)) → given ≡ map as_given ordered → IsDistinct nat_eq (map (λ (g : ItemId × ℕ × FullItem). g.0.0) given)
  given_distinct given e =
      let apart : IsDistinct nat_eq (map row_number (rows content)) = rw (map_number-zip content.clear.items content.items can.counted) can.distinct in
      let moved = IsPermutation-map row_number (rows content) ordered (arranged-permutation content can) in
      rw (e, given_numbers ordered) (IsDistinct-IsPermutation nat_eq nat_eq_equiv.symm (map row_number (rows content)) (map row_number ordered) moved apart)

  pub parts_version : (clear : List ClearItem) → clear ≡ map as_clear ordered → IsOfVersion content.clear.minor content.clear.items → IsOfVersion content.clear.minor clear
  parts_version clear e old = rw (e, clear_items_of ordered) (same_version content.clear.minor content.clear.items content.items old)

  pub parts_rising : (clear : List ClearItem) → clear ≡ map as_clear ordered → IsStrictlyIncreasing (ids_of clear)
  parts_rising clear e = rw (e, clear_ids ordered) rising

  module _ (one : OneList) (told : ClearPart) (items : Rows) (given : List (ItemId × ℕ × FullItem)) (is_told : told ≡ record content.clear { items = map as_clear ordered }) (is_given : given ≡ map as_given ordered) (loaded : HasJustRows given items) where
    is_rows : items ≡ map as_row ordered
    is_rows =
        let same : map row_of given ≡ map as_row ordered = ap (λ t. map row_of t) is_given ∙ given_rows ordered in
        let up : AreRising (map as_row ordered) = rw (row_keys ordered) (sorted_from_strictly_increasing (map row_number ordered) rising) in
        one items (map as_row ordered) loaded.rising up (rw (← same) loaded.each)

    pub parts_rows : rows_with told items ≡ arranged_rows content
    parts_rows = rw (is_told, is_rows) (rejoined ordered)

    pub parts_ids : ids_of told.items ≡ keys_of items
    parts_ids = rw (is_told, is_rows) (clear_ids ordered ∙ sym (row_keys ordered))

    pub parts_hashed : AllByRecursion (λ (row : Row). row.0.hashed ≡ hashes row.1.attributes) (rows_with told items)
    parts_hashed = rw parts_rows (all_hashed ordered)

    pub parts_same : without_hashes told ≡ without_hashes (by_id content.clear)
    parts_same =
        let firsts : map (λ (row : Row). row.0) ordered ≡ by_number (λ (item : ClearItem). item.id.0) content.clear.items =
        by_number_changed (λ (row : Row). row.0) (λ (item : ClearItem). item.id.0) (rows content) ∙ ap (λ t. by_number (λ (item : ClearItem). item.id.0) t) (zip_first content.clear.items content.items can.counted) in
        rw is_told (ap (λ (t : List ClearItem). record content.clear { items = t }) (clear_unhashed ordered ∙ ap (λ t. map unhashed t) firsts))

-- ---- a content that is as a collection keeps it

own_clear : (these : List Row) → AllByRecursion (λ (row : Row). row.0.hashed ≡ hashes row.1.attributes) these → map as_clear these ≡ map (λ (row : Row). row.0) these
own_clear [] own = refl
own_clear (row ∷ more) own = λ i. (record row.0 { hashed = sym own.0 i }) ∷ own_clear more own.1 i

-- a clear part whose ids rise is in order
pub by_id_stays : (clear : ClearPart) → IsStrictlyIncreasing (ids_of clear.items) → by_id clear ≡ clear
by_id_stays clear rising = ap (λ (t : List ClearItem). record clear { items = t }) (rising_by_number (λ (item : ClearItem). item.id.0) clear.items (rising_by_place (λ (item : ClearItem). item.id.0) clear.items rising))

module _ (content : Content) (can : IsSealable content) (is : IsInPlace content) where
  in_order : rows content ≡ ordered content can
  in_order = as_they_stand content.clear.items content.items is.rising

  told_in_place : by_id content.clear ≡ record content.clear { items = map as_clear (ordered content can) }
  told_in_place =
      let by_place = ap (λ (t : ClearPart). t.items) (by_id_stays content.clear is.rising) in
      ap (λ (t : List ClearItem). record content.clear { items = t })
      (by_place ∙ sym (zip_first content.clear.items content.items can.counted) ∙ sym (own_clear (rows content) is.hashed) ∙ ap (λ (t : List Row). map as_clear t) in_order)

  module _ (given : List (ItemId × ℕ × FullItem)) (is_given : given ≡ map as_given (rows content)) where
    given_in_order : given ≡ map as_given (ordered content can)
    given_in_order = is_given ∙ ap (λ (t : List Row). map as_given t) in_order

    pub distinct_in_place : IsDistinct nat_eq (map (λ (g : ItemId × ℕ × FullItem). g.0.0) given)
    distinct_in_place = given_distinct content can given given_in_order

    pub parts_in_place : OneList → (items : Rows) → HasJustRows given items → AreParts content (by_id content.clear) items
    parts_in_place one items loaded = record {
      rows = parts_rows content can one (by_id content.clear) items given told_in_place given_in_order loaded;
      ids = parts_ids content can one (by_id content.clear) items given told_in_place given_in_order loaded;
      hashed = parts_hashed content can one (by_id content.clear) items given told_in_place given_in_order loaded;
      same = refl;
    }
