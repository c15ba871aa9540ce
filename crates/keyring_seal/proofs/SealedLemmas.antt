-- What is written for the borrowed items, by rising number, is the sealed file.
use Rattle.std.proofs.Common.{◌≡◌, ℕ, ◌+◌, ◌^◌, ◌≤◌, ◌<◌, List, ◌++◌, length, map, ap, ◌∙◌, arith}
use Rattle.std.specs.List.{flat_map, AllByRecursion}
use Rattle.aes_cbc.specs.Cbc.{encrypted}
use Rattle.keyring_file.specs.Canonical.{area_text, checked, clear_text, item_text, padded, padding}
use Rattle.keyring_file.specs.Short.{IsShort, IsShortClearItem, IsShortItem}
use Rattle.keyring_seal.specs.declared.content.Content.{Content}
use Rattle.keyring_seal.specs.Arranged.{row_number, rows, hashed_row, arranged, IsKnown, IsSealable}
use Rattle.keyring_seal.specs.Order.{by_number}
use Rattle.keyring_seal.specs.Room.{items_measure, measure}
use Rattle.keyring_seal.specs.Whole.{most_bytes, sealed}
use Rattle.keyring_seal.proofs.ArrangeLemmas.{Lent, see}
use Rattle.keyring_seal.proofs.FileLemmas.{arranged_short_clear, arranged_short_items}
use Rattle.keyring_seal.proofs.RowLemmas.{clear_told, area_told, rows_short, items_short, as_many}
use Rattle.keyring_seal.proofs.SealLemmas.{items_long, length_area_text, length-sealed}

-- the bytes of the items before they are encrypted
lent_area : List Lent → List ℕ
lent_area lent = checked (padded (flat_map (λ (row : Lent). item_text row.1.now) lent))

module _ (content : Content) (key vector : List ℕ) (can : IsSealable content) (known : IsKnown content) (within : measure content ≤ most_bytes) where
  small : length (sealed content key vector) ≤ most_bytes
  small = let long = length-sealed content key vector can in omega (arith, within, long)

  pub lent_name : IsShort content.clear.name
  lent_name = (arranged_short_clear content can known key vector small).name

  module _ (lent : List Lent) (seen : map see lent ≡ by_number row_number (rows content)) where
    pub lent_items : AllByRecursion (λ row. IsShortItem row.1.now) lent
    lent_items = items_short lent (by_number row_number (rows content)) seen (arranged_short_items content can known key vector small)

    pub lent_clear_items : AllByRecursion (λ row. IsShortClearItem (hashed_row (row.0.now, row.1.now)).0) lent
    lent_clear_items = rows_short lent (by_number row_number (rows content)) seen (arranged_short_clear content can known key vector small).items.each

    pub lent_few : length lent < 2 ^ 32
    lent_few =
        let same = as_many lent (by_number row_number (rows content)) seen in
        let few = (arranged_short_clear content can known key vector small).items.few in
        omega (arith, same, few)

    told : lent_area lent ≡ area_text (arranged content).items
    unfolding lent_area
    told = ap (λ (t : List ℕ). checked (padded t)) (area_told lent (by_number row_number (rows content)) seen)

    -- the front, and the encrypted area after it
    pub sealed_told : (file front area : List ℕ) (n : ℕ) → n ≡ items_measure content + (16 + padding (items_measure content))
        → front ≡ clear_text (record content.clear { items = map (λ row. (hashed_row (row.0.now, row.1.now)).0) lent }) n
        → area ≡ encrypted key vector (checked (padded (flat_map (λ row. item_text row.1.now) lent)))
        → file ≡ front ++ area → file ≡ sealed content key vector
    unfolding sealed lent_area
    sealed_told file front area n count p q whole =
        let made = arranged content in
        let long = length_area_text made.items in
        let items = items_long content can in
        let padded = ap padding items in
        let same : n ≡ length (area_text made.items) = omega (arith, count, long, items, padded) in
        let clear = clear_told lent (by_number row_number (rows content)) seen in
        let first : front ≡ clear_text made.clear (length (area_text made.items)) = p ∙ (λ j. clear_text (record content.clear { items = clear j }) (same j)) in
        let second : area ≡ encrypted key vector (area_text made.items) = q ∙ ap (encrypted key vector) told in
        whole ∙ (λ j. first j ++ second j)
