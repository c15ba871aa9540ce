-- The number of bytes of a sealed file.
use Rattle.std.proofs.Common.{◌<◌, ◌≡◌, ℕ, ◌+◌, ◌%◌, ◌≤◌, List, [], ◌∷◌, ◌++◌, length, map, refl, sym, ap, ◌∙◌, arith}
use Rattle.std.specs.List.{flat_map, zip}
use Rattle.std.specs.List.Sorted.{IsPermutation}
use Rattle.std.proofs.lemmas.List.{length-append, length-replicate}
use Rattle.std.proofs.lemmas.List.Concat.{length-flat_map}
use Rattle.std.proofs.lemmas.List.Sorted.{sum_by-IsPermutation}
use Rattle.aes_cbc.specs.Cbc.{encrypted}
use Rattle.aes_cbc.proofs.CbcLemmas.{length-encrypted}
use Rattle.md5.specs.Md5.{md5}
use Rattle.md5.proofs.StandardFacts.{length-md5}
use Rattle.keyring_text.specs.Fields.{number}
use Rattle.keyring_file.specs.Canonical.{area_text, checked, clear_text, clear_item_text, front_text, item_text, list_text, padded, padding, zeros}
use Rattle.keyring_file.specs.declared.area.FullItem.{FullItem}
use Rattle.keyring_file.specs.declared.clear.ClearItem.{ClearItem}
use Rattle.keyring_seal.specs.declared.content.Content.{Content}
use Rattle.keyring_seal.specs.Arranged.{Row, row_number, rows, hashed_row, arranged, IsSealable}
use Rattle.keyring_seal.specs.Order.{by_number}
use Rattle.keyring_seal.specs.Room.{row_text, items_measure, measure}
use Rattle.keyring_seal.specs.Whole.{most_bytes, sealed}
use Rattle.keyring_seal.proofs.OrderLemmas.{by_number-permutation}
use Rattle.keyring_seal.proofs.RoomLemmas.{length_number, length_list_text, flat_map-map}

pub map_number-zip : (clear : List ClearItem) (items : List FullItem) → length items ≡ length clear → map row_number (zip clear items) ≡ map (λ (item : ClearItem). item.id.0) clear
map_number-zip [] items e = refl
map_number-zip (x ∷ clear) [] e = absurd (omega arith)
map_number-zip (x ∷ clear) (y ∷ items) e = ap (λ (t : List ℕ). x.id.0 ∷ t) (map_number-zip clear items (omega arith))

flat_map-zip : (text : FullItem → List ℕ) (clear : List ClearItem) (items : List FullItem) → length items ≡ length clear → flat_map (λ (row : Row). text row.1) (zip clear items) ≡ flat_map text items
flat_map-zip text [] [] e = refl
flat_map-zip text [] (y ∷ items) e = absurd (omega arith)
flat_map-zip text (x ∷ clear) [] e = absurd (omega arith)
flat_map-zip text (x ∷ clear) (y ∷ items) e = ap (λ (t : List ℕ). text y ++ t) (flat_map-zip text clear items (omega arith))

-- the bytes of elements in another order
length_moved : {X : Type 0} (text : X → List ℕ) (xs ys : List X) → IsPermutation xs ys → length (flat_map text ys) ≡ length (flat_map text xs)
length_moved text xs ys moved =
    length-flat_map text ys ∙ sum_by-IsPermutation (λ x. length (text x)) xs ys moved ∙ sym (length-flat_map text xs)

module _ (content : Content) (can : IsSealable content) where
  pub arranged-permutation : IsPermutation (rows content) (by_number row_number (rows content))
  arranged-permutation = by_number-permutation row_number (rows content) (rw (map_number-zip content.clear.items content.items can.counted) can.distinct)

  clear_items_long : length (flat_map (clear_item_text content.clear.minor) (arranged content).clear.items) ≡ length (flat_map (row_text content.clear.minor) (rows content))
  clear_items_long =
      let ordered = by_number row_number (rows content) in
      ap (λ (l : List ℕ). length l) (flat_map-map (clear_item_text content.clear.minor) (λ (row : Row). row.0) (map hashed_row ordered) ∙ flat_map-map (λ (row : Row). clear_item_text content.clear.minor row.0) hashed_row ordered)
      ∙ length_moved (row_text content.clear.minor) (rows content) ordered arranged-permutation

  pub items_long : length (flat_map item_text (arranged content).items) ≡ items_measure content
  items_long =
      let ordered = by_number row_number (rows content) in
      ap (λ (l : List ℕ). length l) (flat_map-map item_text (λ (row : Row). row.1) (map hashed_row ordered) ∙ flat_map-map (λ (row : Row). item_text row.1) hashed_row ordered)
      ∙ length_moved (λ (row : Row). item_text row.1) (rows content) ordered arranged-permutation
      ∙ ap (λ (l : List ℕ). length l) (flat_map-zip item_text content.clear.items content.items can.counted)

length_zeros : (n : ℕ) → length (zeros n) ≡ n
length_zeros n = length-replicate n 0

-- a text with its padding and its check
length_checked : (text : List ℕ) → length (checked (padded text)) ≡ 16 + (length text + padding (length text))
length_checked text =
    let whole = length-append (md5 (padded text)) (padded text) in
    let check = length-md5 (padded text) in
    let body = length-append text (zeros (padding (length text))) in
    let last = length_zeros (padding (length text)) in
    omega (arith, whole, check, body, last)

pub blocks : (text : List ℕ) → length (checked (padded text)) % 16 ≡ 0
blocks text = let long = length_checked text in omega (arith, long)

pub length_area_text : (items : List FullItem) → length (area_text items) ≡ 16 + (length (flat_map item_text items) + padding (length (flat_map item_text items)))
length_area_text items = length_checked (flat_map item_text items)

pub whole_blocks : (items : List FullItem) → length (area_text items) % 16 ≡ 0
whole_blocks items = blocks (flat_map item_text items)

module _ (content : Content) (key vector : List ℕ) (can : IsSealable content) where
  -- the measure of a content is the length of its file
  pub length-sealed : length (sealed content key vector) ≡ measure content
  unfolding sealed
  length-sealed =
      let made = arranged content in
      let area = area_text made.items in
      let whole = length-append (clear_text made.clear (length area)) (encrypted key vector area) in
      let same = length-encrypted key vector area (whole_blocks made.items) in
      let area_long = length_area_text made.items in
      let items = items_long content can in
      let behind = length-append (front_text made.clear) (list_text (clear_item_text made.clear.minor) made.clear.items ++ number (length area)) in
      let listed = length-append (list_text (clear_item_text made.clear.minor) made.clear.items) (number (length area)) in
      let list = length_list_text (clear_item_text made.clear.minor) made.clear.items in
      let told = clear_items_long content can in
      let last = length_number (length area) in
      let padded = ap padding items in
      omega (arith, whole, same, area_long, items, behind, listed, list, told, last, padded)

-- a file that was measured to be small enough isn't too large
pub never_over : (content : Content) (key vector : List ℕ) → IsSealable content → measure content ≤ most_bytes → most_bytes < length (sealed content key vector) → ⊥
never_over content key vector can within over = let long = length-sealed content key vector can in omega (arith, within, over, long)
