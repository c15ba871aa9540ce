-- Two contents that differ in one value: their files have one clear part and one length.
use Rattle.std.proofs.Common.{◌≡◌, ℕ, ◌+◌, List, [], ◌∷◌, ◌++◌, length, map, refl, sym, ap, ◌∙◌, arith}
use Rattle.std.specs.List.{flat_map, zip}
use Rattle.std.proofs.lemmas.List.{length-append}
use Rattle.std.proofs.lemmas.List.Concat.{flat_map-append}
use Rattle.keyring_text.specs.Fields.{number, time, string, none_length}
use Rattle.keyring_file.specs.Canonical.{access_text, attribute_text, clear_item_text, front_text, item_text, list_text, padding, zeros}
use Rattle.keyring_file.specs.Clear.{ClearPart}
use Rattle.keyring_file.specs.declared.area.FullItem.{FullItem}
use Rattle.keyring_file.specs.declared.clear.ClearItem.{ClearItem}
use Rattle.keyring_seal.specs.declared.content.Content.{Content}
use Rattle.keyring_seal.specs.Arranged.{Row, row_number, rows, hashed_row, arranged, IsSealable, DiffersInOneValue}
use Rattle.keyring_seal.specs.Order.{by_number}
use Rattle.keyring_seal.specs.Room.{items_measure, measure}
use Rattle.keyring_seal.specs.Whole.{sealed}
use Rattle.keyring_seal.proofs.ArrangeLemmas.{clear_items_of}
use Rattle.keyring_seal.proofs.OrderLemmas.{map-by_number}
use Rattle.keyring_seal.proofs.RoomLemmas.{flat_map-map, length_number}
use Rattle.keyring_seal.proofs.SealLemmas.{length-sealed}

-- what the clear part says of an item
abbrev told : Row → ClearItem
told row = (hashed_row row).0

-- the same item with another value
abbrev revalued : FullItem → List ℕ → FullItem
revalued item value = record item { value = value }

same_told : (clear : List ClearItem) (before after : List FullItem) (item : FullItem) (value : List ℕ) → map told (zip clear (before ++ revalued item value ∷ after)) ≡ map told (zip clear (before ++ item ∷ after))
same_told [] before after item value = refl
same_told (x ∷ clear) [] after item value = refl
same_told (x ∷ clear) (y ∷ before) after item value = ap (λ (t : List ClearItem). told (x, y) ∷ t) (same_told clear before after item value)

-- an item except for its value
abbrev behind_value : FullItem → List ℕ
behind_value item =
    time item.created ++ (time item.modified ++ (number none_length ++ (zeros 16 ++ (list_text attribute_text item.attributes ++ list_text access_text item.access))))

length_item_text : (item : FullItem) → length (item_text item) ≡ length (string item.label) + (4 + length item.value + length (behind_value item))
length_item_text item =
    let whole = length-append (string item.label) (string item.value ++ behind_value item) in
    let rest = length-append (string item.value) (behind_value item) in
    let value = length-append (number (length item.value)) item.value in
    let count = length_number (length item.value) in
    omega (arith, whole, rest, value, count)

same_long : (before after : List FullItem) (item : FullItem) (value : List ℕ) → length value ≡ length item.value
    → length (flat_map item_text (before ++ revalued item value ∷ after)) ≡ length (flat_map item_text (before ++ item ∷ after))
same_long before after item value e =
    let one = ap (λ (l : List ℕ). length l) (flat_map-append item_text before (item ∷ after)) in
    let two = ap (λ (l : List ℕ). length l) (flat_map-append item_text before (revalued item value ∷ after)) in
    let sum_one = length-append (flat_map item_text before) (flat_map item_text (item ∷ after)) in
    let sum_two = length-append (flat_map item_text before) (flat_map item_text (revalued item value ∷ after)) in
    let rest_one = length-append (item_text item) (flat_map item_text after) in
    let rest_two = length-append (item_text (revalued item value)) (flat_map item_text after) in
    let item_one = length_item_text item in
    let item_two = length_item_text (revalued item value) in
    omega (arith, e, one, two, sum_one, sum_two, rest_one, rest_two, item_one, item_two)

module _ (one two : Content) (alike : DiffersInOneValue one two) where
  told_alike : map told (rows two) ≡ map told (rows one)
  told_alike =
      (λ i. map told (zip (alike.clear i).items (alike.second i)))
      ∙ same_told one.clear.items alike.before alike.after alike.item alike.value
      ∙ sym (λ i. map told (zip one.clear.items (alike.first i)))

  told_ordered : (content : Content) → (arranged content).clear.items ≡ by_number (λ (item : ClearItem). item.id.0) (map told (rows content))
  told_ordered content =
      sym (clear_items_of (by_number row_number (rows content))) ∙ map-by_number told row_number (λ (item : ClearItem). item.id.0) (λ row. refl) (rows content)

  -- their clear parts are the same
  pub same_clear : (arranged two).clear ≡ (arranged one).clear
  same_clear =
      let items : (arranged two).clear.items ≡ (arranged one).clear.items = told_ordered two ∙ ap (by_number (λ (item : ClearItem). item.id.0)) told_alike ∙ sym (told_ordered one) in
      λ i. record (alike.clear i) { items = items i }

  items_alike : items_measure two ≡ items_measure one
  items_alike =
      ap (λ (items : List FullItem). length (flat_map item_text items)) alike.second ∙ same_long alike.before alike.after alike.item alike.value alike.as_long
      ∙ sym (ap (λ (items : List FullItem). length (flat_map item_text items)) alike.first)

  -- so are the lengths of their files
  pub same_measure : measure two ≡ measure one
  same_measure =
      let front = ap (λ (clear : ClearPart). length (front_text clear)) alike.clear in
      let rows_two = ap (λ (l : List ℕ). length l) (flat_map-map (clear_item_text two.clear.minor) told (rows two)) in
      let rows_one = ap (λ (l : List ℕ). length l) (flat_map-map (clear_item_text one.clear.minor) told (rows one)) in
      let rows_alike : length (flat_map (clear_item_text two.clear.minor) (map told (rows two))) ≡ length (flat_map (clear_item_text one.clear.minor) (map told (rows one))) =
      λ i. length (flat_map (clear_item_text (alike.clear i).minor) (told_alike i)) in
      let padded = ap padding items_alike in
      omega (arith, front, rows_two, rows_one, rows_alike, items_alike, padded)

pub same_length : (one two : Content) (key vector : List ℕ) → IsSealable one → IsSealable two → DiffersInOneValue one two → length (sealed two key vector) ≡ length (sealed one key vector)
same_length one two key vector can_one can_two alike = length-sealed two key vector can_two ∙ same_measure one two alike ∙ sym (length-sealed one key vector can_one)
