-- A sealed file is a file of the content as it is arranged.
use Rattle.std.proofs.Common.{◌≡◌, ℕ, ◌≤◌, List, [], ◌∷◌, ◌++◌, length, map, nat_eq, refl, sym, ap, subst, arith}
use Rattle.std.specs.Cmp.{nat_eq_equiv}
use Rattle.std.specs.List.{AllByRecursion, IsDistinct, zip}
use Rattle.std.proofs.lemmas.List.{length-append}
use Rattle.std.proofs.lemmas.List.Sorted.{IsPermutation-map}
use Rattle.std.proofs.lemmas.Map.Keys.{IsDistinct-IsPermutation}
use Rattle.aes_cbc.specs.Cbc.{encrypted, decrypted}
use Rattle.aes_cbc.proofs.CbcLemmas.{decrypted-encrypted, length-encrypted}
use Rattle.keyring_text.specs.Fields.{IsBytes}
use Rattle.keyring_file.specs.AreaText.{AreaText}
use Rattle.keyring_file.specs.Canonical.{area_text, clear_text}
use Rattle.keyring_file.specs.ClearText.{ClearText, IsAreaLength}
use Rattle.keyring_file.specs.Known.{IsKnownClear, IsKnownClearItem, IsKnownItem}
use Rattle.keyring_file.specs.Short.{IsShortClear, IsShortItem}
use Rattle.keyring_file.specs.Sound.{IsSoundClear, IsSoundClearItem}
use Rattle.keyring_file.specs.declared.area.FullItem.{FullItem}
use Rattle.keyring_file.specs.declared.clear.ClearItem.{ClearItem}
use Rattle.keyring_file.proofs.ByteLemmas.{area-bytes}
use Rattle.keyring_file.proofs.CanonicalLaws.{area-written, clear-written}
use Rattle.keyring_seal.specs.declared.content.Content.{Content}
use Rattle.keyring_seal.specs.Arranged.{Row, row_number, rows, hashed_row, arranged, IsKnown, IsSealable}
use Rattle.keyring_seal.specs.Order.{by_number}
use Rattle.keyring_seal.specs.Whole.{IsFileOf, most_bytes, sealed}
use Rattle.keyring_seal.proofs.ArrangeLemmas.{all_by_number, same_version}
use Rattle.keyring_seal.proofs.HashLemmas.{known_hashes, names_distinct, names_hashed}
use Rattle.keyring_seal.proofs.ShortLemmas.{short_clear, short_items}
use Rattle.keyring_seal.proofs.SealLemmas.{arranged-permutation, length_area_text, map_number-zip, whole_blocks}

-- what is known of both parts of an item
record IsKnownRow (row : Row) : Type 0 where
  clear : IsKnownClearItem row.0
  item : IsKnownItem row.1

known_rows : (clear : List ClearItem) (items : List FullItem) → AllByRecursion IsKnownClearItem clear → AllByRecursion IsKnownItem items → AllByRecursion IsKnownRow (zip clear items)
known_rows [] items c i = tt
known_rows (x ∷ clear) [] c i = tt
known_rows (x ∷ clear) (y ∷ items) c i = (record { clear = c.0; item = i.0 }, known_rows clear items c.1 i.1)

sound_rows : (these : List Row) → AllByRecursion IsKnownRow these → AllByRecursion IsSoundClearItem (map (λ (row : Row). row.0) (map hashed_row these))
sound_rows [] known = tt
sound_rows (row ∷ these) known = (
  record {
    known = record { id = known.0.clear.id; kind = known.0.clear.kind; content = known.0.clear.content };
    hashed = known_hashes row.1.attributes known.0.item.attributes;
    distinct = rw (names_hashed row.1.attributes) (names_distinct row.1.attributes known.0.item.ordered);
  },
  sound_rows these known.1,
)

known_items : (these : List Row) → AllByRecursion IsKnownRow these → AllByRecursion IsKnownItem (map (λ (row : Row). row.1) (map hashed_row these))
known_items [] known = tt
known_items (row ∷ these) known = (known.0.item, known_items these known.1)

numbers_of : (these : List Row) → map (λ (item : ClearItem). item.id.0) (map (λ (row : Row). row.0) (map hashed_row these)) ≡ map row_number these
numbers_of [] = refl
numbers_of (row ∷ these) = ap (λ (t : List ℕ). row_number row ∷ t) (numbers_of these)

-- both parts have as many items
both_long : (these : List Row) → length (map (λ (row : Row). row.1) (map hashed_row these)) ≡ length (map (λ (row : Row). row.0) (map hashed_row these))
both_long [] = refl
both_long (row ∷ these) = let rest = both_long these in omega (arith, rest)

pub arranged_counted : (content : Content) → length (arranged content).items ≡ length (arranged content).clear.items
arranged_counted content = both_long (by_number row_number (rows content))

module _ (content : Content) (can : IsSealable content) (known : IsKnown content) where
  all_known : AllByRecursion IsKnownRow (by_number row_number (rows content))
  all_known = all_by_number row_number IsKnownRow (rows content) (known_rows content.clear.items content.items known.clear_items known.items)

  still_distinct : IsDistinct nat_eq (map (λ (item : ClearItem). item.id.0) (arranged content).clear.items)
  still_distinct =
      let before : IsDistinct nat_eq (map row_number (rows content)) = rw (map_number-zip content.clear.items content.items can.counted) can.distinct in
      let moved = IsPermutation-map row_number (rows content) (by_number row_number (rows content)) (arranged-permutation content can) in
      rw (numbers_of (by_number row_number (rows content))) (IsDistinct-IsPermutation nat_eq nat_eq_equiv.symm (map row_number (rows content)) (map row_number (by_number row_number (rows content))) moved before)

  still_known : IsKnownClear (arranged content).clear
  still_known = record {
    name = known.clear.name;
    created = known.clear.created;
    modified = known.clear.modified;
    flags = known.clear.flags;
    timeout = known.clear.timeout;
    salt = known.clear.salt;
    version = same_version content.clear.minor content.clear.items content.items known.clear.version;
  }

  items_known : AllByRecursion IsKnownItem (arranged content).items
  items_known = known_items (by_number row_number (rows content)) all_known

  module _ (key vector : List ℕ) (small : length (sealed content key vector) ≤ most_bytes) where
    parts_small : (length (clear_text (arranged content).clear (length (area_text (arranged content).items))) ≤ most_bytes) × (length (area_text (arranged content).items) ≤ most_bytes)
    unfolding sealed
    parts_small =
        let area = area_text (arranged content).items in
        let text = clear_text (arranged content).clear (length area) in
        let sum = length-append text (encrypted key vector area) in
        let same = length-encrypted key vector area (whole_blocks (arranged content).items) in
        (omega (arith, small, sum), omega (arith, small, sum, same))

    pub arranged_short_clear : IsShortClear (arranged content).clear
    arranged_short_clear = short_clear (arranged content).clear (length (area_text (arranged content).items)) still_known.version.plain parts_small.0

    pub arranged_short_items : AllByRecursion IsShortItem (arranged content).items
    arranged_short_items = short_items (arranged content).items parts_small.1

    -- the clear part of a sealed file
    pub sealed_clear : ClearText (sealed content key vector) (arranged content).clear (encrypted key vector (area_text (arranged content).items))
    unfolding sealed
    sealed_clear =
        let area = area_text (arranged content).items in
        let hidden = encrypted key vector area in
        let blocks = whole_blocks (arranged content).items in
        let same : length hidden ≡ length area = length-encrypted key vector area blocks in
        let long = length_area_text (arranged content).items in
        let is_area : IsAreaLength (length area) = record { blocks = blocks; some = omega (arith, long) } in
        let sound : IsSoundClear (arranged content).clear = record { known = still_known; iterations = can.iterations; items = sound_rows (by_number row_number (rows content)) all_known; distinct = still_distinct } in
        let text = clear-written (arranged content).clear hidden sound arranged_short_clear (subst (λ (n : ℕ). IsAreaLength n) (sym same) is_area) (omega (arith, same, parts_small.1)) in
        subst (λ (n : ℕ). ClearText (clear_text (arranged content).clear n ++ hidden) (arranged content).clear hidden) same text

    -- it is a file of the content as it is arranged
    pub sealed_is_file : IsBytes vector → IsFileOf (sealed content key vector) key vector (arranged content)
    sealed_is_file bytes =
        let items = (arranged content).items in
        let text : AreaText (area_text items) items = area-written items items_known arranged_short_items in
        let back : decrypted key vector (encrypted key vector (area_text items)) ≡ area_text items =
        decrypted-encrypted key vector (area_text items) (whole_blocks items) (record { byte = bytes }) (record { byte = area-bytes items items_known }) in
        record { area = encrypted key vector (area_text items); clear = sealed_clear; items = rw back text; counted = arranged_counted content }
