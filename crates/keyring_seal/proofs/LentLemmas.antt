-- Borrowed rows in the order of rising numbers, as the content that they form.
use Rattle.std.proofs.Common.{◌≡◌, ℕ, ◌+◌, ◌≤◌, ◌<◌, List, [], ◌∷◌, length, map, nat_eq, false, Option, refl, sym, ap, subst, ◌∙◌, arith}
use Rattle.std.specs.List.{flat_map, AllByRecursion, IsDistinct}
use Rattle.std.specs.List.Sorted.{IsStrictlyIncreasing}
use Rattle.std.proofs.lemmas.Bool.Decides.{nat_tests}
use Rattle.std.proofs.lemmas.Map.Keys.{IsDistinct-from_apart, below_from_sorted, sorted_from_strictly_increasing}
use Rattle.attribute_hash.specs.Hash.{hashes}
use Rattle.keyring_file.specs.Canonical.{front_text, item_text}
use Rattle.keyring_file.specs.Clear.{ClearPart, IsOfVersion}
use Rattle.keyring_file.specs.ClearText.{most_iterations}
use Rattle.keyring_file.specs.Short.{IsShortClearItem}
use Rattle.keyring_file.specs.Known.{IsKnownClear, IsKnownClearItem, IsKnownItem}
use Rattle.keyring_file.specs.declared.clear.ClearItem.{ClearItem}
use Rattle.keyring_seal.specs.Arranged.{Row, IsKnown, IsKnownLent, arranged, hashed_row, IsSealable, of_lent, of_rows, row_number, rows}
use Rattle.keyring_seal.specs.Order.{by_number}
use Rattle.keyring_seal.specs.Room.{AreSizes, AreSizesOf, items_measure, row_text}
use Rattle.keyring_seal.proofs.ArrangeLemmas.{Lent, map-map, see}
use Rattle.keyring_seal.proofs.ArrangedLemmas.{rows_again}
use Rattle.keyring_seal.proofs.RisingLemmas.{rising_by_number, rising_by_place}
use Rattle.keyring_seal.proofs.RoomLemmas.{flat_map-map}
use Rattle.keyring_seal.proofs.RowLemmas.{length_of_map}

apart : (x y : ℕ) → x < y → nat_eq x y ≡ false
apart x y lt = grind (arith, nat_tests)

-- numbers that rise occur once
distinct_by_rising : (xs : List ℕ) → IsStrictlyIncreasing xs → IsDistinct nat_eq xs
distinct_by_rising xs up = IsDistinct-from_apart nat_eq xs (λ i j d lt within. apart _ _ (below_from_sorted xs i j d (sorted_from_strictly_increasing xs up) lt within))

known_first : (lent : List Lent) → AllByRecursion IsKnownLent lent → AllByRecursion IsKnownClearItem (map (λ (row : Row). row.0) (map see lent))
known_first [] known = tt
known_first (row ∷ lent) known = (known.0.clear, known_first lent known.1)

known_second : (lent : List Lent) → AllByRecursion IsKnownLent lent → AllByRecursion IsKnownItem (map (λ (row : Row). row.1) (map see lent))
known_second [] known = tt
known_second (row ∷ lent) known = (known.0.item, known_second lent known.1)

-- rows whose hashes are those of their attributes
abbrev pub AreKept : List Lent → Type 0
AreKept lent = AllByRecursion (λ (row : Lent). row.0.now.hashed ≡ hashes row.1.now.attributes) lent

kept_item : (row : Lent) → row.0.now.hashed ≡ hashes row.1.now.attributes → row.0.now ≡ (hashed_row (row.0.now, row.1.now)).0
kept_item row kept = λ j. record row.0.now { hashed = kept j }

pub kept_told : (lent : List Lent) → AreKept lent → map (λ (row : Lent). row.0.now) lent ≡ map (λ (row : Lent). (hashed_row (row.0.now, row.1.now)).0) lent
kept_told [] kept = refl
kept_told (row ∷ lent) kept = λ j. kept_item row kept.0 j ∷ kept_told lent kept.1 j

kept_row : (row : Lent) → row.0.now.hashed ≡ hashes row.1.now.attributes → hashed_row (see row) ≡ see row
kept_row row kept = λ j. (record row.0.now { hashed = sym kept j }, row.1.now)

kept_rows : (lent : List Lent) → AreKept lent → map hashed_row (map see lent) ≡ map see lent
kept_rows [] kept = refl
kept_rows (row ∷ lent) kept = λ j. kept_row row kept.0 j ∷ kept_rows lent kept.1 j

pub kept_short : (lent : List Lent) → AreKept lent → AllByRecursion (λ (row : Lent). IsShortClearItem (hashed_row (row.0.now, row.1.now)).0) lent → AllByRecursion (λ (row : Lent). IsShortClearItem row.0.now) lent
kept_short [] kept short = tt
kept_short (row ∷ lent) kept short = (subst IsShortClearItem (sym (kept_item row kept.0)) short.0, kept_short lent kept.1 short.1)

module _ (front : ClearPart) (lent : List Lent) where
  pub sizes_are : (room : ℕ) (found : Option (ℕ × ℕ)) → AreSizesOf ((length (front_text front) + 8) + length (flat_map (λ (row : Lent). row_text front.minor (row.0.now, row.1.now)) lent)) (length (flat_map (λ (row : Lent). item_text row.1.now) lent)) room found
      → AreSizes (of_lent front lent) room found
  sizes_are room found told =
      let first : flat_map (λ (row : Lent). row_text front.minor (row.0.now, row.1.now)) lent ≡ flat_map (row_text front.minor) (rows (of_lent front lent)) =
      sym (flat_map-map (row_text front.minor) see lent) ∙ ap (flat_map (row_text front.minor)) (sym (rows_again (map see lent))) in
      let second : flat_map (λ (row : Lent). item_text row.1.now) lent ≡ flat_map item_text (of_lent front lent).items =
      sym (flat_map-map (λ (row : Row). item_text row.1) see lent) ∙ sym (flat_map-map item_text (λ (row : Row). row.1) (map see lent)) in
      subst (λ (text : List ℕ). AreSizesOf ((length (front_text front) + 8) + length text) (items_measure (of_lent front lent)) room found) first
      (subst (λ (text : List ℕ). AreSizesOf ((length (front_text front) + 8) + length (flat_map (λ (row : Lent). row_text front.minor (row.0.now, row.1.now)) lent)) (length text) room found) second told)

  module _ (up : IsStrictlyIncreasing (map (λ (row : Lent). row.0.now.id.0) lent)) where
    rising : IsStrictlyIncreasing (map row_number (map see lent))
    rising = subst IsStrictlyIncreasing (sym (map-map row_number see lent)) up

    pub lent_seen : map see lent ≡ by_number row_number (rows (of_lent front lent))
    lent_seen = sym (ap (by_number row_number) (rows_again (map see lent)) ∙ rising_by_number row_number (map see lent) (rising_by_place row_number (map see lent) rising))

    -- the content that the rows form is arranged already
    pub lent_arranged : AreKept lent → arranged (of_lent front lent) ≡ of_lent front lent
    lent_arranged kept = ap (of_rows front) (ap (map hashed_row) (sym lent_seen) ∙ kept_rows lent kept)

    pub lent_sealable : (few : front.iterations ≤ most_iterations) → IsSealable (of_lent front lent)
    lent_sealable few = record {
      counted = length_of_map (λ (row : Row). row.1) (map see lent) ∙ sym (length_of_map (λ (row : Row). row.0) (map see lent));
      distinct = subst (λ (numbers : List ℕ). IsDistinct nat_eq numbers) (sym (map-map (λ (item : ClearItem). item.id.0) (λ (row : Row). row.0) (map see lent))) (distinct_by_rising (map row_number (map see lent)) rising);
      iterations = few;
    }

  pub lent_known : IsKnownClear front → IsOfVersion front.minor (map (λ (row : Lent). row.0.now) lent) → AllByRecursion IsKnownLent lent → IsKnown (of_lent front lent)
  lent_known known version all = record {
    clear = record {
      name = known.name;
      created = known.created;
      modified = known.modified;
      flags = known.flags;
      timeout = known.timeout;
      salt = known.salt;
      version = subst (λ (items : List ClearItem). IsOfVersion front.minor items) (sym (map-map (λ (row : Row). row.0) see lent)) version;
    };
    clear_items = known_first lent all;
    items = known_second lent all;
  }
