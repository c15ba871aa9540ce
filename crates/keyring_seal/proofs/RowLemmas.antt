-- Borrowed items, and what is written for them.
use Rattle.std.proofs.Common.{◌≡◌, ℕ, suc, ◌++◌, List, [], ◌∷◌, length, map, Result, Ok, Err, refl, sym, ap, ◌∙◌, append_assoc}
use Rattle.std.specs.List.{flat_map, AllByRecursion}
use Rattle.std.specs.Result.{OnOk}
use Rattle.keyring_text.specs.Fields.{number}
use Rattle.keyring_file.specs.Canonical.{item_text, list_text}
use Rattle.keyring_file.specs.Short.{IsShortClearItem, IsShortItem}
use Rattle.keyring_file.specs.declared.clear.ClearItem.{ClearItem}
use Rattle.keyring_seal.specs.Arranged.{Row, hashed_row}
use Rattle.keyring_seal.proofs.ArrangeLemmas.{Lent, see, told, clear_items_of, items_of}
use Rattle.keyring_seal.proofs.RoomLemmas.{flat_map-map}

pub length_of_map : {X Y : Type 0} (g : X → Y) (xs : List X) → length (map g xs) ≡ length xs
length_of_map g [] = refl
length_of_map g (x ∷ xs) = ap (λ (n : ℕ). suc n) (length_of_map g xs)

-- what is true of everything that was made from the elements
pub all_of_map : {X Y : Type 0} (P : Y → Type 0) (g : X → Y) (xs : List X) → AllByRecursion P (map g xs) → AllByRecursion (λ x. P (g x)) xs
all_of_map P g [] all = tt
all_of_map P g (x ∷ xs) all = (all.0, all_of_map P g xs all.1)

-- a list of what is made from elements is written element by element
pub listed : {X Y : Type 0} (f : Y → List ℕ) (g : X → Y) (xs : List X) → number (length xs) ++ flat_map (λ x. f (g x)) xs ≡ list_text f (map g xs)
listed f g xs = λ j. number (sym (length_of_map g xs) j) ++ sym (flat_map-map f g xs) j

pub list_put : {T E X Y : Type 0} (r : Result T E) (f : Y → List ℕ) (g : X → Y) (xs : List X) (old one new : List ℕ) → one ≡ old ++ number (length xs) → OnOk r (new ≡ one ++ flat_map (λ x. f (g x)) xs) → OnOk r (new ≡ old ++ list_text f (map g xs))
list_put (Ok x) f g xs old one new p h =
    let count = number (length xs) in
    let each = flat_map (λ x. f (g x)) xs in
    h ∙ ap (λ w. w ++ each) p ∙ append_assoc old count each ∙ ap (λ w. old ++ w) (listed f g xs)
list_put (Err e) f g xs old one new p h = tt

-- ---- borrowed rows, seen as the rows by rising number

module _ (rows : List Lent) (ordered : List Row) (seen : map see rows ≡ ordered) where
  pub clear_told : map (λ row. (hashed_row (row.0.now, row.1.now)).0) rows ≡ map (λ (row : Row). row.0) (map hashed_row ordered)
  clear_told = told see (λ (row : Row). (hashed_row row).0) rows ordered seen ∙ clear_items_of ordered

  items_told : map (λ row. row.1.now) rows ≡ map (λ (row : Row). row.1) (map hashed_row ordered)
  items_told = told see (λ (row : Row). row.1) rows ordered seen ∙ items_of ordered

  -- the bytes of the items
  pub area_told : flat_map (λ row. item_text row.1.now) rows ≡ flat_map item_text (map (λ (row : Row). row.1) (map hashed_row ordered))
  area_told = sym (flat_map-map item_text (λ (row : Lent). row.1.now) rows) ∙ ap (flat_map item_text) items_told

  pub rows_short : AllByRecursion IsShortClearItem (map (λ (row : Row). row.0) (map hashed_row ordered)) → AllByRecursion (λ row. IsShortClearItem (hashed_row (row.0.now, row.1.now)).0) rows
  rows_short all = all_of_map IsShortClearItem (λ (row : Lent). (hashed_row (row.0.now, row.1.now)).0) rows (rw clear_told all)

  pub items_short : AllByRecursion IsShortItem (map (λ (row : Row). row.1) (map hashed_row ordered)) → AllByRecursion (λ row. IsShortItem row.1.now) rows
  items_short all = all_of_map IsShortItem (λ (row : Lent). row.1.now) rows (rw items_told all)

  pub as_many : length rows ≡ length (map (λ (row : Row). row.0) (map hashed_row ordered))
  as_many = sym (length_of_map (λ (row : Lent). (hashed_row (row.0.now, row.1.now)).0) rows) ∙ ap (λ (l : List ClearItem). length l) clear_told
