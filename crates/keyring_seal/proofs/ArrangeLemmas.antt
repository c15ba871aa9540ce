-- Items that are put in order, each as both parts have it.
use Rattle.std.proofs.Common.{◌≡◌, ℕ, ◌+◌, ◌<◌, List, [], ◌∷◌, length, get_or, map, drop, refl, sym, ap, ◌∙◌, arith}
use denote.Ref.{Bor}
use Rattle.std.specs.BTreeMap.{insert_entry}
use Rattle.std.specs.List.{All, AllByRecursion, zip}
use Rattle.std.specs.Map.{values_of}
use Rattle.std.specs.Ordering.{nat_cmp}
use Rattle.std.proofs.lemmas.List.{drop_more}
use Rattle.std.proofs.lemmas.List.Elements.{All-from_recursion, recursion_from_All}
use Rattle.std.proofs.lemmas.Map.Views.{All-values-insert_entry}
use Rattle.keyring_file.specs.Clear.{IsOfVersion, IsPlain}
use Rattle.keyring_file.specs.declared.clear.ClearItem.{ClearItem}
use Rattle.keyring_file.specs.declared.area.FullItem.{FullItem}
use Rattle.keyring_seal.specs.Order.{entered, by_number}
use Rattle.keyring_seal.specs.Arranged.{Row, row_number, hashed_row}

-- a borrowed row
abbrev pub Lent : Type 0
Lent = Bor ClearItem × Bor FullItem

-- what was borrowed
abbrev pub see : Lent → Row
see row = (row.0.now, row.1.now)

module _ {A B : Type 0} (number : A × B → ℕ) where
  -- the next row is inserted at its position
  pub enter_next : (es : List (ℕ × (A × B))) (xs : List A) (ys : List B) (i : ℕ) (x : A) (y : B) → i < length xs → length ys ≡ length xs → x ≡ get_or xs i x → y ≡ get_or ys i y
      → entered number es (zip (drop i xs) (drop i ys)) ≡ entered number (insert_entry nat_cmp es (number (x, y)) (x, y)) (zip (drop (i + 1) xs) (drop (i + 1) ys))
  enter_next es xs ys i x y lt same ex ey =
      let one : drop i xs ≡ x ∷ drop (i + 1) xs = drop_more xs i x lt ∙ ap (λ h. h ∷ drop (i + 1) xs) (sym ex) in
      let other : drop i ys ≡ y ∷ drop (i + 1) ys = drop_more ys i y (omega arith) ∙ ap (λ h. h ∷ drop (i + 1) ys) (sym ey) in
      λ j. entered number es (zip (one j) (other j))

pub map-map : {X Y Z : Type 0} (f : Y → Z) (g : X → Y) (xs : List X) → map f (map g xs) ≡ map (λ x. f (g x)) xs
map-map f g [] = refl
map-map f g (x ∷ xs) = ap (λ t. f (g x) ∷ t) (map-map f g xs)

-- what is computed from rows seen through a view is computed from the rows
pub told : {S Y Z : Type 0} (see : S → Y) (f : Y → Z) (seen : List S) (rows : List Y) → map see seen ≡ rows → map (λ s. f (see s)) seen ≡ map f rows
told see f seen rows e = sym (map-map f see seen) ∙ ap (λ r. map f r) e

pub clear_items_of : (rows : List Row) → map (λ row. (hashed_row row).0) rows ≡ map (λ row. row.0) (map hashed_row rows)
clear_items_of rows = sym (map-map (λ (row : Row). row.0) hashed_row rows)

pub items_of : (rows : List Row) → map (λ row. row.1) rows ≡ map (λ row. row.1) (map hashed_row rows)
items_of rows = sym (map-map (λ (row : Row). row.1) hashed_row rows)

-- ---- what is true of all rows is true of them in any order

all_entered : {X : Type 0} (number : X → ℕ) (P : X → Type 0) (es : List (ℕ × X)) (rows : List X) → All P (values_of es) → AllByRecursion P rows → All P (values_of (entered number es rows))
all_entered number P es [] standing all = standing
all_entered number P es (row ∷ more) standing all = all_entered number P (insert_entry nat_cmp es (number row) row) more (All-values-insert_entry nat_cmp (number row) row P es standing all.0) all.1

pub all_by_number : {X : Type 0} (number : X → ℕ) (P : X → Type 0) (rows : List X) → AllByRecursion P rows → AllByRecursion P (by_number number rows)
unfolding by_number
all_by_number number P rows all = recursion_from_All P (values_of (entered number [] rows)) (all_entered number P [] rows (All-from_recursion P [] tt) all)

zip_all : {A B : Type 0} (P : A → Type 0) (xs : List A) (ys : List B) → AllByRecursion P xs → AllByRecursion (λ (r : A × B). P r.0) (zip xs ys)
zip_all P [] ys all = tt
zip_all P (x ∷ xs) [] all = tt
zip_all P (x ∷ xs) (y ∷ ys) all = (all.0, zip_all P xs ys all.1)

plain_rows : (rows : List Row) → AllByRecursion (λ (r : Row). IsPlain r.0) rows → AllByRecursion IsPlain (map (λ (row : Row). row.0) (map hashed_row rows))
plain_rows [] all = tt
plain_rows (row ∷ rows) all = (all.0, plain_rows rows all.1)

-- the items in order are of the same version
pub same_version : (minor : ℕ) (clear : List ClearItem) (items : List FullItem) → IsOfVersion minor clear → IsOfVersion minor (map (λ (row : Row). row.0) (map hashed_row (by_number row_number (zip clear items))))
same_version minor clear items old = record {
  known = old.known;
  plain = λ e. plain_rows (by_number row_number (zip clear items)) (all_by_number row_number (λ (r : Row). IsPlain r.0) (zip clear items) (zip_all IsPlain clear items (old.plain e)));
}
