-- The sums over the collections that are listed.
use Rattle.std.proofs.Common.{◌≡◌, ℕ, ◌+◌, List, [], ◌∷◌, ◌++◌, length, refl, sym, ◌∙◌, ap, subst, arith, Result, Ok, Err, OnOk, Some}
use Rattle.keyring_file.specs.Clear.{ClearPart}
use Rattle.keyring_file.specs.ClearText.{ClearText, HasClear}
use Rattle.keyring_file.specs.declared.fault.ClearFault.{ClearFault}
use Rattle.replace_slot.specs.Cell.{CellState, Known}
use Rattle.folder_store.specs.declared.limits.Limits.{Limits}
use Rattle.folder_store.specs.Opened.{RingRow, items_in, bytes_in, Fits, lists}
use Rattle.folder_store.specs.Walk.{OpeningState, plain}
use Rattle.folder_store.specs.Ring.{RingState, row_of, rows_of}

pub items_push : (rings : List RingRow) (ring : RingRow) → items_in (rings ++ ring ∷ []) ≡ items_in rings + length ring.clear.items
items_push [] ring = omega arith
items_push (first ∷ rings) ring = let more = items_push rings ring in omega (arith, more)

pub bytes_push : (rings : List RingRow) (ring : RingRow) → bytes_in (rings ++ ring ∷ []) ≡ bytes_in rings + length ring.image
bytes_push [] ring = omega arith
bytes_push (first ∷ rings) ring = let more = bytes_push rings ring in omega (arith, more)

pub rows_push : {S : Type 0} (rings : List (RingState S)) (ring : RingState S) → rows_of (rings ++ ring ∷ []) ≡ rows_of rings ++ row_of ring ∷ []
rows_push [] ring = refl
rows_push (first ∷ rings) ring = ap (λ l. row_of first ∷ l) (rows_push rings ring)

pub items_rows : {S : Type 0} (rings : List (RingState S)) (ring : RingState S) → items_in (rows_of (rings ++ ring ∷ [])) ≡ items_in (rows_of rings) + length ring.clear.items
items_rows rings ring = ap items_in (rows_push rings ring) ∙ items_push (rows_of rings) (row_of ring)

pub bytes_rows : {S : Type 0} (rings : List (RingState S)) (ring : RingState S) → bytes_in (rows_of (rings ++ ring ∷ [])) ≡ bytes_in (rows_of rings) + length (row_of ring).image
bytes_rows rings ring = ap bytes_in (rows_push rings ring) ∙ bytes_push (rows_of rings) (row_of ring)

-- two facts about one result, together
pub both : {T E P Q R : Type 0} (r : Result T E) → (P → Q → R) → OnOk r P → OnOk r Q → OnOk r R
both (Ok x) joins p q = joins p q
both (Err e) joins p q = tt

-- a row of these parts
abbrev row_with : List ℕ → ClearPart → List ℕ → RingRow
row_with stem clear image = record { stem = stem; clear = clear; image = image }

-- a collection of a known file, whose image has these bytes, without its slot
pub row_known : {S : Type 0} (ring : RingState S) (cell : CellState S) (slot : S) (stem image bytes : List ℕ) (clear : ClearPart) → ring ≡ record { stem = stem; cell = cell; clear = clear }
    → cell ≡ record { slot = slot; file = Known (Some image) } → image ≡ bytes → row_of ring ≡ record { stem = stem; clear = clear; image = bytes }
row_known {S = S} ring cell slot stem image bytes clear is known same =
    ap row_of is ∙ ap (λ (c : CellState S). row_of (record { stem = stem; cell = c; clear = clear })) known ∙ ap (row_with stem clear) same

-- one more collection is listed
pub plain_lists : {S : Type 0} (old new : OpeningState S) (ring : RingState S) (stem image : List ℕ) (clear : ClearPart) → new.rings ≡ old.rings ++ ring ∷ []
    → new.used ≡ old.used ++ stem ∷ [] → row_of ring ≡ record { stem = stem; clear = clear; image = image } → plain new ≡ lists stem clear image (plain old)
plain_lists old new ring stem image clear rings used row = λ i. record {
  rings = (ap rows_of rings ∙ rows_push old.rings ring ∙ ap (λ r. rows_of old.rings ++ r ∷ []) row) i;
  used = used i;
}

-- the clear part that was read, or the given one if none was
abbrev clear_of : Result (ClearPart × List ℕ) ClearFault → ClearPart → ClearPart
clear_of (Ok x) instead = x.0
clear_of (Err e) instead = instead

pub one_clear : (read : Result (ClearPart × List ℕ) ClearFault) (x y : ClearPart × List ℕ) → read ≡ Ok x → read ≡ Ok y → x.0 ≡ y.0
one_clear read x y one other = ap (λ (r : Result (ClearPart × List ℕ) ClearFault). clear_of r x.0) (sym one ∙ other)

pub no_both : (x : ClearPart × List ℕ) (f : ClearFault) → Ok x ≡ Err f → ⊥
no_both x f same = let never : ⊥ = cc in never

-- a file that doesn't fit with its clear part fits with none, as it has only one
pub left_out : (limits : Limits) (rows : List RingRow) (image : List ℕ) (clear : ClearPart) → ((other : ClearPart) (area : List ℕ) → ClearText image other area → other ≡ clear)
    → ¬ (Fits limits rows clear image) → (other : ClearPart) → HasClear image other → ¬ (Fits limits rows other image)
left_out limits rows image clear alone off other (area, is) fits = off (subst (λ k. Fits limits rows k image) (alone other area is) fits)
