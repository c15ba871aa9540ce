-- A binary search in a list of rising numbers finds the element with the number.
use Rattle.std.proofs.Common.{◌≡◌, ℕ, zero, suc, ◌≤◌, ◌<◌, Bool, true, false, cond, nat_eq, List, [], ◌∷◌, length, get_or, map, filter, Option, Some, None, refl, sym, ◌∙◌, ap, inl, inr, arith}
use Rattle.std.specs.declared.cmp.Ordering.{Ordering}
use Rattle.std.specs.declared.cmp.Ordering.TheVariants.{Less, Equal, Greater}
use Rattle.std.specs.Cmp.{nat_eq_equiv}
use Rattle.std.specs.List.{find, zip}
use Rattle.std.specs.Map.{keys_of, lookup}
use Rattle.std.specs.Option.{option_map}
use Rattle.std.specs.List.Sorted.{IsNonDecreasingBy, IsPartitionPoint, IsStrictlyIncreasing}
use Rattle.std.specs.Ordering.{nat_cmp, ordering_index, MatchOrdering}
use Rattle.std.proofs.lemmas.Bool.{cases_lt}
use Rattle.std.proofs.lemmas.Bool.Decides.{nat_tests}
use Rattle.std.proofs.lemmas.Cmp.{ranked}
use Rattle.attribute_match.specs.Match.{matches}
use Rattle.kr_base.specs.declared.attributes.AttrValue.{AttrValue}
use Rattle.keyring_file.specs.declared.clear.ClearItem.{ClearItem}
use Rattle.item_store.specs.Rows.{Row as StoreRow, Rows}
use Rattle.keyring_file.specs.Clear.{ClearPart}
use Rattle.keyring_seal.specs.Arranged.{Row, row_number}
use Rattle.keyring_seal.proofs.RisingLemmas.{IsRising, rising_by_place}
use Rattle.replace_slot.specs.Cell.{File, Known, Doubt}
use Rattle.collection_store.specs.CollectionReading.{content_at, found, item_at}
use Rattle.collection_store.specs.State.{IsOpenedFile, held_of, ids_of}

equal_at : (a b : ℕ) → nat_cmp a b ≡ Equal → a ≡ b
equal_at a b e = ranked a b Equal (sym e)

less_at : (a b : ℕ) → nat_cmp a b ≡ Less → a < b
less_at a b e = ranked a b Less (sym e)

greater_at : (a b : ℕ) → nat_cmp a b ≡ Greater → b < a
greater_at a b e = ranked a b Greater (sym e)

index_rises : (a b k : ℕ) → a ≤ b → (r s : Ordering) → MatchOrdering r (a < k) (a ≡ k) (k < a) → MatchOrdering s (b < k) (b ≡ k) (k < b) → ordering_index r ≤ ordering_index s
index_rises a b k le Less s p q = omega arith
index_rises a b k le Equal Less p q = absurd (omega (arith, le, p, q))
index_rises a b k le Equal Equal p q = omega arith
index_rises a b k le Equal Greater p q = omega arith
index_rises a b k le Greater Less p q = absurd (omega (arith, le, p, q))
index_rises a b k le Greater Equal p q = absurd (omega (arith, le, p, q))
index_rises a b k le Greater Greater p q = omega arith

apart : (a b : ℕ) → (a ≡ b → ⊥) → nat_eq a b ≡ false
apart a b never = grind (arith, nat_tests, never)

together : (a b : ℕ) → a ≡ b → nat_eq a b ≡ true
together a b e = grind (arith, nat_tests, e)

module _ {X : Type 0} (number : X → ℕ) (k : ℕ) where
  above : (x : X) (xs : List X) (i : ℕ) (d : X) → IsRising number (x ∷ xs) → i < length xs → number x < number (get_or xs i d)
  above x [] i d rising lt = absurd (omega (arith, lt))
  above x (y ∷ ys) zero d rising lt = rising.0
  above x (y ∷ ys) (suc i) d rising lt = omega (arith, rising.0, above y ys i d rising.1 (omega (arith, lt)))

  later : (x : X) (xs : List X) → IsRising number (x ∷ xs) → IsRising number xs
  later x [] rising = tt
  later x (y ∷ ys) rising = rising.1

  -- a search that finds one finds the first and only one
  pub find_at : (xs : List X) (i : ℕ) (d : X) → IsRising number xs → i < length xs → number (get_or xs i d) ≡ k → find (λ x. nat_eq (number x) k) xs ≡ Some (get_or xs i d)
  find_at [] i d rising lt e = absurd (omega (arith, lt))
  find_at (x ∷ xs) zero d rising lt e = rw (together (number x) k e) refl
  find_at (x ∷ xs) (suc i) d rising lt e =
      let up = above x xs i d rising (omega (arith, lt)) in
      rw (apart (number x) k (λ same. omega (arith, up, e, same))) (find_at xs i d (later x xs rising) (omega (arith, lt)) e)

  find_none : (xs : List X) → ((i : ℕ) (d : X) → i < length xs → number (get_or xs i d) ≡ k → ⊥) → find (λ x. nat_eq (number x) k) xs ≡ None
  find_none [] never = refl
  find_none (x ∷ xs) never = rw (apart (number x) k (never 0 x (omega arith))) (find_none xs (λ i d lt e. never (suc i) d (omega (arith, lt)) e))

  rises : (xs : List X) (i j : ℕ) (d : X) → IsRising number xs → i ≤ j → j < length xs → number (get_or xs i d) ≤ number (get_or xs j d)
  rises [] i j d rising le lt = absurd (omega (arith, lt))
  rises (x ∷ xs) zero zero d rising le lt = omega arith
  rises (x ∷ xs) zero (suc j) d rising le lt = omega (arith, above x xs j d rising (omega (arith, lt)))
  rises (x ∷ xs) (suc i) zero d rising le lt = absurd (omega (arith, le))
  rises (x ∷ xs) (suc i) (suc j) d rising le lt = rises xs i j d (later x xs rising) (omega (arith, le)) (omega (arith, lt))

  comparisons_rise : (xs : List X) → IsRising number xs → IsNonDecreasingBy (λ x. ordering_index (nat_cmp (number x) k)) xs
  comparisons_rise xs rising i j d le lt =
      index_rises (number (get_or xs i d)) (number (get_or xs j d)) k (rises xs i j d rising le lt) (nat_cmp (number (get_or xs i d)) k) (nat_cmp (number (get_or xs j d)) k)
      (ranked (number (get_or xs i d)) k _ refl) (ranked (number (get_or xs j d)) k _ refl)

  -- a search that finds none shows that there is none
  pub find_gap : (xs : List X) (i : ℕ) → IsRising number xs
      → (IsNonDecreasingBy (λ x. ordering_index (nat_cmp (number x) k)) xs → IsPartitionPoint (λ x. nat_cmp (number x) k ≡ Less) (λ x. nat_cmp (number x) k ≡ Greater) xs i)
      → find (λ x. nat_eq (number x) k) xs ≡ None
  find_gap xs i rising parted =
      let parts = parted (comparisons_rise xs rising) in
      find_none xs (λ j d lt e.
      elim (cases_lt j i) [
        | inl before ↦ omega (arith, less_at (number (get_or xs j d)) k (parts.0 j d (omega arith) before), e)
        | inr least ↦ omega (arith, greater_at (number (get_or xs j d)) k (parts.1 j d (omega (arith, least)) lt), e)
      ])

-- the content type of the item that is found
pub content_found : (lent items : List ClearItem) (k place : ℕ) (item : ClearItem) → lent ≡ items → IsStrictlyIncreasing (ids_of items) → place < length lent → nat_cmp (get_or lent place item).id.0 k ≡ Equal
    → Some (get_or lent place item).content ≡ content_at k items
content_found lent items k place item same up within equal =
    let number : ClearItem → ℕ = λ x. x.id.0 in
    let rising = rising_by_place number lent (rw same up) in
    let first : find (λ x. nat_eq (number x) k) lent ≡ Some (get_or lent place item) = find_at number k lent place item rising within (equal_at _ k equal) in
    rw (sym same, first) refl

-- if there is none
pub content_missing : (lent items : List ClearItem) (k place : ℕ) → lent ≡ items → IsStrictlyIncreasing (ids_of items)
    → (IsNonDecreasingBy (λ (x : ClearItem). ordering_index (nat_cmp x.id.0 k)) lent → IsPartitionPoint (λ (x : ClearItem). nat_cmp x.id.0 k ≡ Less) (λ (x : ClearItem). nat_cmp x.id.0 k ≡ Greater) lent place)
    → None ≡ content_at k items
content_missing lent items k place same up parted =
    let number : ClearItem → ℕ = λ x. x.id.0 in
    let rising = rising_by_place number lent (rw same up) in
    let first : find (λ x. nat_eq (number x) k) lent ≡ None = find_gap number k lent place rising parted in
    rw (sym same, first) refl

-- ---- the item with an id

same_test : (id a b : ℕ) → a ≡ b → nat_eq id b ≡ nat_eq a id
same_test id a b e = nat_eq_equiv.symm id b ∙ ap (λ n. nat_eq n id) (sym e)

by_id_test : (b : Bool) (c : ClearItem) (r : StoreRow) (one : Option StoreRow) (other : Option Row) → option_map (λ (x : StoreRow). x.item) one ≡ option_map (λ (x : Row). x.1) other
    → option_map (λ (x : StoreRow). x.item) (cond b (Some r) one) ≡ option_map (λ (x : Row). x.1) (cond b (Some (c, r.item)) other)
by_id_test true c r one other e = refl
by_id_test false c r one other e = e

item_found : (id : ℕ) (clear : List ClearItem) (items : Rows) → ids_of clear ≡ keys_of items
    → option_map (λ (r : StoreRow). r.item) (lookup (nat_eq id) items) ≡ option_map (λ (r : Row). r.1) (find (λ (r : Row). nat_eq (row_number r) id) (zip clear (map (λ (r : ℕ × StoreRow). r.1.item) items)))
item_found id [] [] e = refl
item_found id [] (r ∷ rs) e = absurd cc
item_found id (c ∷ cs) [] e = absurd cc
item_found id (c ∷ cs) (r ∷ rs) e =
    let head : c.id.0 ≡ r.0 = cc in
    let tail : ids_of cs ≡ keys_of rs = cc in
    rw (same_test id c.id.0 r.0 head) (by_id_test (nat_eq c.id.0 id) c r.1 _ _ (item_found id cs rs tail))

-- both forms of rows have the same item
pub item_held : (id : ℕ) (file : File) (told : ClearPart) (key vector : List ℕ) (items : Rows) (written : Option ClearPart) → IsOpenedFile file told (Some (key, vector, items, written))
    → option_map (λ (r : StoreRow). r.item) (lookup (nat_eq id) items) ≡ item_at id (held_of told (Some (key, vector, items, written)))
item_held id (Known None) told key vector items written opens = absurd opens
item_held id (Known (Some bytes)) told key vector items written opens = item_found id told.items items opens.ids
item_held id (Doubt old new) told key vector items written opens = absurd opens

-- ---- the items that match

by_match : (b : Bool) (c : ClearItem) (r : ℕ × StoreRow) (one : Rows) (other : List Row) → c.id.0 ≡ r.0 → map (λ (x : ℕ × StoreRow). x.0) one ≡ map row_number other
    → map (λ (x : ℕ × StoreRow). x.0) (cond b (r ∷ one) one) ≡ map row_number (cond b ((c, r.1.item) ∷ other) other)
by_match true c r one other head tail = λ i. sym head i ∷ tail i
by_match false c r one other head tail = tail

matched : (wanted : List (List ℕ × AttrValue)) (clear : List ClearItem) (items : Rows) → ids_of clear ≡ keys_of items
    → map (λ (r : ℕ × StoreRow). r.0) (filter (λ (r : ℕ × StoreRow). matches wanted r.1.item.attributes) items) ≡ map row_number (filter (λ (r : Row). matches wanted r.1.attributes) (zip clear (map (λ (r : ℕ × StoreRow). r.1.item) items)))
matched wanted [] [] e = refl
matched wanted [] (r ∷ rs) e = absurd cc
matched wanted (c ∷ cs) [] e = absurd cc
matched wanted (c ∷ cs) (r ∷ rs) e =
    let head : c.id.0 ≡ r.0 = cc in
    let tail : ids_of cs ≡ keys_of rs = cc in
    by_match (matches wanted r.1.item.attributes) c r _ _ head (matched wanted cs rs tail)

-- both forms of rows have the same matches
pub found_held : (wanted : List (List ℕ × AttrValue)) (file : File) (told clear : ClearPart) (key vector : List ℕ) (items : Rows) (written : Option ClearPart) → IsOpenedFile file told (Some (key, vector, items, written))
    → map (λ (r : ℕ × StoreRow). r.0) (filter (λ (r : ℕ × StoreRow). matches wanted r.1.item.attributes) items) ≡ found wanted clear (held_of told (Some (key, vector, items, written)))
found_held wanted (Known None) told clear key vector items written opens = absurd opens
found_held wanted (Known (Some bytes)) told clear key vector items written opens = matched wanted told.items items opens.ids
found_held wanted (Doubt old new) told clear key vector items written opens = absurd opens
