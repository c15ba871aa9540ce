-- Rows whose numbers rise are in order already.
use Rattle.std.proofs.Common.{◌≡◌, ℕ, zero, suc, ◌+◌, ◌≤◌, ◌<◌, List, [], ◌∷◌, ◌++◌, length, get_or, drop, map, refl, sym, ap, subst, ◌∙◌, append_assoc, arith}
use Rattle.std.specs.declared.cmp.Ordering.{Ordering}
use Rattle.std.specs.declared.cmp.Ordering.TheVariants.{Less, Equal, Greater}
use Rattle.std.specs.BTreeMap.{insert_entry}
use Rattle.std.specs.List.{AllByRecursion, zip}
use Rattle.std.specs.List.Sorted.{IsStrictlyIncreasing, IsStrictlySortedBy}
use Rattle.std.specs.Map.{values_of}
use Rattle.std.specs.Ordering.{nat_cmp, match_ordering, MatchOrdering}
use Rattle.std.proofs.lemmas.Cmp.{ranked}
use Rattle.std.proofs.lemmas.List.{append-nil, map-append, drop_more}
use Rattle.std.proofs.lemmas.Map.Keys.{sorted_from_strictly_increasing}
use Rattle.keyring_file.specs.declared.clear.ClearItem.{ClearItem}
use Rattle.keyring_file.specs.declared.area.FullItem.{FullItem}
use Rattle.keyring_seal.specs.Arranged.{row_number}
use Rattle.keyring_seal.specs.Order.{entered, by_number}
use Rattle.keyring_seal.proofs.ArrangeLemmas.{Lent, see}

-- each number is less than the next one, as a definition by recursion
abbrev pub IsRising : {X : Type 0} → (X → ℕ) → List X → Type 0
IsRising number [] = Unit {0}
IsRising number (x ∷ []) = Unit {0}
IsRising number (x ∷ y ∷ more) = (number x < number y) × IsRising number (y ∷ more)

less : (a b : ℕ) → nat_cmp a b ≡ Less → a < b
less a b e = ranked a b Less (sym e)

rising_by_order : {X : Type 0} (number : X → ℕ) (xs : List X) → IsStrictlySortedBy nat_cmp (map number xs) → IsRising number xs
unfolding IsStrictlySortedBy
rising_by_order number [] order = tt
rising_by_order number (x ∷ []) order = tt
rising_by_order number (x ∷ y ∷ more) order = (less (number x) (number y) order.0.0, rising_by_order number (y ∷ more) order.1)

pub rising_by_place : {X : Type 0} (number : X → ℕ) (xs : List X) → IsStrictlyIncreasing (map number xs) → IsRising number xs
rising_by_place number xs up = rising_by_order number xs (sorted_from_strictly_increasing (map number xs) up)

pub place_by_rising : {X : Type 0} (number : X → ℕ) (xs : List X) → IsRising number xs → IsStrictlyIncreasing (map number xs)
place_by_rising number [] rising k lt = absurd (omega (arith, lt))
place_by_rising number (x ∷ []) rising k lt = absurd (omega (arith, lt))
place_by_rising number (x ∷ y ∷ more) rising zero lt = rising.0
place_by_rising number (x ∷ y ∷ more) rising (suc k) lt = let e : suc k + 1 ≡ suc (k + 1) = omega arith in rw e (place_by_rising number (y ∷ more) rising.1 k (omega (arith, lt)))

-- ---- the test

-- a single number at the end
pub rising_end : {X : Type 0} (number : X → ℕ) (xs : List X) (i : ℕ) → length xs ≤ i + 1 → IsRising number (drop i xs)
rising_end number [] zero le = tt
rising_end number [] (suc i) le = tt
rising_end number (x ∷ []) zero le = tt
rising_end number (x ∷ y ∷ more) zero le = absurd (omega arith)
rising_end number (x ∷ more) (suc i) le = rising_end number more i (omega arith)

-- rising numbers rise at each position
pub rising_at : {X : Type 0} (number : X → ℕ) (xs : List X) (i j : ℕ) (d e : X) → j ≡ i + 1 → j < length xs → IsRising number xs → number (get_or xs i d) < number (get_or xs j e)
rising_at number [] i j d e next lt rising = absurd (omega arith)
rising_at number (x ∷ xs) i zero d e next lt rising = absurd (omega arith)
rising_at number (x ∷ []) i (suc j) d e next lt rising = absurd (omega arith)
rising_at number (x ∷ y ∷ more) zero (suc zero) d e next lt rising = rising.0
rising_at number (x ∷ y ∷ more) zero (suc (suc j)) d e next lt rising = absurd (omega arith)
rising_at number (x ∷ y ∷ more) (suc i) (suc j) d e next lt rising = rising_at number (y ∷ more) i j d e (omega arith) (omega arith) rising.1

-- ---- the order

module _ {X : Type 0} where
  last_place : (k : ℕ) (x : X) (e : ℕ × X) (es : List (ℕ × X)) (r : Ordering) → MatchOrdering r (k < e.0) (k ≡ e.0) (e.0 < k) → e.0 < k → insert_entry nat_cmp es k x ≡ es ++ (k, x) ∷ []
      → match_ordering r ((k, x) ∷ e ∷ es) ((e.0, x) ∷ es) (e ∷ insert_entry nat_cmp es k x) ≡ e ∷ (es ++ (k, x) ∷ [])
  last_place k x e es Less rank lt more = absurd (omega (arith, rank, lt))
  last_place k x e es Equal rank lt more = absurd (omega (arith, rank, lt))
  last_place k x e es Greater rank lt more = ap (λ t. e ∷ t) more

  insert_last : (k : ℕ) (x : X) (es : List (ℕ × X)) → AllByRecursion (λ e. e.0 < k) es → insert_entry nat_cmp es k x ≡ es ++ (k, x) ∷ []
  insert_last k x [] below = refl
  insert_last k x (e ∷ es) below = last_place k x e es (nat_cmp k e.0) (ranked k e.0 (nat_cmp k e.0) refl) below.0 (insert_last k x es below.1)

  below_last : (k n : ℕ) (x : X) (es : List (ℕ × X)) → k < n → AllByRecursion (λ e. e.0 < k) es → AllByRecursion (λ e. e.0 < n) (es ++ (k, x) ∷ [])
  below_last k n x [] lt below = (lt, tt)
  below_last k n x (e ∷ es) lt below = (omega (arith, lt, below.0), below_last k n x es lt below.1)

module _ {X : Type 0} (number : X → ℕ) where
  -- the keys in the entries are below the first number of these rows
  abbrev Below : List (ℕ × X) → List X → Type 0
  Below es [] = Unit {0}
  Below es (x ∷ more) = AllByRecursion (λ e. e.0 < number x) es

  one_entered : (es : List (ℕ × X)) (x : X) → AllByRecursion (λ e. e.0 < number x) es → values_of (insert_entry nat_cmp es (number x) x) ≡ values_of es ++ x ∷ []
  one_entered es x below = ap (λ t. values_of t) (insert_last (number x) x es below) ∙ map-append (λ (e : ℕ × X). e.1) es ((number x, x) ∷ [])

  entered_rising : (es : List (ℕ × X)) (rows : List X) → IsRising number rows → Below es rows → values_of (entered number es rows) ≡ values_of es ++ rows
  entered_rising es [] rising below = sym (append-nil (values_of es))
  entered_rising es (x ∷ []) rising below = one_entered es x below
  entered_rising es (x ∷ y ∷ more) rising below =
      let next = insert_entry nat_cmp es (number x) x in
      let still : AllByRecursion (λ e. e.0 < number y) next = subst (λ t. AllByRecursion (λ e. e.0 < number y) t) (sym (insert_last (number x) x es below)) (below_last (number x) (number y) x es rising.0 below) in
      entered_rising next (y ∷ more) rising.1 still ∙ ap (λ t. t ++ y ∷ more) (one_entered es x below) ∙ append_assoc (values_of es) (x ∷ []) (y ∷ more)

  none_before : (rows : List X) → Below [] rows
  none_before [] = tt
  none_before (x ∷ more) = tt

  pub rising_by_number : (rows : List X) → IsRising number rows → by_number number rows ≡ rows
  unfolding by_number
  rising_by_number rows rising = entered_rising [] rows rising (none_before rows)

pub zip_rising : (clear : List ClearItem) (full : List FullItem) → IsRising (λ (item : ClearItem). item.id.0) clear → IsRising row_number (zip clear full)
zip_rising [] full rising = tt
zip_rising (x ∷ clear) [] rising = tt
zip_rising (x ∷ []) (y ∷ full) rising = tt
zip_rising (x ∷ w ∷ clear) (y ∷ []) rising = tt
zip_rising (x ∷ w ∷ clear) (y ∷ z ∷ full) rising = (rising.0, zip_rising (w ∷ clear) (z ∷ full) rising.1)

-- the items in the given order
pub as_they_stand : (clear : List ClearItem) (full : List FullItem) → IsStrictlyIncreasing (map (λ (item : ClearItem). item.id.0) clear) → zip clear full ≡ by_number row_number (zip clear full)
as_they_stand clear full up = sym (rising_by_number row_number (zip clear full) (zip_rising clear full (rising_by_place (λ (item : ClearItem). item.id.0) clear up)))

-- ---- the loop that collects them

-- one more item is collected
pub stand_next : (done : List Lent) (row : Lent) (clear : List ClearItem) (full : List FullItem) (i : ℕ) → i < length clear → length full ≡ length clear → row.0.now ≡ get_or clear i row.0.now → row.1.now ≡ get_or full i row.1.now
    → map see (done ++ row ∷ []) ++ zip (drop (i + 1) clear) (drop (i + 1) full) ≡ map see done ++ zip (drop i clear) (drop i full)
stand_next done row clear full i lt same ex ey =
    let rest = zip (drop (i + 1) clear) (drop (i + 1) full) in
    let one : drop i clear ≡ row.0.now ∷ drop (i + 1) clear = drop_more clear i row.0.now lt ∙ ap (λ h. h ∷ drop (i + 1) clear) (sym ex) in
    let other : drop i full ≡ row.1.now ∷ drop (i + 1) full = drop_more full i row.1.now (omega arith) ∙ ap (λ h. h ∷ drop (i + 1) full) (sym ey) in
    ap (λ t. t ++ rest) (map-append see done (row ∷ [])) ∙ append_assoc (map see done) (see row ∷ []) rest ∙ sym (λ j. map see done ++ zip (one j) (other j))
