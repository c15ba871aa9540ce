-- An arranged content has the same items by rising numbers, and arranging it again changes nothing.
use Rattle.std.proofs.Common.{◌≡◌, ℕ, ◌<◌, List, [], ◌∷◌, map, refl, sym, ap, ◌∙◌, arith}
use Rattle.std.specs.declared.cmp.Ordering.{Ordering}
use Rattle.std.specs.declared.cmp.Ordering.TheVariants.{Less, Equal, Greater}
use Rattle.std.specs.BTreeMap.{insert_entry}
use Rattle.std.specs.List.{AllByRecursion, zip}
use Rattle.std.specs.List.Sorted.{IsPermutation}
use Rattle.std.specs.Map.{values_of}
use Rattle.std.specs.Ordering.{nat_cmp, match_ordering, MatchOrdering}
use Rattle.std.proofs.lemmas.Cmp.{ranked}
use Rattle.std.proofs.lemmas.List.Sorted.{IsPermutation-map}
use Rattle.keyring_file.specs.declared.clear.ClearItem.{ClearItem}
use Rattle.keyring_seal.specs.declared.content.Content.{Content}
use Rattle.keyring_seal.specs.Arranged.{Row, IsArrangement, IsSealable, arranged, arranged_rows, hashed_row, of_rows, row_number, rows}
use Rattle.keyring_seal.specs.Order.{by_number, entered}
use Rattle.keyring_seal.proofs.FileLemmas.{arranged_counted}
use Rattle.keyring_seal.proofs.RisingLemmas.{IsRising, place_by_rising, rising_by_number}
use Rattle.keyring_seal.proofs.SealLemmas.{arranged-permutation}

-- ---- rows that are inserted are by rising numbers

module _ {X : Type 0} (number : X → ℕ) where
  abbrev Above : ℕ → List (ℕ × X) → Type 0
  Above m es = AllByRecursion (λ e. m < e.0) es

  abbrev Ordered : List (ℕ × X) → Type 0
  Ordered [] = Unit {0}
  Ordered (e ∷ es) = Above e.0 es × Ordered es

  abbrev Numbered : List (ℕ × X) → Type 0
  Numbered es = AllByRecursion (λ e. e.0 ≡ number e.1) es

  above_less : (m k : ℕ) (es : List (ℕ × X)) → m < k → Above k es → Above m es
  above_less m k [] lt all = tt
  above_less m k (e ∷ es) lt all = (omega (arith, lt, all.0), above_less m k es lt all.1)

  above_at : (m k : ℕ) (x : X) (e : ℕ × X) (es : List (ℕ × X)) (r : Ordering) → m < k → Above m (e ∷ es) → Above m (insert_entry nat_cmp es k x) → Above m (match_ordering r ((k, x) ∷ e ∷ es) ((e.0, x) ∷ es) (e ∷ insert_entry nat_cmp es k x))
  above_at m k x e es Less lt all more = (lt, all)
  above_at m k x e es Equal lt all more = all
  above_at m k x e es Greater lt all more = (all.0, more)

  above_insert : (m k : ℕ) (x : X) (es : List (ℕ × X)) → m < k → Above m es → Above m (insert_entry nat_cmp es k x)
  above_insert m k x [] lt all = (lt, tt)
  above_insert m k x (e ∷ es) lt all = above_at m k x e es (nat_cmp k e.0) lt all (above_insert m k x es lt all.1)

  ordered_at : (k : ℕ) (x : X) (e : ℕ × X) (es : List (ℕ × X)) (r : Ordering) → MatchOrdering r (k < e.0) (k ≡ e.0) (e.0 < k) → Ordered (e ∷ es) → Ordered (insert_entry nat_cmp es k x)
      → Ordered (match_ordering r ((k, x) ∷ e ∷ es) ((e.0, x) ∷ es) (e ∷ insert_entry nat_cmp es k x))
  ordered_at k x e es Less rank all more = ((rank, above_less k e.0 es rank all.0), all)
  ordered_at k x e es Equal rank all more = all
  ordered_at k x e es Greater rank all more = (above_insert e.0 k x es rank all.0, more)

  ordered_insert : (k : ℕ) (x : X) (es : List (ℕ × X)) → Ordered es → Ordered (insert_entry nat_cmp es k x)
  ordered_insert k x [] all = (tt, tt)
  ordered_insert k x (e ∷ es) all = ordered_at k x e es (nat_cmp k e.0) (ranked k e.0 (nat_cmp k e.0) refl) all (ordered_insert k x es all.1)

  numbered_at : (x : X) (e : ℕ × X) (es : List (ℕ × X)) (r : Ordering) → MatchOrdering r (number x < e.0) (number x ≡ e.0) (e.0 < number x) → Numbered (e ∷ es) → Numbered (insert_entry nat_cmp es (number x) x)
      → Numbered (match_ordering r ((number x, x) ∷ e ∷ es) ((e.0, x) ∷ es) (e ∷ insert_entry nat_cmp es (number x) x))
  numbered_at x e es Less rank all more = (refl, all)
  numbered_at x e es Equal rank all more = (sym rank, all.1)
  numbered_at x e es Greater rank all more = (all.0, more)

  numbered_insert : (x : X) (es : List (ℕ × X)) → Numbered es → Numbered (insert_entry nat_cmp es (number x) x)
  numbered_insert x [] all = (refl, tt)
  numbered_insert x (e ∷ es) all = numbered_at x e es (nat_cmp (number x) e.0) (ranked (number x) e.0 (nat_cmp (number x) e.0) refl) all (numbered_insert x es all.1)

  values_rising : (es : List (ℕ × X)) → Ordered es → Numbered es → IsRising number (values_of es)
  values_rising [] all are = tt
  values_rising (e ∷ []) all are = tt
  values_rising (e ∷ f ∷ es) all are = (omega (arith, all.0.0, are.0, are.1.0), values_rising (f ∷ es) all.1 are.1)

  entered_rising : (es : List (ℕ × X)) (these : List X) → Ordered es → Numbered es → IsRising number (values_of (entered number es these))
  entered_rising es [] all are = values_rising es all are
  entered_rising es (x ∷ more) all are = entered_rising (insert_entry nat_cmp es (number x) x) more (ordered_insert (number x) x es all) (numbered_insert x es are)

  by_number_rising : (these : List X) → IsRising number (by_number number these)
  unfolding by_number
  by_number_rising these = entered_rising [] these tt tt

-- ---- the rows of a content that is arranged

hashed_rising : (these : List Row) → IsRising row_number these → IsRising row_number (map hashed_row these)
hashed_rising [] rising = tt
hashed_rising (x ∷ []) rising = tt
hashed_rising (x ∷ y ∷ more) rising = (rising.0, hashed_rising (y ∷ more) rising.1)

numbers_rising : (these : List Row) → IsRising row_number these → IsRising (λ (item : ClearItem). item.id.0) (map (λ (row : Row). row.0) these)
numbers_rising [] rising = tt
numbers_rising (x ∷ []) rising = tt
numbers_rising (x ∷ y ∷ more) rising = (rising.0, numbers_rising (y ∷ more) rising.1)

pub rows_again : (these : List Row) → zip (map (λ (row : Row). row.0) these) (map (λ (row : Row). row.1) these) ≡ these
rows_again [] = refl
rows_again (row ∷ these) = ap (λ (t : List Row). row ∷ t) (rows_again these)

hashed_again : (these : List Row) → map hashed_row (map hashed_row these) ≡ map hashed_row these
hashed_again [] = refl
hashed_again (row ∷ these) = ap (λ (t : List Row). hashed_row row ∷ t) (hashed_again these)

pub rows_rising : (content : Content) → IsRising row_number (arranged_rows content)
rows_rising content = hashed_rising (by_number row_number (rows content)) (by_number_rising row_number (rows content))

pub arranged_same : (content : Content) → IsSealable content → IsPermutation (map hashed_row (rows content)) (arranged_rows content)
arranged_same content can = IsPermutation-map hashed_row (rows content) (by_number row_number (rows content)) (arranged-permutation content can)

pub is_arrangement : (content : Content) → IsSealable content → IsArrangement content (arranged content)
is_arrangement content can = record {
  rest = refl;
  counted = arranged_counted content;
  same = rw (rows_again (arranged_rows content)) (arranged_same content can);
  rising = place_by_rising (λ (item : ClearItem). item.id.0) (arranged content).clear.items (numbers_rising (arranged_rows content) (rows_rising content));
}

pub arranged_stay : (content : Content) → arranged (arranged content) ≡ arranged content
arranged_stay content =
    let these = arranged_rows content in
    let same : arranged_rows (arranged content) ≡ these = ap (λ (t : List Row). map hashed_row (by_number row_number t)) (rows_again these) ∙ ap (map hashed_row) (rising_by_number row_number these (rows_rising content)) ∙ hashed_again (by_number row_number (rows content)) in
    ap (of_rows content.clear) same
