-- The rows of items in a list whose ids rise: the place of an id, and what becomes of the rows if the item at a place is changed or removed.
use Rattle.std.proofs.Common.{◌≡◌, ℕ, zero, suc, ◌+◌, ◌-◌, ◌≤◌, ◌<◌, ◌==◌, true, false, nat_eq, List, [], ◌∷◌, length, map, get_or, Option, Some, None, refl, sym, ap, subst, ◌∙◌, inl, inr, arith}
use Rattle.std.specs.declared.cmp.Ordering.{Ordering}
use Rattle.std.specs.declared.cmp.Ordering.TheVariants.{Less, Equal, Greater}
use Rattle.std.specs.Cmp.{nat_eq_equiv}
use Rattle.std.specs.List.{AllByRecursion, IsDistinct, remove, slice_get, slice_set}
use Rattle.std.specs.List.Sorted.{IsNonDecreasing, IsNonDecreasingBy, IsPartitionPoint, IsPermutation, IsStrictlySortedBy}
use Rattle.std.specs.Map.{keys_of}
use Rattle.std.specs.Ordering.{nat_cmp, ordering_index, MatchOrdering}
use Rattle.std.proofs.lemmas.Bool.{cases_lt, cases_order, eqb-true}
use Rattle.std.proofs.lemmas.Bool.Decides.{nat_tests}
use Rattle.std.proofs.lemmas.Cmp.{ranked}
use Rattle.std.proofs.lemmas.List.{get_or-map, length-map}
use Rattle.std.proofs.lemmas.List.Sorted.{Contains-permutation, IsPermutation-map, IsPermutation-sym}
use Rattle.std.proofs.lemmas.Map.Keys.{IsDistinct-IsPermutation, IsStrictlyIncreasing-from_distinct, below_from_sorted, sorted_from_strictly_increasing}
use Rattle.std.proofs.lemmas.Map.Views.{Contains-from_lookup, lookup-from_Contains}
use Rattle.std.proofs.lemmas.Option.{get_or_from_slice_get, slice_get-get_or, slice_get_within}
use Rattle.kr_base.specs.declared.ids.ItemId.{ItemId}
use Rattle.keyring_file.specs.declared.area.FullItem.{FullItem}
use Rattle.item_store.specs.Rows.{HasJustRows, IsPlaceOf, IsRising, Row, Rows, given_row, kept_of, last_id, row_at, row_of, rows_changed, rows_without}
use Rattle.item_store.proofs.RowLemmas.{apart, apart-above, changed-above, itself, numbers-of, turned, without-above}

-- an item with its id and its type
abbrev pub Given : Type 0
Given = ItemId × ℕ × FullItem

abbrev number : Given → ℕ
number item = item.0.0

abbrev rows_of : List Given → Rows
rows_of given = map row_of given

other : (x y : ℕ) → (x ≡ y → ⊥) → (x == y) ≡ false
other x y never = grind (arith, nat_tests, never)

less-at : (a b : ℕ) → nat_cmp a b ≡ Less → a < b
less-at a b e = ranked a b Less (sym e)

equal-at : (a b : ℕ) → nat_cmp a b ≡ Equal → a ≡ b
equal-at a b e = ranked a b Equal (sym e)

greater-at : (a b : ℕ) → nat_cmp a b ≡ Greater → b < a
greater-at a b e = ranked a b Greater (sym e)

all-above : (id n : ℕ) → n ≡ id → (ids : List ℕ) → AllByRecursion (λ y. nat_cmp n y ≡ Less) ids → AllByRecursion (λ y. id < y) ids
all-above id n same [] all = tt
all-above id n same (y ∷ ys) all = let less = less-at n y all.0 in (omega (arith, less, same), all-above id n same ys all.1)

-- ---- the place of an id

-- what holds for all ids holds for the one at a place
at-place : (P : ℕ → Type 0) (given : List Given) (place : ℕ) (item : Given) → AllByRecursion P (keys_of (rows_of given)) → slice_get given place ≡ Some item → P (number item)
at-place P [] place item all at = let no : None ≡ Some item = at in absurd cc
at-place P (e ∷ more) zero item all at = let same : Some e ≡ Some item = at in let is : e ≡ item = cc in subst (λ x. P (number x)) is all.0
at-place P (e ∷ more) (suc place) item all at = at-place P more place item all.1 at

-- a row at a place is the row of its id
pub here : (id : ℕ) (given : List Given) (place : ℕ) (item : Given) → IsRising (rows_of given) → slice_get given place ≡ Some item → number item ≡ id → row_at id (rows_of given) ≡ Some (kept_of item)
unfolding IsStrictlySortedBy
here id [] place item rising at its = let no : None ≡ Some item = at in absurd cc
here id (e ∷ more) zero item rising at its =
    let same : Some e ≡ Some item = at in
    let is : e ≡ item = cc in
    let test : (id == number e) ≡ true = rw (ap number is ∙ its) (itself id) in
    rw test (ap (λ x. Some (kept_of x)) is)
here id (e ∷ more) (suc place) item rising at its =
    let less : number e < number item = less-at (number e) (number item) (at-place (λ n. nat_cmp (number e) n ≡ Less) more place item rising.0 at) in
    let off : (id == number e) ≡ false = apart-above id (number e) (omega (arith, less, its)) in
    rw off (here id more place item rising.1 at its)

pub found-row : (id : ℕ) (given : List Given) (place : ℕ) → IsRising (rows_of given) → IsPlaceOf id given place → (d : Given) → row_at id (rows_of given) ≡ Some (kept_of (get_or given place d))
found-row id given place rising is d = rw (get_or_from_slice_get given place is.found d is.at) (here id given place is.found rising is.at is.its)

-- what is read at the place is what is there
pub found-read : (given : List Given) (place : ℕ) (item : Given) (id : ℕ) (is : IsPlaceOf id given place) → item ≡ get_or given place item → is.found ≡ item
found-read given place item id is read = sym (read ∙ get_or_from_slice_get given place is.found item is.at)

-- a search that hits is at the place
pub placed : (id : ℕ) (given : List Given) (place : ℕ) → place < length given → ((d : Given) → nat_cmp (number (get_or given place d)) id ≡ Equal) → IsPlaceOf id given place
placed id [] place bound equal = absurd (omega (arith, bound))
placed id (e ∷ more) place bound equal = record {
  found = get_or (e ∷ more) place e;
  at = slice_get-get_or (e ∷ more) place e bound;
  its = equal-at _ id (equal e);
}

not-there : (id : ℕ) (given : List Given) → ((place : ℕ) (d : Given) → place < length given → number (get_or given place d) ≡ id → ⊥) → row_at id (rows_of given) ≡ None
not-there id [] never = refl
not-there id (e ∷ more) never =
    let off : (id == number e) ≡ false = other id (number e) (λ same. never 0 e (omega arith) (sym same)) in
    rw off (not-there id more (λ place d lt same. never (suc place) d (omega (arith, lt)) same))

rises : (given : List Given) (i j : ℕ) (d : Given) → IsRising (rows_of given) → i < j → j < length given → number (get_or given i d) < number (get_or given j d)
rises given i j d rising lt within =
    let numbers : List ℕ = map number given in
    let up : IsStrictlySortedBy nat_cmp numbers = subst (IsStrictlySortedBy nat_cmp) (sym (numbers-of given)) rising in
    let long : length numbers ≡ length given = length-map given number in
    let one : get_or numbers i (number d) ≡ number (get_or given i d) = get_or-map number given i d (number d) (omega (arith, lt, within)) in
    let two : get_or numbers j (number d) ≡ number (get_or given j d) = get_or-map number given j d (number d) within in
    let less : get_or numbers i (number d) < get_or numbers j (number d) = below_from_sorted numbers i j (number d) up lt (omega (arith, within, long)) in
    omega (arith, one, two, less)

-- the same, of items that were read there
pub rises-read : (given : List Given) (i j : ℕ) (one two : Given) → IsRising (rows_of given) → i < j → j < length given → one ≡ get_or given i one → two ≡ get_or given j two → number one < number two
rises-read given i j one two rising lt within first second =
    let up = rises given i j one rising lt within in
    let here : number (get_or given i one) ≡ number one = ap number (sym first) in
    let next : number (get_or given j one) ≡ number two = ap number (get_or_from_slice_get given j two one (slice_get-get_or given j two within ∙ ap (λ x. Some x) (sym second))) in
    omega (arith, up, here, next)

index-rises : (a b k : ℕ) → a ≤ b → (r s : Ordering) → MatchOrdering r (a < k) (a ≡ k) (k < a) → MatchOrdering s (b < k) (b ≡ k) (k < b) → ordering_index r ≤ ordering_index s
index-rises a b k le Less s p q = omega arith
index-rises a b k le Equal Less p q = absurd (omega (arith, le, p, q))
index-rises a b k le Equal Equal p q = omega arith
index-rises a b k le Equal Greater p q = omega arith
index-rises a b k le Greater Less p q = absurd (omega (arith, le, p, q))
index-rises a b k le Greater Equal p q = absurd (omega (arith, le, p, q))
index-rises a b k le Greater Greater p q = omega arith

rises-or-same : (given : List Given) (i j : ℕ) (d : Given) → IsRising (rows_of given) → i ≤ j → j < length given → number (get_or given i d) ≤ number (get_or given j d)
rises-or-same given i j d rising le within =
    elim (cases_order i j) [
      | inl same ↦ let e : number (get_or given i d) ≡ number (get_or given j d) = ap (λ n. number (get_or given n d)) same in omega (arith, e)
      | inr differ ↦ elim differ [
        | inl lt ↦ let up = rises given i j d rising lt within in omega (arith, up)
        | inr gt ↦ absurd (omega (arith, le, gt))
      ]
    ]

comparisons-rise : (id : ℕ) (given : List Given) → IsRising (rows_of given) → IsNonDecreasingBy (λ item. ordering_index (nat_cmp (number item) id)) given
comparisons-rise id given rising i j d le lt =
    index-rises (number (get_or given i d)) (number (get_or given j d)) id (rises-or-same given i j d rising le lt) (nat_cmp (number (get_or given i d)) id) (nat_cmp (number (get_or given j d)) id)
    (ranked (number (get_or given i d)) id _ refl) (ranked (number (get_or given j d)) id _ refl)

-- a search that misses shows that there is no such row
pub missing : (id : ℕ) (given : List Given) (place : ℕ) → IsRising (rows_of given)
    → (IsNonDecreasingBy (λ item. ordering_index (nat_cmp (number item) id)) given → IsPartitionPoint (λ item. nat_cmp (number item) id ≡ Less) (λ item. nat_cmp (number item) id ≡ Greater) given place)
    → row_at id (rows_of given) ≡ None
missing id given place rising parted =
    let parts = parted (comparisons-rise id given rising) in
    not-there id given (λ j d lt same.
    elim (cases_lt j place) [
      | inl below ↦ let less = less-at _ id (parts.0 j d (omega arith) below) in omega (arith, less, same)
      | inr above ↦ let more = greater-at _ id (parts.1 j d above lt) in omega (arith, more, same)
    ])

-- the last row
last-get : (given : List Given) (d : Given) → 0 < length given → last_id (rows_of given) ≡ number (get_or given (length given - 1) d)
last-get [] d some = absurd (omega (arith, some))
last-get (e ∷ []) d some = refl
last-get (e ∷ f ∷ more) d some =
    let next : length (e ∷ f ∷ more) - 1 ≡ suc (length (f ∷ more) - 1) = omega arith in
    rw next (last-get (f ∷ more) d (omega arith))

pub last-place : (given : List Given) (item : Given) → Some item ≡ slice_get given (length given - 1) → number item ≡ last_id (rows_of given)
last-place given item at =
    let within : length given - 1 < length given = slice_get_within given (length given - 1) item (sym at) in
    sym (last-get given item (omega (arith, within)) ∙ ap number (get_or_from_slice_get given (length given - 1) item item (sym at)))

pub last-none : (given : List Given) → None ≡ slice_get given (length given - 1) → 0 ≡ last_id (rows_of given)
last-none [] at = refl
last-none (e ∷ more) at =
    let some = slice_get-get_or (e ∷ more) (length (e ∷ more) - 1) e (omega arith) in
    let no : None ≡ Some (get_or (e ∷ more) (length (e ∷ more) - 1) e) = at ∙ some in
    absurd cc

-- ---- what becomes of the rows

-- the item at the place of an id is changed
pub set-there : (id : ℕ) (f : Row → Row) (new : FullItem) (given : List Given) (place : ℕ) (item : Given) → IsRising (rows_of given) → slice_get given place ≡ Some item → number item ≡ id
    → record { kind = item.1; item = new } ≡ f (kept_of item) → rows_of (slice_set given place (item.0, item.1, new)) ≡ rows_changed id f (rows_of given)
unfolding IsStrictlySortedBy
set-there id f new [] place item rising at its is = let no : None ≡ Some item = at in absurd cc
set-there id f new (e ∷ more) zero item rising at its is =
    let there : Some e ≡ Some item = at in
    let same : e ≡ item = cc in
    let its-own : number e ≡ id = ap number same ∙ its in
    let test : (number e == id) ≡ true = rw its-own (itself id) in
    let above : AllByRecursion (λ y. id < y) (keys_of (rows_of more)) = all-above id (number e) its-own (keys_of (rows_of more)) rising.0 in
    let head : ◌≡◌ {A = ℕ × Row} (number item, record { kind = item.1; item = new }) (number e, f (kept_of e)) = (λ i. (number item, is i)) ∙ sym (ap (λ (x : Given). (number x, f (kept_of x))) same) in
    rw test (λ i. head i ∷ sym (changed-above id f (rows_of more) above) i)
set-there id f new (e ∷ more) (suc place) item rising at its is =
    let less : number e < number item = less-at (number e) (number item) (at-place (λ n. nat_cmp (number e) n ≡ Less) more place item rising.0 at) in
    let off : (number e == id) ≡ false = apart (number e) id (omega (arith, less, its)) in
    rw off (ap (λ t. row_of e ∷ t) (set-there id f new more place item rising.1 at its is))

-- the same, of the item that was read there
pub set-read : (id : ℕ) (f : Row → Row) (new : FullItem) (given : List Given) (place : ℕ) (item : Given) → IsRising (rows_of given) → IsPlaceOf id given place → item ≡ get_or given place item
    → record { kind = item.1; item = new } ≡ f (kept_of item) → rows_of (slice_set given place (item.0, item.1, new)) ≡ rows_changed id f (rows_of given)
set-read id f new given place item rising is read made =
    let same : item ≡ is.found = read ∙ get_or_from_slice_get given place is.found item is.at in
    set-there id f new given place item rising (is.at ∙ ap (λ x. Some x) (sym same)) (ap number same ∙ is.its) made

-- the item at the place of an id is removed
pub removed : (id : ℕ) (given : List Given) (place : ℕ) (item : Given) → IsRising (rows_of given) → slice_get given place ≡ Some item → number item ≡ id → rows_of (remove given place) ≡ rows_without id (rows_of given)
unfolding IsStrictlySortedBy
removed id [] place item rising at its = let no : None ≡ Some item = at in absurd cc
removed id (e ∷ more) zero item rising at its =
    let there : Some e ≡ Some item = at in
    let same : e ≡ item = cc in
    let its-own : number e ≡ id = ap number same ∙ its in
    let test : (number e == id) ≡ true = rw its-own (itself id) in
    rw test (sym (without-above id (rows_of more) (all-above id (number e) its-own (keys_of (rows_of more)) rising.0)))
removed id (e ∷ more) (suc place) item rising at its =
    let less : number e < number item = less-at (number e) (number item) (at-place (λ n. nat_cmp (number e) n ≡ Less) more place item rising.0 at) in
    let off : (number e == id) ≡ false = apart (number e) id (omega (arith, less, its)) in
    rw off (ap (λ t. row_of e ∷ t) (removed id more place item rising.1 at its))

-- ---- items in any order

-- items with distinct ids that are sorted
numbers-up : (given : List Given) → IsNonDecreasingBy number given → IsNonDecreasing (map number given)
numbers-up [] up i j d le lt = absurd (omega (arith, lt))
numbers-up (e ∷ more) up i j d le lt =
    let given : List Given = e ∷ more in
    let within : j < length given = omega (arith, lt, length-map given number) in
    let one : get_or (map number given) i d ≡ number (get_or given i e) = get_or-map number given i e d (omega (arith, le, within)) in
    let two : get_or (map number given) j d ≡ number (get_or given j e) = get_or-map number given j e d within in
    let rise = up i j e le within in
    omega (arith, one, two, rise)

-- ---- an id among items in any order

-- an id finds the same row among distinct ids in any order
half-same : (one two : Rows) (id : ℕ) → IsDistinct nat_eq (keys_of two) → IsPermutation one two → (row : Row) → row_at id one ≡ Some row → row_at id two ≡ Some row
half-same one two id distinct same row there = lookup-from_Contains nat_eq_equiv id row two distinct (Contains-permutation one two (id, row) same (Contains-from_lookup eqb-true id row one there))

same-at : (one two : Rows) (id : ℕ) → IsDistinct nat_eq (keys_of one) → IsDistinct nat_eq (keys_of two) → IsPermutation one two → row_at id two ≡ row_at id one
same-at one two id first second same =
    let step : (a b : Option Row) → row_at id one ≡ a → row_at id two ≡ b → row_at id two ≡ row_at id one =
    elim [
      | Some row ↦ λ b at _. half-same one two id second same row at ∙ sym at
      | None ↦ elim [
        | None ↦ λ at no. no ∙ sym at
        | Some row ↦ λ at there. let back : row_at id one ≡ Some row = half-same two one id first (IsPermutation-sym one two same) row there in let none : Some row ≡ None = sym back ∙ at in absurd cc
      ]
    ] in
    step (row_at id one) (row_at id two) refl refl

-- items with distinct ids that are sorted
pub sorted-rows : (given sorted : List Given) → IsDistinct nat_eq (map number given) → IsPermutation given sorted → IsNonDecreasingBy number sorted → HasJustRows given (rows_of sorted)
sorted-rows given sorted distinct same up =
    let apart-first : IsDistinct nat_eq (keys_of (rows_of given)) = subst (IsDistinct nat_eq) (numbers-of given) distinct in
    let apart-numbers : IsDistinct nat_eq (map number sorted) = IsDistinct-IsPermutation nat_eq turned (map number given) (map number sorted) (IsPermutation-map number given sorted same) distinct in
    let apart-sorted : IsDistinct nat_eq (keys_of (rows_of sorted)) = subst (IsDistinct nat_eq) (numbers-of sorted) apart-numbers in
    record {
      rising = subst (IsStrictlySortedBy nat_cmp) (numbers-of sorted) (sorted_from_strictly_increasing (map number sorted) (IsStrictlyIncreasing-from_distinct (map number sorted) (numbers-up sorted up) apart-numbers));
      each = λ id. same-at (rows_of given) (rows_of sorted) id apart-first apart-sorted (IsPermutation-map row_of given sorted same);
    }

-- ---- whether the ids rise

-- the ids rise up to a place, if each is less than the next one there
pub rising-places : (given : List Given) → ((place : ℕ) (d : Given) → place + 1 < length given → number (get_or given place d) < number (get_or given (place + 1) d)) → IsRising (rows_of given)
rising-places [] up = subst (IsStrictlySortedBy nat_cmp) (numbers-of []) (sorted_from_strictly_increasing [] (λ k lt. absurd (omega (arith, lt))))
rising-places (e ∷ more) up =
    let given : List Given = e ∷ more in
    let long : length (map number given) ≡ length given = length-map given number in
    subst (IsStrictlySortedBy nat_cmp) (numbers-of given) (sorted_from_strictly_increasing (map number given) (λ k lt.
    let within : k + 1 < length given = omega (arith, lt, long) in
    let one : get_or (map number given) k 0 ≡ number (get_or given k e) = get_or-map number given k e 0 (omega (arith, within)) in
    let two : get_or (map number given) (k + 1) 0 ≡ number (get_or given (k + 1) e) = get_or-map number given (k + 1) e 0 within in
    let rise = up k e within in
    omega (arith, one, two, rise)))

-- ---- what the index is given

pub by-row : (given : List Given) → map (λ item. given_row (row_of item)) given ≡ map given_row (rows_of given)
by-row [] = refl
by-row (e ∷ more) = ap (λ t. given_row (row_of e) ∷ t) (by-row more)
