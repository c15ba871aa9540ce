-- Rows by rising id: the row of an id after each change, and the ids of the rows that pass a test.
use Rattle.std.proofs.Common.{◌≡◌, ℕ, ◌+◌, ◌<◌, ◌==◌, ◌&&◌, not, Bool, true, false, cond, nat_eq, nat_lt, List, [], ◌∷◌, ◌++◌, length, map, filter, Option, Some, None, refl, sym, ap, subst, ◌∙◌, inl, inr, ⊎_elim, arith, Less, Greater, suc, ◌-◌, get_or}
use Rattle.std.specs.List.{AllByRecursion, IsDistinct}
use Rattle.std.specs.List.Sorted.{IsStrictlySortedBy}
use Rattle.std.specs.BTreeMap.{BTreeMap, IsFromIterResult, is_at, insert_entry}
use Rattle.std.specs.Map.{keys_of, lookup, remove_entry, set_value, update_all}
use Rattle.std.proofs.lemmas.Option.{get_or_from_slice_get}
use Rattle.std.specs.List.{slice_get}
use Rattle.std.specs.Option.{option_map, option_or}
use Rattle.std.specs.Ordering.{eq_by_cmp, nat_cmp}
use Rattle.std.proofs.lemmas.Bool.{cases_Bool, cases_order, eqb-true}
use Rattle.std.proofs.lemmas.Bool.Decides.{nat_tests}
use Rattle.std.proofs.lemmas.List.Kept.{IsStrictlySortedBy-filter}
use Rattle.std.proofs.lemmas.Map.Keys.{sorted_tail}
use Rattle.kr_base.specs.declared.ids.ItemId.{ItemId}
use Rattle.keyring_file.specs.declared.area.FullItem.{FullItem}
use Rattle.kr_base.specs.IdLists.{has_id, with_id, without_id}
use Rattle.kr_base.proofs.IdLemmas.{Rises, AllBelow, AllAbove, all-weaker, all-lower, all-upper, above-head, has-other, other-above, rises-joined}
use Rattle.attribute_index.proofs.FindLemmas.{has-filter}
use Rattle.item_store.specs.Rows.{HasJustRows, IsRising, Row, Rows, greatest_id, ids_where, last_id, next_id, passes_at, row_at, row_of, rows_changed, rows_without}

-- ---- a rising list is determined by its ids

pub itself : (x : ℕ) → (x == x) ≡ true
itself x = grind (arith, nat_tests)

pub apart : (x y : ℕ) → x < y → (x == y) ≡ false
apart x y lt = grind (arith, nat_tests)

pub apart-above : (x y : ℕ) → y < x → (x == y) ≡ false
apart-above x y lt = grind (arith, nat_tests)

has-above : (x : ℕ) (ids : List ℕ) → AllAbove x ids → has_id ids x ≡ false
has-above x ids above = has-other x ids (other-above x ids above)

further : (x y : ℕ) (ys : List ℕ) → x < y → AllAbove y ys → AllAbove x ys
further x y ys lt above = all-weaker (λ z. y < z) (λ z. x < z) (λ z more. omega (arith, lt, more)) ys above

not-below : (x y : ℕ) (xs ys : List ℕ) → Rises (y ∷ ys) → ((z : ℕ) → has_id (x ∷ xs) z ≡ has_id (y ∷ ys) z) → x < y → ⊥
not-below x y xs ys ry h lt =
    let some : has_id (x ∷ xs) x ≡ true = rw (itself x) refl in
    let lacks : has_id (y ∷ ys) x ≡ false = rw (apart-above y x lt) (has-above x ys (further x y ys lt (above-head y ys ry))) in
    let e : true ≡ false = sym some ∙ h x ∙ lacks in
    absurd cc

tails : (x : ℕ) (xs ys : List ℕ) → Rises (x ∷ xs) → Rises (x ∷ ys) → ((z : ℕ) → has_id (x ∷ xs) z ≡ has_id (x ∷ ys) z) → (z : ℕ) → has_id xs z ≡ has_id ys z
tails x xs ys rx ry h z =
    ⊎_elim
    (λ is.
    let same : x ≡ z = eqb-true x z is in
    let one : has_id xs z ≡ false = subst (λ n. has_id xs n ≡ false) same (has-above x xs (above-head x xs rx)) in
    let other : has_id ys z ≡ false = subst (λ n. has_id ys n ≡ false) same (has-above x ys (above-head x ys ry)) in
    one ∙ sym other)
    (λ off. let here : has_id (x ∷ xs) z ≡ has_id (x ∷ ys) z = h z in rw off at here)
    (cases_Bool (x == z))

pub rises-same : (xs ys : List ℕ) → Rises xs → Rises ys → ((z : ℕ) → has_id xs z ≡ has_id ys z) → xs ≡ ys
rises-same [] [] rx ry h = refl
rises-same [] (y ∷ ys) rx ry h = let e : false ≡ true = h y ∙ rw (itself y) refl in absurd cc
rises-same (x ∷ xs) [] rx ry h = let e : false ≡ true = sym (h x) ∙ rw (itself x) refl in absurd cc
rises-same (x ∷ xs) (y ∷ ys) rx ry h =
    elim (cases_order x y) [
      | inl same ↦
          let ry' : Rises (x ∷ ys) = subst (λ n. Rises (n ∷ ys)) (sym same) ry in
          let h' : (z : ℕ) → has_id (x ∷ xs) z ≡ has_id (x ∷ ys) z = λ z. h z ∙ ap (λ n. has_id (n ∷ ys) z) (sym same) in
          let rest = rises-same xs ys (sorted_tail nat_cmp x xs rx) (sorted_tail nat_cmp x ys ry') (tails x xs ys rx ry' h') in
          λ i. same i ∷ rest i
      | inr other ↦ elim other [
        | inl below ↦ absurd (not-below x y xs ys ry h below)
        | inr above ↦ absurd (not-below y x ys xs rx (λ z. sym (h z)) above)
      ]
    ]

pub with-rises : (id : ℕ) (ids : List ℕ) → Rises ids → Rises (with_id id ids)
with-rises id ids rises = rises-joined (filter (λ x. nat_lt x id) ids) id (filter (λ x. nat_lt id x) ids)
    (IsStrictlySortedBy-filter nat_cmp (λ x. nat_lt x id) ids rises) (all-lower id ids)
    (IsStrictlySortedBy-filter nat_cmp (λ x. nat_lt id x) ids rises) (all-upper id ids)

pub without-rises : (id : ℕ) (ids : List ℕ) → Rises ids → Rises (without_id id ids)
without-rises id ids rises = IsStrictlySortedBy-filter nat_cmp (λ x. not (x == id)) ids rises

pub has-without : (id : ℕ) (ids : List ℕ) (x : ℕ) → has_id (without_id id ids) x ≡ (has_id ids x && not (x == id))
has-without id ids x = has-filter (λ y. not (y == id)) ids x

-- ---- the ids of the rows that pass

all-where : (P : ℕ → Type 0) (p : Row → Bool) (rows : Rows) → AllByRecursion P (keys_of rows) → AllByRecursion P (ids_where p rows)
all-where P p [] h = tt
all-where P p (row ∷ more) h =
    let step : (b : Bool) → p row.1 ≡ b → AllByRecursion P (ids_where p (row ∷ more)) =
    elim [
      | true ↦ λ is. rw is (h.0, all-where P p more h.1)
      | false ↦ λ is. rw is (all-where P p more h.1)
    ] in
    step (p row.1) refl

pub where-rises : (p : Row → Bool) (rows : Rows) → IsRising rows → Rises (ids_where p rows)
unfolding IsStrictlySortedBy
where-rises p [] rising = tt
where-rises p (row ∷ more) rising =
    let step : (b : Bool) → p row.1 ≡ b → Rises (ids_where p (row ∷ more)) =
    elim [
      | true ↦ λ is. rw is (all-where (λ x. nat_cmp row.0 x ≡ Less) p more rising.0, where-rises p more rising.1)
      | false ↦ λ is. rw is (where-rises p more rising.1)
    ] in
    step (p row.1) refl

pub turned : (x y : ℕ) → (x == y) ≡ (y == x)
turned x y = grind (arith, nat_tests)

pub has-where : (p : Row → Bool) (rows : Rows) → IsRising rows → (id : ℕ) → has_id (ids_where p rows) id ≡ passes_at p (row_at id rows)
has-where p [] rising id = refl
has-where p (row ∷ more) rising id =
    let rest = has-where p more (sorted_tail nat_cmp row.0 (keys_of more) rising) id in
    let step : (a b : Bool) → (id == row.0) ≡ a → p row.1 ≡ b → has_id (ids_where p (row ∷ more)) id ≡ passes_at p (row_at id (row ∷ more)) =
    elim [
      | true ↦ elim [
        | true ↦ λ is passes. let back : (row.0 == id) ≡ true = turned row.0 id ∙ is in rw (is, passes, back) refl
        | false ↦ λ is fails.
            let same : row.0 ≡ id = sym (eqb-true id row.0 is) in
            let above : AllAbove id (ids_where p more) = subst (λ n. AllAbove n (ids_where p more)) same (all-where (λ x. row.0 < x) p more (above-head row.0 (keys_of more) rising)) in
            rw (is, fails) (has-above id (ids_where p more) above)
      ]
      | false ↦ elim [
        | true ↦ λ off passes. let back : (row.0 == id) ≡ false = turned row.0 id ∙ off in rw (off, passes, back) rest
        | false ↦ λ off fails. rw (off, fails) rest
      ]
    ] in
    step (id == row.0) (p row.1) refl refl

-- ---- the row of an id after each change

pub at-without : (id : ℕ) (rows : Rows) (x : ℕ) → row_at x (rows_without id rows) ≡ cond (x == id) None (row_at x rows)
at-without id [] x = ⊎_elim (λ is. rw is refl) (λ off. rw off refl) (cases_Bool (x == id))
at-without id (row ∷ more) x =
    let rest = at-without id more x in
    let step : (a b : Bool) → (row.0 == id) ≡ a → (x == row.0) ≡ b → row_at x (rows_without id (row ∷ more)) ≡ cond (x == id) None (row_at x (row ∷ more)) =
    elim [
      | true ↦ elim [
        | true ↦ λ is at. let same : (x == id) ≡ true = rw (sym (eqb-true x row.0 at)) at is in rw (is, at, same) (rest ∙ ap (λ b. cond b None (row_at x more)) same)
        | false ↦ λ is at. rw (is, at) rest
      ]
      | false ↦ elim [
        | true ↦ λ off at. let same : (x == id) ≡ false = rw (sym (eqb-true x row.0 at)) at off in rw (off, at, same) refl
        | false ↦ λ off at. rw (off, at) rest
      ]
    ] in
    step (row.0 == id) (x == row.0) refl refl

pub at-changed : (id : ℕ) (f : Row → Row) (rows : Rows) (x : ℕ) → row_at x (rows_changed id f rows) ≡ cond (x == id) (option_map f (row_at x rows)) (row_at x rows)
at-changed id f [] x = ⊎_elim (λ is. rw is refl) (λ off. rw off refl) (cases_Bool (x == id))
at-changed id f (row ∷ more) x =
    let rest = at-changed id f more x in
    let step : (a b : Bool) → (row.0 == id) ≡ a → (x == row.0) ≡ b → row_at x (rows_changed id f (row ∷ more)) ≡ cond (x == id) (option_map f (row_at x (row ∷ more))) (row_at x (row ∷ more)) =
    elim [
      | true ↦ elim [
        | true ↦ λ is at. let same : (x == id) ≡ true = rw (sym (eqb-true x row.0 at)) at is in rw (is, at, same) refl
        | false ↦ λ is at. rw (is, at) rest
      ]
      | false ↦ elim [
        | true ↦ λ off at. let same : (x == id) ≡ false = rw (sym (eqb-true x row.0 at)) at off in rw (off, at, same) refl
        | false ↦ λ off at. rw (off, at) rest
      ]
    ] in
    step (row.0 == id) (x == row.0) refl refl

pub at-above : (rows : Rows) (n : ℕ) → AllBelow n (keys_of rows) → row_at n rows ≡ None
at-above [] n below = refl
at-above (row ∷ more) n below = rw (apart-above n row.0 below.0) (at-above more n below.1)

pub at-added : (rows : Rows) (n : ℕ) (row : Row) → AllBelow n (keys_of rows) → (x : ℕ) → row_at x (rows ++ (n, row) ∷ []) ≡ cond (x == n) (Some row) (row_at x rows)
at-added [] n row below x = refl
at-added (r ∷ more) n row below x =
    let rest = at-added more n row below.1 x in
    let step : (a : Bool) → (x == r.0) ≡ a → row_at x ((r ∷ more) ++ (n, row) ∷ []) ≡ cond (x == n) (Some row) (row_at x (r ∷ more)) =
    elim [
      | true ↦ λ is. let off : (x == n) ≡ false = rw (eqb-true x r.0 is) (apart r.0 n below.0) in rw (is, off) refl
      | false ↦ λ off. rw off rest
    ] in
    step (x == r.0) refl

-- ---- the ids rise

pub keys-changed : (id : ℕ) (f : Row → Row) (rows : Rows) → keys_of (rows_changed id f rows) ≡ keys_of rows
keys-changed id f [] = refl
keys-changed id f (row ∷ more) =
    let rest = keys-changed id f more in
    ⊎_elim (λ is. rw is (ap (λ t. row.0 ∷ t) rest)) (λ off. rw off (ap (λ t. row.0 ∷ t) rest)) (cases_Bool (row.0 == id))

pub keys-without : (id : ℕ) (rows : Rows) → keys_of (rows_without id rows) ≡ without_id id (keys_of rows)
keys-without id [] = refl
keys-without id (row ∷ more) =
    let rest = keys-without id more in
    let step : (b : Bool) → (row.0 == id) ≡ b → keys_of (rows_without id (row ∷ more)) ≡ without_id id (keys_of (row ∷ more)) =
    elim [
      | true ↦ λ is. rw is rest
      | false ↦ λ off. rw off (ap (λ t. row.0 ∷ t) rest)
    ] in
    step (row.0 == id) refl

pub keys-added : (rows : Rows) (n : ℕ) (row : Row) → keys_of (rows ++ (n, row) ∷ []) ≡ keys_of rows ++ n ∷ []
keys-added [] n row = refl
keys-added (r ∷ more) n row = ap (λ t. r.0 ∷ t) (keys-added more n row)

pub rising-changed : (id : ℕ) (f : Row → Row) (rows : Rows) → IsRising rows → IsRising (rows_changed id f rows)
rising-changed id f rows rising = subst Rises (sym (keys-changed id f rows)) rising

pub rising-without : (id : ℕ) (rows : Rows) → IsRising rows → IsRising (rows_without id rows)
rising-without id rows rising = subst Rises (sym (keys-without id rows)) (without-rises id (keys_of rows) rising)

pub rises-none : Rises []
unfolding IsStrictlySortedBy
rises-none = tt

pub rising-added : (rows : Rows) (n : ℕ) (row : Row) → AllBelow n (keys_of rows) → IsRising rows → IsRising (rows ++ (n, row) ∷ [])
rising-added rows n row below rising = subst Rises (sym (keys-added rows n row)) (rises-joined (keys_of rows) n [] rising below rises-none tt)

-- ---- what leaves the rows as they are

pub without-above : (id : ℕ) (rows : Rows) → AllAbove id (keys_of rows) → rows_without id rows ≡ rows
without-above id [] above = refl
without-above id (row ∷ more) above = let off : (row.0 == id) ≡ false = apart-above row.0 id above.0 in rw off (ap (λ t. row ∷ t) (without-above id more above.1))

pub changed-above : (id : ℕ) (f : Row → Row) (rows : Rows) → AllAbove id (keys_of rows) → rows_changed id f rows ≡ rows
changed-above id f [] above = refl
changed-above id f (row ∷ more) above = let off : (row.0 == id) ≡ false = apart-above row.0 id above.0 in rw off (ap (λ t. row ∷ t) (changed-above id f more above.1))

above-this : (id : ℕ) (row : ℕ × Row) (more : Rows) → IsRising (row ∷ more) → (id == row.0) ≡ true → AllAbove id (keys_of more)
above-this id row more rising is = subst (λ n. AllAbove n (keys_of more)) (sym (eqb-true id row.0 is)) (above-head row.0 (keys_of more) rising)

pub changed-none : (id : ℕ) (f : Row → Row) (rows : Rows) → row_at id rows ≡ None → rows_changed id f rows ≡ rows
changed-none id f [] none = refl
changed-none id f (row ∷ more) none =
    let step : (b : Bool) → (id == row.0) ≡ b → rows_changed id f (row ∷ more) ≡ row ∷ more =
    elim [
      | true ↦ λ is. let found : Some row.1 ≡ None = rw is at none in absurd cc
      | false ↦ λ off.
          let back : (row.0 == id) ≡ false = turned row.0 id ∙ off in
          let later : row_at id more ≡ None = rw off at none in
          rw back (ap (λ t. row ∷ t) (changed-none id f more later))
    ] in
    step (id == row.0) refl

pub without-none : (id : ℕ) (rows : Rows) → row_at id rows ≡ None → rows_without id rows ≡ rows
without-none id [] none = refl
without-none id (row ∷ more) none =
    let step : (b : Bool) → (id == row.0) ≡ b → rows_without id (row ∷ more) ≡ row ∷ more =
    elim [
      | true ↦ λ is. let found : Some row.1 ≡ None = rw is at none in absurd cc
      | false ↦ λ off.
          let back : (row.0 == id) ≡ false = turned row.0 id ∙ off in
          let later : row_at id more ≡ None = rw off at none in
          rw back (ap (λ t. row ∷ t) (without-none id more later))
    ] in
    step (id == row.0) refl

-- ---- the next id

all-last : (rows : Rows) → IsRising rows → AllBelow (last_id rows + 1) (keys_of rows)
all-last [] rising = tt
all-last (r ∷ []) rising = (omega arith, tt)
all-last (r ∷ s ∷ more) rising =
    let rest = all-last (s ∷ more) (sorted_tail nat_cmp r.0 (keys_of (s ∷ more)) rising) in
    let above = above-head r.0 (keys_of (s ∷ more)) rising in
    (omega (arith, above.0, rest.0), rest)

pub next-last : (rows : Rows) (n : ℕ) → Some n ≡ next_id rows → IsRising rows → AllBelow n (keys_of rows)
next-last rows n next rising =
    let step : (b : Bool) → nat_eq (last_id rows) greatest_id ≡ b → AllBelow n (keys_of rows) =
    elim [
      | true ↦ λ is. let none : Some n ≡ None = rw is at next in absurd cc
      | false ↦ λ off. let some : Some n ≡ Some (last_id rows + 1) = rw off at next in let same : n ≡ last_id rows + 1 = cc in subst (λ m. AllBelow m (keys_of rows)) (sym same) (all-last rows rising)
    ] in
    step (nat_eq (last_id rows) greatest_id) refl

-- ---- the ids of items that are given

pub numbers-of : (given : List (ItemId × ℕ × FullItem)) → map (λ row. row.0.0) given ≡ keys_of (map row_of given)
numbers-of [] = refl
numbers-of (row ∷ more) = ap (λ t. row.0.0 ∷ t) (numbers-of more)

-- ---- rising rows are determined by the row of each id

at-below : (rows : Rows) (n : ℕ) → AllAbove n (keys_of rows) → row_at n rows ≡ None
at-below [] n above = refl
at-below (row ∷ more) n above = rw (apart n row.0 above.0) (at-below more n above.1)

row-below : (x y : ℕ × Row) (xs ys : Rows) → IsRising (y ∷ ys) → ((z : ℕ) → row_at z (x ∷ xs) ≡ row_at z (y ∷ ys)) → x.0 < y.0 → ⊥
row-below x y xs ys ry h lt =
    let some : row_at x.0 (x ∷ xs) ≡ Some x.1 = rw (itself x.0) refl in
    let none : row_at x.0 ys ≡ None = at-below ys x.0 (further x.0 y.0 (keys_of ys) lt (above-head y.0 (keys_of ys) ry)) in
    let lacks : row_at x.0 (y ∷ ys) ≡ None = rw (apart x.0 y.0 lt) none in
    let e : Some x.1 ≡ None = sym some ∙ h x.0 ∙ lacks in
    absurd cc

row-tails : (x y : ℕ × Row) (xs ys : Rows) → x.0 ≡ y.0 → IsRising (x ∷ xs) → IsRising (y ∷ ys) → ((z : ℕ) → row_at z (x ∷ xs) ≡ row_at z (y ∷ ys)) → (z : ℕ) → row_at z xs ≡ row_at z ys
row-tails x y xs ys same rx ry h z =
    ⊎_elim
    (λ is.
    let at_x : x.0 ≡ z = sym (eqb-true z x.0 is) in
    let one : row_at z xs ≡ None = subst (λ n. row_at n xs ≡ None) at_x (at-below xs x.0 (above-head x.0 (keys_of xs) rx)) in
    let other : row_at z ys ≡ None = subst (λ n. row_at n ys ≡ None) (sym same ∙ at_x) (at-below ys y.0 (above-head y.0 (keys_of ys) ry)) in
    one ∙ sym other)
    (λ off.
    let off_y : (z == y.0) ≡ false = subst (λ n. (z == n) ≡ false) same off in
    let here : row_at z (x ∷ xs) ≡ row_at z (y ∷ ys) = h z in
    rw (off, off_y) at here)
    (cases_Bool (z == x.0))

pub rows-same : (xs ys : Rows) → IsRising xs → IsRising ys → ((z : ℕ) → row_at z xs ≡ row_at z ys) → xs ≡ ys
rows-same [] [] rx ry h = refl
rows-same [] (y ∷ ys) rx ry h = let e : None ≡ Some y.1 = h y.0 ∙ rw (itself y.0) refl in absurd cc
rows-same (x ∷ xs) [] rx ry h = let e : None ≡ Some x.1 = sym (h x.0) ∙ rw (itself x.0) refl in absurd cc
rows-same (x ∷ xs) (y ∷ ys) rx ry h =
    elim (cases_order x.0 y.0) [
      | inl same ↦
          let rest = rows-same xs ys (sorted_tail nat_cmp x.0 (keys_of xs) rx) (sorted_tail nat_cmp y.0 (keys_of ys) ry) (row-tails x y xs ys same rx ry h) in
          let at : row_at x.0 (y ∷ ys) ≡ Some y.1 = subst (λ n. row_at n (y ∷ ys) ≡ Some y.1) (sym same) (rw (itself y.0) refl) in
          let some : row_at x.0 (x ∷ xs) ≡ Some x.1 = rw (itself x.0) refl in
          let found : Some x.1 ≡ Some y.1 = sym some ∙ h x.0 ∙ at in
          let rows : x.1 ≡ y.1 = cc in
          λ i. (same i, rows i) ∷ rest i
      | inr other ↦ elim other [
        | inl below ↦ absurd (row-below x y xs ys ry h below)
        | inr above ↦ absurd (row-below y x ys xs rx (λ z. sym (h z)) above)
      ]
    ]

-- ---- a row that is changed back

changed-again : (id : ℕ) (f g : Row → Row) (rows : Rows) (row : Row) → IsRising rows → row_at id rows ≡ Some row → g (f row) ≡ row → rows_changed id g (rows_changed id f rows) ≡ rows
changed-again id f g [] row rising there back = refl
changed-again id f g (r ∷ more) row rising there back =
    let step : (b : Bool) → (id == r.0) ≡ b → rows_changed id g (rows_changed id f (r ∷ more)) ≡ r ∷ more =
    elim [
      | true ↦ λ is.
          let this : (r.0 == id) ≡ true = turned r.0 id ∙ is in
          let found : Some r.1 ≡ Some row = rw is at there in
          let same : r.1 ≡ row = cc in
          let above = above-this id r more rising is in
          let rest : rows_changed id g (rows_changed id f more) ≡ more = ap (rows_changed id g) (changed-above id f more above) ∙ changed-above id g more above in
          let own : g (f r.1) ≡ r.1 = ap (λ x. g (f x)) same ∙ back ∙ sym same in
          rw (this, this) (λ i. (r.0, own i) ∷ rest i)
      | false ↦ λ off.
          let other : (r.0 == id) ≡ false = turned r.0 id ∙ off in
          let later : row_at id more ≡ Some row = rw off at there in
          rw (other, other) (ap (λ t. r ∷ t) (changed-again id f g more row (sorted_tail nat_cmp r.0 (keys_of more) rising) later back))
    ] in
    step (id == r.0) refl

-- what brings a row back brings the rows back
pub changed-back : (id : ℕ) (f g : Row → Row) (rows new : Rows) (row : Row) → IsRising rows → row_at id rows ≡ Some row → new ≡ rows_changed id f rows → g (f row) ≡ row → rows_changed id g new ≡ rows
changed-back id f g rows new row rising there set back = ap (rows_changed id g) set ∙ changed-again id f g rows row rising there back
