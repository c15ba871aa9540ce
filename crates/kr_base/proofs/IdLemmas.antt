-- Ids in rising order: what is below an id, what is above it, and one that is inserted or removed.
use Rattle.std.proofs.Common.{◌≡◌, ℕ, ◌+◌, ◌-◌, ◌<◌, ◌≤◌, ◌==◌, ◌||◌, Less, suc, Result, Ok, Err, Bool, true, false, not, nat_lt, List, [], ◌∷◌, ◌++◌, length, filter, take, drop, get_or, refl, sym, ap, subst, ◌∙◌, arith}
use Rattle.std.specs.List.{AllByRecursion, insert, remove}
use Rattle.std.specs.List.Sorted.{IsStrictlySortedBy, IsBinarySearchResult}
use Rattle.std.specs.Ordering.{nat_cmp}
use Rattle.std.proofs.lemmas.Bool.{lt-ltb, le-ltb, ltb-true}
use Rattle.std.proofs.lemmas.Bool.Decides.{nat_tests}
use Rattle.std.proofs.lemmas.List.{append-nil, append_assoc, take-append-drop, drop_more, length-take-le, length-drop, get_or-take, get_or-drop}
use Rattle.std.proofs.lemmas.List.Elements.{filter-append, All-from_get_or, recursion_from_All}
use Rattle.std.proofs.lemmas.List.Folds.{list_any-append}
use Rattle.std.proofs.lemmas.List.Kept.{IsStrictlySortedBy-filter}
use Rattle.std.proofs.lemmas.List.Sorted.{searched}
use Rattle.std.proofs.lemmas.Map.Keys.{sorted_head, sorted_tail, non_decreasing_from_sorted}
use Rattle.kr_base.specs.IdLists.{IsIdList, has_id, with_id, without_id}

or_false : (b : Bool) → (b || false) ≡ b
or_false true = refl
or_false false = refl

abbrev pub Rises : List ℕ → Type 0
Rises ids = IsStrictlySortedBy nat_cmp ids

abbrev pub AllBelow : ℕ → List ℕ → Type 0
AllBelow id ids = AllByRecursion (λ x. x < id) ids

abbrev pub AllAbove : ℕ → List ℕ → Type 0
AllAbove id ids = AllByRecursion (λ x. id < x) ids

below_from_less : (a b : ℕ) → nat_cmp a b ≡ Less → a < b
below_from_less a b e = grind (arith, nat_tests)

pub less_from_below : (a b : ℕ) → a < b → nat_cmp a b ≡ Less
less_from_below a b e = grind (arith, nat_tests)

-- ---- rising lists

pub all-weaker : (P Q : ℕ → Type 0) → ((x : ℕ) → P x → Q x) → (xs : List ℕ) → AllByRecursion P xs → AllByRecursion Q xs
all-weaker P Q f [] h = tt
all-weaker P Q f (x ∷ xs) h = (f x h.0, all-weaker P Q f xs h.1)

pub all-append : (P : ℕ → Type 0) (xs ys : List ℕ) → AllByRecursion P xs → AllByRecursion P ys → AllByRecursion P (xs ++ ys)
all-append P [] ys g h = h
all-append P (x ∷ xs) ys g h = (g.0, all-append P xs ys g.1 h)

pub all-left : (P : ℕ → Type 0) (xs ys : List ℕ) → AllByRecursion P (xs ++ ys) → AllByRecursion P xs
all-left P [] ys h = tt
all-left P (x ∷ xs) ys h = (h.0, all-left P xs ys h.1)

pub all-right : (P : ℕ → Type 0) (xs ys : List ℕ) → AllByRecursion P (xs ++ ys) → AllByRecursion P ys
all-right P [] ys h = h
all-right P (x ∷ xs) ys h = all-right P xs ys h.1

pub all-filter : (P : ℕ → Type 0) (p : ℕ → Bool) (xs : List ℕ) → AllByRecursion P xs → AllByRecursion P (filter p xs)
all-filter P p [] h = tt
all-filter P p (x ∷ xs) h =
    let step : (b : Bool) → p x ≡ b → AllByRecursion P (filter p (x ∷ xs)) =
    elim [
      | true ↦ λ is. rw is (h.0, all-filter P p xs h.1)
      | false ↦ λ is. rw is (all-filter P p xs h.1)
    ] in
    step (p x) refl

pub above-head : (y : ℕ) (ys : List ℕ) → Rises (y ∷ ys) → AllAbove y ys
above-head y ys h = all-weaker (λ x. nat_cmp y x ≡ Less) (λ x. y < x) (below_from_less y) ys (sorted_head nat_cmp y ys h)

pub rises-right : (xs ys : List ℕ) → Rises (xs ++ ys) → Rises ys
rises-right [] ys h = h
rises-right (x ∷ xs) ys h = rises-right xs ys (sorted_tail nat_cmp x (xs ++ ys) h)

pub rises-left : (xs ys : List ℕ) → Rises (xs ++ ys) → Rises xs
unfolding IsStrictlySortedBy
rises-left [] ys h = tt
rises-left (x ∷ xs) ys h = (all-left (λ y. nat_cmp x y ≡ Less) xs ys h.0, rises-left xs ys h.1)

pub below-middle : (xs : List ℕ) (y : ℕ) (ys : List ℕ) → Rises (xs ++ y ∷ ys) → AllBelow y xs
below-middle [] y ys h = tt
below-middle (x ∷ xs) y ys h =
    let more : AllAbove x (xs ++ y ∷ ys) = above-head x (xs ++ y ∷ ys) h in
    ((all-right (λ z. x < z) xs (y ∷ ys) more).0, below-middle xs y ys (sorted_tail nat_cmp x (xs ++ y ∷ ys) h))

-- two rising lists with an id between them
pub rises-joined : (xs : List ℕ) (id : ℕ) (ys : List ℕ) → Rises xs → AllBelow id xs → Rises ys → AllAbove id ys → Rises (xs ++ id ∷ ys)
unfolding IsStrictlySortedBy
rises-joined [] id ys r b s a = (all-weaker (λ x. id < x) (λ x. nat_cmp id x ≡ Less) (less_from_below id) ys a, s)
rises-joined (x ∷ xs) id ys r b s a =
    let later = all-weaker (λ z. id < z) (λ z. nat_cmp x z ≡ Less) (λ z lt. less_from_below x z (omega (arith, b.0, lt))) ys a in
    (all-append (λ z. nat_cmp x z ≡ Less) xs (id ∷ ys) r.0 (less_from_below x id b.0, later), rises-joined xs id ys r.1 b.1 s a)

-- ---- filters of what is below and above

pub lower-below : (id : ℕ) (xs : List ℕ) → AllBelow id xs → filter (λ x. nat_lt x id) xs ≡ xs
lower-below id [] h = refl
lower-below id (x ∷ xs) h = rw (lt-ltb x id h.0) (ap (λ t. x ∷ t) (lower-below id xs h.1))

pub upper-below : (id : ℕ) (xs : List ℕ) → AllBelow id xs → filter (λ x. nat_lt id x) xs ≡ []
upper-below id [] h = refl
upper-below id (x ∷ xs) h = rw (le-ltb id x (omega (arith, h.0))) (upper-below id xs h.1)

pub lower-above : (id : ℕ) (xs : List ℕ) → AllAbove id xs → filter (λ x. nat_lt x id) xs ≡ []
lower-above id [] h = refl
lower-above id (x ∷ xs) h = rw (le-ltb x id (omega (arith, h.0))) (lower-above id xs h.1)

pub upper-above : (id : ℕ) (xs : List ℕ) → AllAbove id xs → filter (λ x. nat_lt id x) xs ≡ xs
upper-above id [] h = refl
upper-above id (x ∷ xs) h = rw (lt-ltb id x h.0) (ap (λ t. x ∷ t) (upper-above id xs h.1))

abbrev pub AllOther : ℕ → List ℕ → Type 0
AllOther id ids = AllByRecursion (λ x. (x == id) ≡ false) ids

pub other-below : (id : ℕ) (xs : List ℕ) → AllBelow id xs → AllOther id xs
other-below id xs h = all-weaker (λ x. x < id) (λ x. (x == id) ≡ false) (λ x lt. grind (arith, nat_tests)) xs h

pub other-above : (id : ℕ) (xs : List ℕ) → AllAbove id xs → AllOther id xs
other-above id xs h = all-weaker (λ x. id < x) (λ x. (x == id) ≡ false) (λ x lt. grind (arith, nat_tests)) xs h

pub without-other : (id : ℕ) (xs : List ℕ) → AllOther id xs → without_id id xs ≡ xs
without-other id [] h = refl
without-other id (x ∷ xs) h = rw h.0 (ap (λ t. x ∷ t) (without-other id xs h.1))

pub has-other : (id : ℕ) (xs : List ℕ) → AllOther id xs → has_id xs id ≡ false
has-other id [] h = refl
has-other id (x ∷ xs) h = rw h.0 (has-other id xs h.1)

pub all-lower : (id : ℕ) (xs : List ℕ) → AllBelow id (filter (λ x. nat_lt x id) xs)
all-lower id [] = tt
all-lower id (x ∷ xs) =
    let step : (b : Bool) → nat_lt x id ≡ b → AllBelow id (filter (λ y. nat_lt y id) (x ∷ xs)) =
    elim [
      | true ↦ λ is. rw is (ltb-true x id is, all-lower id xs)
      | false ↦ λ is. rw is (all-lower id xs)
    ] in
    step (nat_lt x id) refl

pub all-upper : (id : ℕ) (xs : List ℕ) → AllAbove id (filter (λ x. nat_lt id x) xs)
all-upper id [] = tt
all-upper id (x ∷ xs) =
    let step : (b : Bool) → nat_lt id x ≡ b → AllAbove id (filter (λ y. nat_lt id y) (x ∷ xs)) =
    elim [
      | true ↦ λ is. rw is (ltb-true id x is, all-upper id xs)
      | false ↦ λ is. rw is (all-upper id xs)
    ] in
    step (nat_lt id x) refl

-- ---- an id between the others

itself : (id : ℕ) → (id == id) ≡ true
itself id = grind (arith, nat_tests)

not_less : (id : ℕ) → nat_lt id id ≡ false
not_less id = grind (arith, nat_tests)

module _ (id : ℕ) (xs ys : List ℕ) (b : AllBelow id xs) (a : AllAbove id ys) where
  pub with-gap : with_id id (xs ++ ys) ≡ xs ++ id ∷ ys
  with-gap =
      let low = filter-append (λ x. nat_lt x id) xs ys in
      let high = filter-append (λ x. nat_lt id x) xs ys in
      rw (low, high, lower-below id xs b, lower-above id ys a, upper-below id xs b, upper-above id ys a) (ap (λ t. t ++ id ∷ ys) (append-nil xs))

  pub with-there : with_id id (xs ++ id ∷ ys) ≡ xs ++ id ∷ ys
  with-there =
      let low = filter-append (λ x. nat_lt x id) xs (id ∷ ys) in
      let high = filter-append (λ x. nat_lt id x) xs (id ∷ ys) in
      rw (low, high, not_less id, lower-below id xs b, lower-above id ys a, upper-below id xs b, upper-above id ys a) (ap (λ t. t ++ id ∷ ys) (append-nil xs))

  pub without-gap : without_id id (xs ++ ys) ≡ xs ++ ys
  without-gap = without-other id (xs ++ ys) (all-append (λ x. (x == id) ≡ false) xs ys (other-below id xs b) (other-above id ys a))

  pub without-there : without_id id (xs ++ id ∷ ys) ≡ xs ++ ys
  without-there =
      let parts = filter-append (λ x. not (x == id)) xs (id ∷ ys) in
      rw (parts, itself id, without-other id xs (other-below id xs b), without-other id ys (other-above id ys a)) refl

  pub has-gap : has_id (xs ++ ys) id ≡ false
  has-gap = has-other id (xs ++ ys) (all-append (λ x. (x == id) ≡ false) xs ys (other-below id xs b) (other-above id ys a))

  pub has-there : has_id (xs ++ id ∷ ys) id ≡ true
  has-there =
      let parts = list_any-append (λ x. x == id) xs (id ∷ ys) in
      rw (parts, has-other id xs (other-below id xs b), itself id) refl

-- ---- what is between ids that are below and ids that are above

module _ (id : ℕ) (xs middle ys : List ℕ) (b : AllBelow id xs) (a : AllAbove id ys) where
  pub with-within : with_id id (xs ++ (middle ++ ys)) ≡ xs ++ (with_id id middle ++ ys)
  with-within =
      let low = filter-append (λ x. nat_lt x id) xs (middle ++ ys) in
      let low_more = filter-append (λ x. nat_lt x id) middle ys in
      let high = filter-append (λ x. nat_lt id x) xs (middle ++ ys) in
      let high_more = filter-append (λ x. nat_lt id x) middle ys in
      let low_all : filter (λ x. nat_lt x id) (xs ++ (middle ++ ys)) ≡ xs ++ filter (λ x. nat_lt x id) middle =
      rw (low, low_more, lower-below id xs b, lower-above id ys a) (ap (λ t. xs ++ t) (append-nil (filter (λ x. nat_lt x id) middle))) in
      let high_all : filter (λ x. nat_lt id x) (xs ++ (middle ++ ys)) ≡ filter (λ x. nat_lt id x) middle ++ ys =
      rw (high, high_more, upper-below id xs b, upper-above id ys a) refl in
      rw (low_all, high_all)
      (append_assoc xs (filter (λ x. nat_lt x id) middle) (id ∷ (filter (λ x. nat_lt id x) middle ++ ys))
      ∙ ap (λ t. xs ++ t) (sym (append_assoc (filter (λ x. nat_lt x id) middle) (id ∷ filter (λ x. nat_lt id x) middle) ys)))

  pub without-within : without_id id (xs ++ (middle ++ ys)) ≡ xs ++ (without_id id middle ++ ys)
  without-within =
      let parts = filter-append (λ x. not (x == id)) xs (middle ++ ys) in
      let more = filter-append (λ x. not (x == id)) middle ys in
      rw (parts, more, without-other id xs (other-below id xs b), without-other id ys (other-above id ys a)) refl

  pub has-within : has_id (xs ++ (middle ++ ys)) id ≡ has_id middle id
  has-within =
      let parts = list_any-append (λ x. x == id) xs (middle ++ ys) in
      let more = list_any-append (λ x. x == id) middle ys in
      rw (parts, more, has-other id xs (other-below id xs b), has-other id ys (other-above id ys a)) (or_false (has_id middle id))

-- ---- what a binary search found

at_place : (ids : List ℕ) (place id : ℕ) → place < length ids → get_or ids place 0 ≡ id → ids ≡ take place ids ++ id ∷ drop (place + 1) ids
at_place ids place id in_range is =
    sym (take-append-drop place ids) ∙ ap (λ t. take place ids ++ t) (drop_more ids place 0 in_range ∙ ap (λ x. x ∷ drop (place + 1) ids) is)

module _ (ids : List ℕ) (rises : Rises ids) (place id : ℕ) (in_range : place < length ids) (is : get_or ids place 0 ≡ id) where
  split : ids ≡ take place ids ++ id ∷ drop (place + 1) ids
  split = at_place ids place id in_range is

  rises-split : Rises (take place ids ++ id ∷ drop (place + 1) ids)
  rises-split = subst Rises split rises

  low : AllBelow id (take place ids)
  low = below-middle (take place ids) id (drop (place + 1) ids) rises-split

  high : AllAbove id (drop (place + 1) ids)
  high = above-head id (drop (place + 1) ids) (rises-right (take place ids) (id ∷ drop (place + 1) ids) rises-split)

  pub with-found : ids ≡ with_id id ids
  with-found = sym (ap (with_id id) split ∙ with-there id (take place ids) (drop (place + 1) ids) low high ∙ sym split)

  pub has-found : true ≡ has_id ids id
  has-found = sym (ap (λ t. has_id t id) split ∙ has-there id (take place ids) (drop (place + 1) ids) low high)

  pub without-found : remove ids place ≡ without_id id ids
  without-found =
      let next : suc place ≡ place + 1 = omega arith in
      rw next (sym (ap (without_id id) split ∙ without-there id (take place ids) (drop (place + 1) ids) low high))

module _ (ids : List ℕ) (place id : ℕ) (within : place ≤ length ids) (below : (k : ℕ) → k < place → get_or ids k 0 < id) (above : (k : ℕ) → place ≤ k → k < length ids → id < get_or ids k 0) where
  gap-low : AllBelow id (take place ids)
  gap-low =
      let size = length-take-le place ids within in
      recursion_from_All (λ x. x < id) (take place ids) (All-from_get_or (λ x. x < id) (take place ids) 0
      (λ i lt. let in_range : i < place = omega (arith, lt, size) in rw (get_or-take place ids i 0 in_range) (below i in_range)))

  gap-high : AllAbove id (drop place ids)
  gap-high =
      let size = length-drop place ids in
      recursion_from_All (λ x. id < x) (drop place ids) (All-from_get_or (λ x. id < x) (drop place ids) 0
      (λ i lt. rw (get_or-drop place ids i 0) (above (place + i) (omega arith) (omega (arith, lt, size)))))

  whole : take place ids ++ drop place ids ≡ ids
  whole = take-append-drop place ids

  pub with-new : insert ids place id ≡ with_id id ids
  with-new = sym (ap (with_id id) (sym whole) ∙ with-gap id (take place ids) (drop place ids) gap-low gap-high)

  pub has-none : false ≡ has_id ids id
  has-none = sym (ap (λ t. has_id t id) (sym whole) ∙ has-gap id (take place ids) (drop place ids) gap-low gap-high)

  pub without-none : ids ≡ without_id id ids
  without-none = sym (ap (without_id id) (sym whole) ∙ without-gap id (take place ids) (drop place ids) gap-low gap-high ∙ whole)

abbrev pub Sought : List ℕ → ℕ → Result ℕ ℕ → Type 0
Sought ids id found = IsBinarySearchResult (λ y. nat_cmp y id) ids found

hit : (ids : List ℕ) (id i : ℕ) → Rises ids → Sought ids id (Ok i) → (i < length ids) × (get_or ids i 0 ≡ id)
hit ids id i rises found = searched ids id (Ok i) found (λ j k le lt. non_decreasing_from_sorted ids rises j k 0 le lt)

miss : (ids : List ℕ) (id i : ℕ) → Rises ids → Sought ids id (Err i) → (i ≤ length ids) × ((k : ℕ) → k < i → get_or ids k 0 < id) × ((k : ℕ) → i ≤ k → k < length ids → id < get_or ids k 0)
miss ids id i rises found = searched ids id (Err i) found (λ j k le lt. non_decreasing_from_sorted ids rises j k 0 le lt)

pub has-hit : (ids : List ℕ) (id i : ℕ) → Rises ids → Sought ids id (Ok i) → true ≡ has_id ids id
has-hit ids id i rises found = let at = hit ids id i rises found in has-found ids rises i id at.0 at.1

pub has-miss : (ids : List ℕ) (id i : ℕ) → Rises ids → Sought ids id (Err i) → false ≡ has_id ids id
has-miss ids id i rises found = let at = miss ids id i rises found in has-none ids i id at.0 at.1 at.2

pub with-hit : (ids : List ℕ) (id i : ℕ) → Rises ids → Sought ids id (Ok i) → ids ≡ with_id id ids
with-hit ids id i rises found = let at = hit ids id i rises found in with-found ids rises i id at.0 at.1

pub with-miss : (ids : List ℕ) (id i : ℕ) → Rises ids → Sought ids id (Err i) → insert ids i id ≡ with_id id ids
with-miss ids id i rises found = let at = miss ids id i rises found in with-new ids i id at.0 at.1 at.2

pub without-hit : (ids : List ℕ) (id i : ℕ) → Rises ids → Sought ids id (Ok i) → remove ids i ≡ without_id id ids
without-hit ids id i rises found = let at = hit ids id i rises found in without-found ids rises i id at.0 at.1

pub without-miss : (ids : List ℕ) (id i : ℕ) → Rises ids → Sought ids id (Err i) → ids ≡ without_id id ids
without-miss ids id i rises found = let at = miss ids id i rises found in without-none ids i id at.0 at.1 at.2

-- ---- an id after all others

last-above : (x : ℕ) (xs : List ℕ) (id d : ℕ) → Rises (x ∷ xs) → get_or (x ∷ xs) (length xs) d < id → AllBelow id (x ∷ xs)
last-above x [] id d rises lt = (lt, tt)
last-above x (y ∷ ys) id d rises lt =
    let rest = last-above y ys id d (rises-right (x ∷ []) (y ∷ ys) rises) lt in
    let less = (above-head x (y ∷ ys) rises).0 in
    (omega (arith, rest.0, less), rest)

with-below : (id : ℕ) (ids : List ℕ) → AllBelow id ids → with_id id ids ≡ ids ++ id ∷ []
with-below id ids below = ap (with_id id) (sym (append-nil ids)) ∙ with-gap id ids [] below tt

pub with-last : (ids : List ℕ) (id last : ℕ) → Rises ids → 0 < length ids → last ≡ get_or ids (length ids - 1) last → nat_lt last id ≡ true → with_id id ids ≡ ids ++ id ∷ []
with-last [] id last rises some is less = absurd (omega (arith, some))
with-last (x ∷ xs) id last rises some is less =
    let at : length (x ∷ xs) - 1 ≡ length xs = omega arith in
    let end : get_or (x ∷ xs) (length xs) last < id = subst (λ n. n < id) (is ∙ ap (λ n. get_or (x ∷ xs) n last) at) (ltb-true last id less) in
    with-below id (x ∷ xs) (last-above x xs id last rises end)

-- ---- what stays true

pub small-with : (id : ℕ) (ids : List ℕ) → id < 4294967296 → IsIdList ids → IsIdList (with_id id ids)
small-with id ids fits is = record {
  rising = rises-joined (filter (λ x. nat_lt x id) ids) id (filter (λ x. nat_lt id x) ids)
      (IsStrictlySortedBy-filter nat_cmp (λ x. nat_lt x id) ids is.rising) (all-lower id ids)
      (IsStrictlySortedBy-filter nat_cmp (λ x. nat_lt id x) ids is.rising) (all-upper id ids);
  small = all-append (λ x. x < 4294967296) (filter (λ x. nat_lt x id) ids) (id ∷ filter (λ x. nat_lt id x) ids)
      (all-filter (λ x. x < 4294967296) (λ x. nat_lt x id) ids is.small)
      (fits, all-filter (λ x. x < 4294967296) (λ x. nat_lt id x) ids is.small);
}

pub small-without : (id : ℕ) (ids : List ℕ) → IsIdList ids → IsIdList (without_id id ids)
small-without id ids is = record {
  rising = IsStrictlySortedBy-filter nat_cmp (λ x. not (x == id)) ids is.rising;
  small = all-filter (λ x. x < 4294967296) (λ x. not (x == id)) ids is.small;
}

-- there are no more ids than there are numbers of 32 bits
pub few-above : (most from : ℕ) (ids : List ℕ) → from ≤ most → Rises ids → AllByRecursion (λ x. from ≤ x) ids → AllByRecursion (λ x. x < most) ids → from + length ids ≤ most
few-above most from [] le r low high = omega (arith, le)
few-above most from (x ∷ xs) le r low high =
    let above : AllByRecursion (λ y. x + 1 ≤ y) xs = all-weaker (λ y. x < y) (λ y. x + 1 ≤ y) (λ y lt. omega (arith, lt)) xs (above-head x xs r) in
    let rest : (x + 1) + length xs ≤ most = few-above most (x + 1) xs (omega (arith, high.0)) (sorted_tail nat_cmp x xs r) above high.1 in
    omega (arith, low.0, rest)

all-any : (ids : List ℕ) → AllByRecursion (λ x. 0 ≤ x) ids
all-any [] = tt
all-any (x ∷ xs) = (omega arith, all-any xs)

pub few : (ids : List ℕ) → IsIdList ids → length ids ≤ 4294967296
few ids is = omega (arith, few-above 4294967296 0 ids (omega arith) is.rising (all-any ids) is.small)
