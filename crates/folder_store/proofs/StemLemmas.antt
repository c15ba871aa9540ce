-- The stems of a folder: which are used, that no two collections have the same, and their order.
use Rattle.std.proofs.Common.{◌≡◌, ◌⊎◌, ⊎_elim, inl, inr, ℕ, ◌+◌, ◌<◌, List, [], ◌∷◌, ◌++◌, false, length, map, get_or, refl, sym, ◌∙◌, ap, subst, arith}
use Rattle.std.specs.Cmp.Lexicographic.{slice_cmp, nat_list_cmp_total}
use Rattle.std.specs.List.{Contains, AllByRecursion, IsDistinct, list_any}
use Rattle.std.specs.List.Sorted.{IsPermutation, IsSortedByKey, IsStrictlySortedBy}
use Rattle.std.specs.Map.{keys_of}
use Rattle.std.specs.Ordering.{nat_cmp, is_eq, is_lt, ordering_reverse}
use Rattle.std.specs.declared.cmp.Ordering.{Ordering}
use Rattle.std.specs.declared.cmp.Ordering.TheVariants.{Less, Equal, Greater}
use Rattle.std.proofs.lemmas.Bool.{cases_Bool}
use Rattle.std.proofs.lemmas.Cmp.{eq_by_cmp_equiv, tied_itself}
use Rattle.std.proofs.lemmas.List.{get_or-map, length-map}
use Rattle.std.proofs.lemmas.List.Elements.{Contains-append_left, Contains-append_cases, Contains-push}
use Rattle.std.proofs.lemmas.List.Sorted.{IsPermutation-map}
use Rattle.std.proofs.lemmas.Map.Keys.{IsDistinct-push, IsDistinct-IsPermutation, apart_from_distinct, sorted_from_all_adjacent}
use Rattle.std.proofs.lemmas.Map.Views.{All-before_last, Contains-from_any}
use Rattle.kr_base.specs.Attributes.{is_name, IsInOrder}
use Rattle.folder_store.specs.declared.limits.Limits.{Limits}
use Rattle.folder_store.specs.Names.{ending, IsRingName}
use Rattle.folder_store.specs.Opened.{RingRow, Opening, Opens, Takes, IsByStem, none, more, other, left_alone, listed}
use Rattle.folder_store.specs.Ring.{RingState, row_of, rows_of}
use Rattle.folder_store.proofs.NameLemmas.{one_front}
use Rattle.folder_store.proofs.OpenedLemmas.{by_name, cons_cases, keys_push}
use Rattle.folder_store.proofs.WalkLemmas.{still_used}

-- the stems of the collections that are listed
abbrev stems : List RingRow → List (List ℕ)
stems rings = map (λ (r : RingRow). r.stem) rings

stems_push : (rings : List RingRow) (ring : RingRow) → stems (rings ++ ring ∷ []) ≡ stems rings ++ ring.stem ∷ []
stems_push [] ring = refl
stems_push (first ∷ rings) ring = ap (λ l. first.stem ∷ l) (stems_push rings ring)

-- a name has only one stem
pub one_stem : (name stem second : List ℕ) → IsRingName name stem → IsRingName name second → stem ≡ second
one_stem name stem second is is_second = one_front stem second ending (sym is.spelled ∙ is_second.spelled)

-- what a list of one element contains is that element
only : (x y : List ℕ) → Contains (y ∷ []) x → x ≡ y
only x y has = ⊎_elim (λ same. same) (λ (later : Contains [] x). absurd (omega (arith, later.1))) (cons_cases y [] x has)

-- ---- the stems that are used

used_step : (limits : Limits) (name image : List ℕ) (opening next : Opening) → Takes limits name image opening next → (stem : List ℕ) → IsRingName name stem → Contains next.used stem
used_step limits name image opening _ (other off) stem is = absurd (off stem is)
used_step limits name image opening _ (left_alone s named off) stem is =
    subst (λ x. Contains (opening.used ++ s ∷ []) x) (one_stem name s stem named is) (Contains-push opening.used s)
used_step limits name image opening _ (listed s clear named reads fits) stem is =
    subst (λ x. Contains (opening.used ++ s ∷ []) x) (one_stem name s stem named is) (Contains-push opening.used s)

-- the stem of each keyring file is used
pub used_stem : (limits : Limits) (files : List (List ℕ × List ℕ)) (opening : Opening) → Opens limits files opening
    → (name stem : List ℕ) → Contains (keys_of files) name → IsRingName name stem → Contains opening.used stem
used_stem limits _ _ none name stem has is = absurd (omega (arith, has.1))
used_stem limits _ _ (more files opening next last image opens takes) name stem has is = ⊎_elim
    (λ before. still_used limits last image opening next takes stem (used_stem limits files opening opens name stem before is))
    (λ here. used_step limits last image opening next takes stem (subst (λ n. IsRingName n stem) (only name last here) is))
    (Contains-append_cases (keys_of files) (last ∷ []) name (subst (λ l. Contains l name) (keys_push files (last, image)) has))

-- ---- no stem twice

rings_step : (limits : Limits) (name image : List ℕ) (opening next : Opening) → Takes limits name image opening next
    → (stem : List ℕ) → Contains (stems next.rings) stem → Contains (stems opening.rings) stem ⊎ IsRingName name stem
rings_step limits name image opening _ (other off) stem has = inl has
rings_step limits name image opening _ (left_alone s named off) stem has = inl has
rings_step limits name image opening _ (listed s clear named reads fits) stem has = ⊎_elim
    (λ before. inl before)
    (λ here. inr (subst (λ x. IsRingName name x) (sym (only stem s here)) named))
    (Contains-append_cases (stems opening.rings) (s ∷ []) stem
    (subst (λ l. Contains l stem) (stems_push opening.rings (record { stem = s; clear = clear; image = image })) has))

-- the file of a listed collection is among the files
ring_named : (limits : Limits) (files : List (List ℕ × List ℕ)) (opening : Opening) → Opens limits files opening
    → (stem : List ℕ) → Contains (stems opening.rings) stem → Contains (keys_of files) (stem ++ ending)
ring_named limits _ _ none stem has = absurd (omega (arith, has.1))
ring_named limits _ _ (more files opening next last image opens takes) stem has =
    subst (λ l. Contains l (stem ++ ending)) (sym (keys_push files (last, image))) (⊎_elim
    (λ before. Contains-append_left (keys_of files) (last ∷ []) (stem ++ ending) (ring_named limits files opening opens stem before))
    (λ (is : IsRingName last stem). subst (λ x. Contains (keys_of files ++ last ∷ []) x) is.spelled (Contains-push (keys_of files) last))
    (rings_step limits last image opening next takes stem has))

-- a text that isn't in the list equals none of its elements
none_equal : (x : List ℕ) (xs : List (List ℕ)) → ¬ (Contains xs x) → list_any (is_name x) xs ≡ false
none_equal x xs off = ⊎_elim
    (λ any. absurd (off (Contains-from_any by_name x xs any)))
    (λ no. no)
    (cases_Bool (list_any (is_name x) xs))

once_step : (limits : Limits) (name image : List ℕ) (opening next : Opening) → Takes limits name image opening next
    → ((stem : List ℕ) → Contains (stems opening.rings) stem → ¬ (IsRingName name stem))
    → IsDistinct is_name (stems opening.rings) → IsDistinct is_name (stems next.rings)
once_step limits name image opening _ (other off) new before = before
once_step limits name image opening _ (left_alone s named off) new before = before
once_step limits name image opening _ (listed s clear named reads fits) new before =
    subst (λ l. IsDistinct is_name l) (sym (stems_push opening.rings (record { stem = s; clear = clear; image = image })))
    (IsDistinct-push (eq_by_cmp_equiv nat_list_cmp_total) (stems opening.rings) s before (none_equal s (stems opening.rings) (λ has. new s has named)))

-- the keys before the last one
front_all : (P : List ℕ → Type 0) (xs : List (List ℕ)) (y : List ℕ) → AllByRecursion P (xs ++ y ∷ []) → AllByRecursion P xs
front_all P [] y all = tt
front_all P (x ∷ xs) y (here, rest) = (here, front_all P xs y rest)

sorted_front : (xs : List (List ℕ)) (y : List ℕ) → IsStrictlySortedBy (slice_cmp nat_cmp) (xs ++ y ∷ []) → IsStrictlySortedBy (slice_cmp nat_cmp) xs
unfolding IsStrictlySortedBy
sorted_front [] y sorted = tt
sorted_front (x ∷ xs) y (below, rest) = (front_all (λ z. slice_cmp nat_cmp x z ≡ Less) xs y below, sorted_front xs y rest)

-- the last key doesn't occur before
last_new : (xs : List (List ℕ)) (y : List ℕ) → IsStrictlySortedBy (slice_cmp nat_cmp) (xs ++ y ∷ []) → ¬ (Contains xs y)
last_new xs y sorted (k, in_range, is) =
    let less : slice_cmp nat_cmp (get_or xs k y) y ≡ Less = All-before_last (slice_cmp nat_cmp) xs y sorted k y in_range in
    let same : slice_cmp nat_cmp (get_or xs k y) y ≡ Equal = ap (λ x. slice_cmp nat_cmp x y) is ∙ tied_itself nat_list_cmp_total y in
    let wrong : Less ≡ Equal = sym less ∙ same in cc

-- no two collections have the same stem
stems_once : (limits : Limits) (files : List (List ℕ × List ℕ)) (opening : Opening) → Opens limits files opening
    → IsInOrder files → IsDistinct is_name (stems opening.rings)
unfolding IsDistinct
stems_once limits _ _ none ordered = tt
stems_once limits _ _ (more files opening next last image opens takes) ordered =
    let keys : IsStrictlySortedBy (slice_cmp nat_cmp) (keys_of files ++ last ∷ []) = subst (λ l. IsStrictlySortedBy (slice_cmp nat_cmp) l) (keys_push files (last, image)) ordered in
    once_step limits last image opening next takes
    (λ stem has is. last_new (keys_of files) last keys (subst (λ x. Contains (keys_of files) x) (sym is.spelled) (ring_named limits files opening opens stem has)))
    (stems_once limits files opening opens (sorted_front (keys_of files) last keys))

-- ---- the order of the stems

eq_reverse : (o : Ordering) → is_eq (ordering_reverse o) ≡ is_eq o
eq_reverse Less = refl
eq_reverse Equal = refl
eq_reverse Greater = refl

is_name_flips : (x y : List ℕ) → is_name x y ≡ is_name y x
is_name_flips x y = ap is_eq (nat_list_cmp_total.antisymm x y) ∙ eq_reverse (slice_cmp nat_cmp y x)

-- what is neither equal nor after is before
before : (o back : Ordering) → o ≡ ordering_reverse back → is_eq o ≡ false → is_lt back ≡ false → o ≡ Less
before Less back turned apart behind = refl
before Equal back turned apart behind = absurd (let never : ⊥ = cc in never)
before Greater Less turned apart behind = absurd (let never : ⊥ = cc in never)
before Greater Equal turned apart behind = absurd (let never : ⊥ = cc in never)
before Greater Greater turned apart behind = absurd (let never : ⊥ = cc in never)

-- sorted rows with no stem twice are strictly sorted
rising : {R : Type 0} (stem : R → List ℕ) (rows : List R) → IsDistinct is_name (map stem rows) → IsSortedByKey stem (slice_cmp nat_cmp) rows
    → IsStrictlySortedBy (slice_cmp nat_cmp) (map stem rows)
unfolding IsStrictlySortedBy
rising stem [] once sorted = tt
rising stem (first ∷ rest) once sorted = sorted_from_all_adjacent nat_list_cmp_total (map stem (first ∷ rest)) (stem first) (λ k in_range.
    let short : k + 1 < length (first ∷ rest) = subst (λ n. k + 1 < n) (length-map (first ∷ rest) stem) in_range in
    let here : get_or (map stem (first ∷ rest)) k (stem first) ≡ stem (get_or (first ∷ rest) k first) = get_or-map stem (first ∷ rest) k first (stem first) (omega (arith, short)) in
    let next : get_or (map stem (first ∷ rest)) (k + 1) (stem first) ≡ stem (get_or (first ∷ rest) (k + 1) first) = get_or-map stem (first ∷ rest) (k + 1) first (stem first) short in
    let apart : is_name (get_or (map stem (first ∷ rest)) k (stem first)) (get_or (map stem (first ∷ rest)) (k + 1) (stem first)) ≡ false =
    apart_from_distinct is_name (map stem (first ∷ rest)) k (k + 1) (stem first) once (omega arith) in_range in
    let up : is_lt (slice_cmp nat_cmp (stem (get_or (first ∷ rest) (k + 1) first)) (stem (get_or (first ∷ rest) k first))) ≡ false = sorted k first (omega arith) short in
    let behind : is_lt (slice_cmp nat_cmp (get_or (map stem (first ∷ rest)) (k + 1) (stem first)) (get_or (map stem (first ∷ rest)) k (stem first))) ≡ false =
    ap (λ x. is_lt (slice_cmp nat_cmp x (get_or (map stem (first ∷ rest)) k (stem first)))) next
    ∙ ap (λ x. is_lt (slice_cmp nat_cmp (stem (get_or (first ∷ rest) (k + 1) first)) x)) here ∙ up in
    before (slice_cmp nat_cmp (get_or (map stem (first ∷ rest)) k (stem first)) (get_or (map stem (first ∷ rest)) (k + 1) (stem first)))
    (slice_cmp nat_cmp (get_or (map stem (first ∷ rest)) (k + 1) (stem first)) (get_or (map stem (first ∷ rest)) k (stem first)))
    (nat_list_cmp_total.antisymm (get_or (map stem (first ∷ rest)) k (stem first)) (get_or (map stem (first ∷ rest)) (k + 1) (stem first))) apart behind)

-- the same collections, in order of their stems
put_by_stem : {R : Type 0} (stem : R → List ℕ) (rows ordered : List R) → IsDistinct is_name (map stem rows) → IsPermutation rows ordered
    → IsSortedByKey stem (slice_cmp nat_cmp) ordered → IsByStem stem rows ordered
put_by_stem stem rows ordered once same sorted = record {
  same = same;
  rising = rising stem ordered (IsDistinct-IsPermutation is_name is_name_flips (map stem rows) (map stem ordered) (IsPermutation-map stem rows ordered same) once) sorted;
}

stems_of_rows : {S : Type 0} (rings : List (RingState S)) → stems (rows_of rings) ≡ map (λ (r : RingState S). r.stem) rings
stems_of_rows [] = refl
stems_of_rows (ring ∷ rings) = ap (λ l. ring.stem ∷ l) (stems_of_rows rings)

module _ {S : Type 0} (limits : Limits) (files : List (List ℕ × List ℕ)) (taken rings : List (RingState S)) (used : List (List ℕ))
    (opens : Opens limits files (record { rings = rows_of taken; used = used })) (in_order : IsInOrder files) (same : IsPermutation taken rings)
    (sorted : IsSortedByKey (λ (r : RingState S). r.stem) (slice_cmp nat_cmp) rings) where
  once : IsDistinct is_name (stems (rows_of taken))
  once = stems_once limits files (record { rings = rows_of taken; used = used }) opens in_order

  -- with their cells
  pub cells_by_stem : IsByStem (λ (r : RingState S). r.stem) taken rings
  cells_by_stem = put_by_stem (λ (r : RingState S). r.stem) taken rings (subst (λ l. IsDistinct is_name l) (stems_of_rows taken) once) same sorted

  -- and without
  pub rows_by_stem : IsByStem (λ (r : RingRow). r.stem) (rows_of taken) (rows_of rings)
  rows_by_stem = record {
    same = IsPermutation-map row_of taken rings same;
    rising = subst (λ l. IsStrictlySortedBy (slice_cmp nat_cmp) l) (sym (stems_of_rows rings)) cells_by_stem.rising;
  }
