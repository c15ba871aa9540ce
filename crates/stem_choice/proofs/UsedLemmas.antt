-- The used stems in byte order: what a search finds among them, and a stem that is put in its place.
use Rattle.std.proofs.Common.{◌≡◌, ◌≤◌, ℕ, zero, suc, ◌+◌, ◌<◌, ⊎_elim, inl, inr, Bool, true, false, cond, ◌||◌, Decides, List, [], ◌∷◌, ◌++◌, filter, length, get_or, insert, Result, Ok, Err, IsOk, is_ok, refl, sym, ◌∙◌, ap, subst, arith}
use Rattle.std.specs.declared.cmp.Ordering.{Ordering}
use Rattle.std.specs.declared.cmp.Ordering.TheVariants.{Less, Equal, Greater}
use Rattle.std.specs.Cmp.Lexicographic.{slice_cmp, nat_list_cmp_total}
use Rattle.std.specs.List.{AllByRecursion}
use Rattle.std.specs.List.Sorted.{IsStrictlySortedBy, IsNonDecreasingBy, IsPartitionPoint}
use Rattle.std.specs.Ordering.{nat_cmp, is_eq, is_lt, ordering_index, ordering_reverse}
use Rattle.std.proofs.lemmas.Bool.{cases_Bool, cases_lt}
use Rattle.std.proofs.lemmas.Cmp.{tied_itself}
use Rattle.std.proofs.lemmas.List.Folds.{list_any-append}
use Rattle.std.proofs.lemmas.List.Kept.{IsStrictlySortedBy-filter}
use Rattle.std.proofs.lemmas.List.Sorted.{searchable_from_sorted}
use Rattle.std.proofs.lemmas.Map.Keys.{Less-from_sorted, any_passes_from_place}
use Rattle.std.proofs.lemmas.Map.Lookups.{exact_bytes}
use Rattle.std.proofs.lemmas.Option.{slice_get-get_or}
use Rattle.kr_base.specs.Attributes.{is_name}
use Rattle.kr_base.proofs.OrderedLemmas.{is_equal, is_less, name-test}
use Rattle.stem_choice.specs.UsedStems.{AreInOrder, is_used, with_stem}

-- the order of stems
abbrev by_bytes : List ℕ → List ℕ → Ordering
by_bytes = slice_cmp nat_cmp

turned : (a b : List ℕ) (o : Ordering) → by_bytes a b ≡ o → by_bytes b a ≡ ordering_reverse o
turned a b o is = nat_list_cmp_total.antisymm b a ∙ ap ordering_reverse is

itself : (stem : List ℕ) → is_name stem stem ≡ true
itself stem = ap is_eq (tied_itself nat_list_cmp_total stem)

pub is_name-decides : (a b : List ℕ) → Decides (is_name a b) (a ≡ b)
is_name-decides a b = (λ is. exact_bytes a b (is_equal (by_bytes a b) is), λ same. subst (λ n. is_name a n ≡ true) same (itself a))

pub nothing_in_order : AreInOrder []
unfolding IsStrictlySortedBy
nothing_in_order = tt

-- ---- what a search finds

searchable : (stem : List ℕ) (used : List (List ℕ)) → AreInOrder used → IsNonDecreasingBy (λ other. ordering_index (by_bytes other stem)) used
searchable stem used ordered =
    searchable_from_sorted nat_list_cmp_total (λ other. other) used stem
    (λ k d low high. ap is_lt (turned (get_or used k d) (get_or used (k + 1) d) Less (Less-from_sorted by_bytes used k (k + 1) d ordered (omega arith) high)))

pub found : (stem : List ℕ) (used : List (List ℕ)) (place : ℕ) → place < length used → ((d : List ℕ) → by_bytes (get_or used place d) stem ≡ Equal) → is_used stem used ≡ true
found stem used place bound equal =
    let there : is_name stem (get_or used place []) ≡ true = name-test stem (get_or used place []) ∙ ap is_eq (equal []) in
    any_passes_from_place (is_name stem) used place (get_or used place []) (slice_get-get_or used place [] bound) there

not_found : (stem : List ℕ) (used : List (List ℕ)) → ((k : ℕ) (d : List ℕ) → k < length used → is_name stem (get_or used k d) ≡ false) → is_used stem used ≡ false
not_found stem [] none = refl
not_found stem (first ∷ more) none =
    let here : is_name stem first ≡ false = none zero first (omega arith) in
    rw here (not_found stem more (λ k d lt. none (suc k) d (omega (arith, lt))))

-- the place that a search gives where it misses
abbrev pub IsGap : List ℕ → List (List ℕ) → ℕ → Type 0
IsGap stem used place = IsNonDecreasingBy (λ other. ordering_index (by_bytes other stem)) used
    → IsPartitionPoint (λ other. by_bytes other stem ≡ Less) (λ other. by_bytes other stem ≡ Greater) used place

pub missed : (stem : List ℕ) (used : List (List ℕ)) (place : ℕ) → AreInOrder used → IsGap stem used place → is_used stem used ≡ false
missed stem used place ordered gap =
    let parts = gap (searchable stem used ordered) in
    not_found stem used
    (λ k d lt. elim (cases_lt k place) [
      | inl below ↦ name-test stem (get_or used k d) ∙ ap is_eq (parts.0 k d (omega arith) below)
      | inr above ↦ name-test stem (get_or used k d) ∙ ap is_eq (parts.1 k d above lt)
    ])

-- ---- what is before a stem and after it

abbrev AllAfter : List ℕ → List (List ℕ) → Type 0
AllAfter stem used = AllByRecursion (λ other. by_bytes stem other ≡ Less) used

abbrev AllBefore : List ℕ → List (List ℕ) → Type 0
AllBefore stem used = AllByRecursion (λ other. by_bytes other stem ≡ Less) used

further : (first stem : List ℕ) (used : List (List ℕ)) → by_bytes first stem ≡ Less → AllAfter stem used → AllAfter first used
further first stem [] less all = tt
further first stem (other ∷ more) less (is, all) = (nat_list_cmp_total.trans first stem other less is, further first stem more less all)

unused_after : (stem : List ℕ) (used : List (List ℕ)) → AllAfter stem used → is_used stem used ≡ false
unused_after stem [] all = refl
unused_after stem (first ∷ more) (is, all) =
    let off : is_name stem first ≡ false = ap is_eq is in
    rw off (unused_after stem more all)

none_before : (stem : List ℕ) (used : List (List ℕ)) → AllAfter stem used → filter (λ other. is_lt (by_bytes other stem)) used ≡ []
none_before stem [] all = refl
none_before stem (first ∷ more) (is, all) =
    let off : is_lt (by_bytes first stem) ≡ false = ap is_lt (turned stem first Less is) in
    rw off (none_before stem more all)

whole_after : (stem : List ℕ) (used : List (List ℕ)) → AllAfter stem used → filter (λ other. is_lt (by_bytes stem other)) used ≡ used
whole_after stem [] all = refl
whole_after stem (first ∷ more) (is, all) =
    let on : is_lt (by_bytes stem first) ≡ true = ap is_lt is in
    rw on (ap (λ t. first ∷ t) (whole_after stem more all))

all_before : (stem : List ℕ) (used : List (List ℕ)) → AllBefore stem (filter (λ other. is_lt (by_bytes other stem)) used)
all_before stem [] = tt
all_before stem (first ∷ more) = ⊎_elim
    (λ less. rw less (is_less (by_bytes first stem) less, all_before stem more))
    (λ other. rw other (all_before stem more))
    (cases_Bool (is_lt (by_bytes first stem)))

all_after : (stem : List ℕ) (used : List (List ℕ)) → AllAfter stem (filter (λ other. is_lt (by_bytes stem other)) used)
all_after stem [] = tt
all_after stem (first ∷ more) = ⊎_elim
    (λ less. rw less (is_less (by_bytes stem first) less, all_after stem more))
    (λ other. rw other (all_after stem more))
    (cases_Bool (is_lt (by_bytes stem first)))

-- ---- a stem that is put in keeps the order

joined : (P : List ℕ → Type 0) (used more : List (List ℕ)) → AllByRecursion P used → AllByRecursion P more → AllByRecursion P (used ++ more)
joined P [] more all also = also
joined P (first ∷ used) more (is, all) also = (is, joined P used more all also)

in_order_at : (stem : List ℕ) (used more : List (List ℕ)) → AreInOrder used → AllBefore stem used → AreInOrder more → AllAfter stem more → AreInOrder (used ++ stem ∷ more)
unfolding IsStrictlySortedBy
in_order_at stem [] more ordered before ordered_more after = (after, ordered_more)
in_order_at stem (first ∷ used) more (is, ordered) (less, before) ordered_more after =
    (joined (λ other. by_bytes first other ≡ Less) used (stem ∷ more) is (less, further first stem more less after), in_order_at stem used more ordered before ordered_more after)

pub with_stem-in_order : (stem : List ℕ) (used : List (List ℕ)) → AreInOrder used → AreInOrder (with_stem stem used)
with_stem-in_order stem used ordered =
    in_order_at stem (filter (λ other. is_lt (by_bytes other stem)) used) (filter (λ other. is_lt (by_bytes stem other)) used)
    (IsStrictlySortedBy-filter by_bytes (λ other. is_lt (by_bytes other stem)) used ordered) (all_before stem used)
    (IsStrictlySortedBy-filter by_bytes (λ other. is_lt (by_bytes stem other)) used ordered) (all_after stem used)

-- ---- a stem that is used already

pub with_stem-used : (stem : List ℕ) (used : List (List ℕ)) → AreInOrder used → is_used stem used ≡ true → with_stem stem used ≡ used
unfolding IsStrictlySortedBy
with_stem-used stem [] ordered is = absurd cc
with_stem-used stem (first ∷ more) (above, rest) is =
    let step : (o : Ordering) → by_bytes first stem ≡ o → with_stem stem (first ∷ more) ≡ first ∷ more =
    elim [
      | Less ↦ λ tie.
          let on : is_lt (by_bytes first stem) ≡ true = ap is_lt tie in
          let off : is_lt (by_bytes stem first) ≡ false = ap is_lt (turned first stem Less tie) in
          let other : is_name stem first ≡ false = ap is_eq (turned first stem Less tie) in
          let later : is_used stem more ≡ true = rw other at is in
          rw (on, off) (ap (λ t. first ∷ t) (with_stem-used stem more rest later))
      | Equal ↦ λ tie.
          let same : first ≡ stem = exact_bytes first stem tie in
          let off : is_lt (by_bytes first stem) ≡ false = ap is_lt tie in
          let none : is_lt (by_bytes stem first) ≡ false = ap is_lt (turned first stem Equal tie) in
          let after : AllAfter stem more = subst (λ s. AllAfter s more) same above in
          rw (off, none) (λ i. none_before stem more after i ++ sym same i ∷ whole_after stem more after i)
      | Greater ↦ λ tie.
          let less : by_bytes stem first ≡ Less = turned first stem Greater tie in
          let none : is_used stem (first ∷ more) ≡ false = unused_after stem (first ∷ more) (less, further stem first more less above) in
          absurd cc
    ] in
    step (by_bytes first stem) refl

-- ---- a stem that is put in where a search missed it

insert_at : (stem : List ℕ) (used : List (List ℕ)) (place : ℕ) → ((k : ℕ) (d : List ℕ) → k < place → by_bytes (get_or used k d) stem ≡ Less)
    → ((k : ℕ) (d : List ℕ) → place ≤ k → k < length used → by_bytes (get_or used k d) stem ≡ Greater) → place ≤ length used
    → insert used place stem ≡ with_stem stem used
insert_at stem [] zero less greater within = refl
insert_at stem [] (suc place) less greater within = absurd (omega (arith, within))
insert_at stem (first ∷ more) zero less greater within =
    let after : AllAfter stem (first ∷ more) = all_greater (first ∷ more) (λ k d lt. greater k d (omega arith) lt) in
    λ i. sym (none_before stem (first ∷ more) after) i ++ stem ∷ sym (whole_after stem (first ∷ more) after) i
  where
    all_greater : (xs : List (List ℕ)) → ((k : ℕ) (d : List ℕ) → k < length xs → by_bytes (get_or xs k d) stem ≡ Greater) → AllAfter stem xs
    all_greater [] all = tt
    all_greater (x ∷ xs) all = (turned x stem Greater (all zero x (omega arith)), all_greater xs (λ k d lt. all (suc k) d (omega (arith, lt))))
insert_at stem (first ∷ more) (suc place) less greater within =
    let here : by_bytes first stem ≡ Less = less zero first (omega arith) in
    let on : is_lt (by_bytes first stem) ≡ true = ap is_lt here in
    let off : is_lt (by_bytes stem first) ≡ false = ap is_lt (turned first stem Less here) in
    rw (on, off) (ap (λ t. first ∷ t) (insert_at stem more place (λ k d lt. less (suc k) d (omega (arith, lt))) (λ k d le lt. greater (suc k) d (omega (arith, le)) (omega (arith, lt))) (omega (arith, within))))

pub inserted : (stem : List ℕ) (used : List (List ℕ)) (place : ℕ) → AreInOrder used → place ≤ length used → IsGap stem used place → insert used place stem ≡ with_stem stem used
inserted stem used place ordered within gap =
    let parts = gap (searchable stem used ordered) in
    insert_at stem used place (λ k d lt. parts.0 k d (omega arith) lt) (λ k d le lt. parts.1 k d le lt) within

-- a call that can't fail
pub with_room : {A E : Type 0} (r : Result A E) (made before after : List (List ℕ)) → IsOk r → after ≡ cond (is_ok r) made before → after ≡ made
with_room (Ok answer) made before after ok is = is
with_room (Err fault) made before after ok is = absurd (let no : false ≡ true = ok in cc)

-- ---- which stems are used then

module _ (stem other : List ℕ) where
  less_step : (t a n b u : Bool) → (a || (n || b)) ≡ (n || u) → ((t || a) || (n || b)) ≡ (n || (t || u))
  less_step true a true b u h = refl
  less_step true a false b u h = refl
  less_step false a n b u h = h

  greater_step : (t a n b u : Bool) → (a || (n || b)) ≡ (n || u) → (a || (n || (t || b))) ≡ (n || (t || u))
  greater_step true true true b u h = refl
  greater_step true true false b u h = refl
  greater_step true false true b u h = refl
  greater_step true false false b u h = refl
  greater_step false a n b u h = h

  equal_step : (a n b u : Bool) → (a || (n || b)) ≡ (n || u) → (a || (n || b)) ≡ (n || (n || u))
  equal_step a true b u h = h
  equal_step a false b u h = h

  abbrev before : List (List ℕ) → Bool
  before used = is_used other (filter (λ x. is_lt (by_bytes x stem)) used)

  abbrev after : List (List ℕ) → Bool
  after used = is_used other (filter (λ x. is_lt (by_bytes stem x)) used)

  in_parts : (used : List (List ℕ)) → (before used || (is_name other stem || after used)) ≡ (is_name other stem || is_used other used)
  in_parts [] = refl
  in_parts (first ∷ more) =
      let step : (o : Ordering) → by_bytes first stem ≡ o → (before (first ∷ more) || (is_name other stem || after (first ∷ more))) ≡ (is_name other stem || is_used other (first ∷ more)) =
      elim [
        | Less ↦ λ tie.
            let on : is_lt (by_bytes first stem) ≡ true = ap is_lt tie in
            let off : is_lt (by_bytes stem first) ≡ false = ap is_lt (turned first stem Less tie) in
            rw (on, off) (less_step (is_name other first) (before more) (is_name other stem) (after more) (is_used other more) (in_parts more))
        | Equal ↦ λ tie.
            let on : is_lt (by_bytes first stem) ≡ false = ap is_lt tie in
            let off : is_lt (by_bytes stem first) ≡ false = ap is_lt (turned first stem Equal tie) in
            let same : is_name other first ≡ is_name other stem = ap (is_name other) (exact_bytes first stem tie) in
            rw (on, off, same) (equal_step (before more) (is_name other stem) (after more) (is_used other more) (in_parts more))
        | Greater ↦ λ tie.
            let on : is_lt (by_bytes first stem) ≡ false = ap is_lt tie in
            let off : is_lt (by_bytes stem first) ≡ true = ap is_lt (turned first stem Greater tie) in
            rw (on, off) (greater_step (is_name other first) (before more) (is_name other stem) (after more) (is_used other more) (in_parts more))
      ] in
      step (by_bytes first stem) refl

  pub is_used-with_stem : (used : List (List ℕ)) → is_used other (with_stem stem used) ≡ (is_name other stem || is_used other used)
  is_used-with_stem used =
      list_any-append (is_name other) (filter (λ x. is_lt (by_bytes x stem)) used) (stem ∷ filter (λ x. is_lt (by_bytes stem x)) used) ∙ in_parts used
