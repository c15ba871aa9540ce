-- Pairs in order: the numbers of one owner after a pair is added and after one is removed.
use Rattle.std.proofs.Common.{◌≡◌, ℕ, ◌^◌, ◌<◌, ◌≤◌, ◌==◌, Bool, true, false, cond, not, List, [], ◌∷◌, ◌++◌, length, filter, refl, ap, subst, ◌∙◌, arith, inl, inr, Less, Greater}
use Rattle.std.specs.List.{AllByRecursion}
use Rattle.std.specs.List.Sorted.{IsStrictlySortedBy}
use Rattle.std.specs.BTreeSet.{insert_key}
use Rattle.std.specs.BTreeMap.{is_at}
use Rattle.std.specs.BTreeMap.Range.{range_contains}
use Rattle.std.specs.Set.{remove_key}
use Rattle.std.specs.declared.ops.Bound.TheVariants.{Included}
use Rattle.std.proofs.lemmas.Bool.{eqb-true}
use Rattle.std.proofs.lemmas.Bool.Decides.{nat_tests, leb_tells}
use Rattle.std.proofs.lemmas.List.{length-map}
use Rattle.std.proofs.lemmas.Map.Keys.{sorted_head, sorted_tail}
use Rattle.prompt_state.specs.Kept.{IsFirst, is_pair, numbers_at, pair_cmp}

-- ---- the order of two pairs

owner_below : (a b : ℕ × ℕ) → a.0 < b.0 → pair_cmp a b ≡ Less
owner_below a b below = grind (arith, nat_tests)

both_above : (a b : ℕ × ℕ) → b.0 ≤ a.0 → b.1 < a.1 → pair_cmp a b ≡ Greater
both_above a b owner number = grind (arith, nat_tests)

owner_le_from_less : (a b : ℕ × ℕ) → pair_cmp a b ≡ Less → a.0 ≤ b.0
owner_le_from_less a b less = grind (arith, nat_tests)

is_at_pair : (owner number : ℕ) (k : ℕ × ℕ) → is_at (pair_cmp (owner, number)) k ≡ is_pair owner number k
is_at_pair owner number k = grind (arith, nat_tests)

apart_from_less : (owner number : ℕ) (a b : ℕ × ℕ) → pair_cmp a b ≡ Less → is_pair owner number a ≡ true → is_pair owner number b ≡ false
apart_from_less owner number a b less is = grind (arith, nat_tests)

-- ---- those of one owner

range_contains-owner : (owner : ℕ) (k : ℕ × ℕ) → k.1 < 2 ^ 64 → range_contains pair_cmp (Included (owner, 0)) (Included (owner, 18446744073709551615)) k ≡ (k.0 == owner)
range_contains-owner owner k number = grind (arith, nat_tests)

pairs_of_owner : (owner : ℕ) (pairs : List (ℕ × ℕ)) → AllByRecursion (λ k. k.1 < 2 ^ 64) pairs
    → filter (range_contains pair_cmp (Included (owner, 0)) (Included (owner, 18446744073709551615))) pairs ≡ filter (λ pair. pair.0 == owner) pairs
pairs_of_owner owner [] numbers = refl
pairs_of_owner owner (k ∷ ks) numbers = rw (range_contains-owner owner k numbers.0, pairs_of_owner owner ks numbers.1) refl

-- the range from an owner's least pair to the greatest has the owner's pairs
pub owners_range : (owner : ℕ) (low high : ℕ × ℕ) (pairs found : List (ℕ × ℕ)) → low ≡ (owner, 0) → high ≡ (owner, 18446744073709551615)
    → found ≡ filter (range_contains pair_cmp (Included low) (Included high)) pairs → AllByRecursion (λ k. k.1 < 2 ^ 64) pairs
    → found ≡ filter (λ pair. pair.0 == owner) pairs
owners_range owner low high pairs found from to between numbers = between ∙ rw (from, to) (pairs_of_owner owner pairs numbers)

pub length-numbers : (owner : ℕ) (pairs : List (ℕ × ℕ)) → length (numbers_at owner pairs) ≡ length (filter (λ pair. pair.0 == owner) pairs)
length-numbers owner pairs = length-map (filter (λ pair. pair.0 == owner) pairs) (λ pair. pair.1)

pub first_is : (owner : ℕ) (k : ℕ × ℕ) (rest pairs : List (ℕ × ℕ)) → filter (λ pair. pair.0 == owner) pairs ≡ k ∷ rest → IsFirst k.1 (numbers_at owner pairs)
first_is owner k rest pairs shown = rw shown refl

pub none_is : (owner : ℕ) (pairs : List (ℕ × ℕ)) → filter (λ pair. pair.0 == owner) pairs ≡ [] → numbers_at owner pairs ≡ []
none_is owner pairs shown = rw shown refl

-- ---- one that is inserted

none_at : (owner : ℕ) (k : ℕ × ℕ) (ks : List (ℕ × ℕ)) → owner < k.0 → AllByRecursion (λ y. pair_cmp k y ≡ Less) ks → numbers_at owner ks ≡ []
none_at owner k [] above less = refl
none_at owner k (x ∷ xs) above less =
    let further : k.0 ≤ x.0 = owner_le_from_less k x less.0 in
    let off : (x.0 == owner) ≡ false = grind (arith, nat_tests) in
    rw off (none_at owner k xs above less.1)

pub numbers-added : (owner next other : ℕ) (pairs : List (ℕ × ℕ)) → IsStrictlySortedBy pair_cmp pairs → AllByRecursion (λ k. k.1 < next) pairs
    → numbers_at other (insert_key pair_cmp pairs (owner, next)) ≡ cond (owner == other) (numbers_at other pairs ++ next ∷ []) (numbers_at other pairs)
numbers-added owner next other [] sorted given =
    let step : (b : Bool) → (owner == other) ≡ b → numbers_at other ((owner, next) ∷ []) ≡ cond (owner == other) (next ∷ []) [] =
    elim [
      | true ↦ λ is. rw is refl
      | false ↦ λ off. rw off refl
    ] in
    step (owner == other) refl
numbers-added owner next other (k ∷ ks) sorted given =
    elim (leb_tells k.0 owner) [
      | inl h ↦
          let greater : pair_cmp (owner, next) k ≡ Greater = both_above (owner, next) k h.1 given.0 in
          let rest = numbers-added owner next other ks (sorted_tail pair_cmp k ks sorted) given.1 in
          let step : (a b : Bool) → (k.0 == other) ≡ a → (owner == other) ≡ b
          → numbers_at other (k ∷ insert_key pair_cmp ks (owner, next)) ≡ cond (owner == other) (numbers_at other (k ∷ ks) ++ next ∷ []) (numbers_at other (k ∷ ks)) =
          elim [
            | true ↦ elim [
              | true ↦ λ here is. let more = rw is at rest in rw (here, is) (ap (λ t. k.1 ∷ t) more)
              | false ↦ λ here off. let more = rw off at rest in rw (here, off) (ap (λ t. k.1 ∷ t) more)
            ]
            | false ↦ elim [
              | true ↦ λ here is. let more = rw is at rest in rw (here, is) more
              | false ↦ λ here off. let more = rw off at rest in rw (here, off) more
            ]
          ] in
          rw greater (step (k.0 == other) (owner == other) refl refl)
      | inr h ↦
          let above : owner < k.0 = grind (arith, nat_tests) in
          let less : pair_cmp (owner, next) k ≡ Less = owner_below (owner, next) k above in
          let step : (b : Bool) → (owner == other) ≡ b → numbers_at other ((owner, next) ∷ k ∷ ks) ≡ cond (owner == other) (numbers_at other (k ∷ ks) ++ next ∷ []) (numbers_at other (k ∷ ks)) =
          elim [
            | true ↦ λ is.
                let same : owner ≡ other = eqb-true owner other is in
                let off : (k.0 == other) ≡ false = grind (arith, nat_tests) in
                let none : numbers_at other ks ≡ [] = subst (λ n. numbers_at n ks ≡ []) same (none_at owner k ks above (sorted_head pair_cmp k ks sorted)) in
                rw (is, off, none) refl
            | false ↦ λ off. rw off refl
          ] in
          rw less (step (owner == other) refl)
    ]

-- ---- one that is removed

none_later : (owner number : ℕ) (k : ℕ × ℕ) (ks : List (ℕ × ℕ)) → is_pair owner number k ≡ true → AllByRecursion (λ y. pair_cmp k y ≡ Less) ks → filter (λ key. not (is_pair owner number key)) ks ≡ ks
none_later owner number k [] is less = refl
none_later owner number k (x ∷ xs) is less =
    rw (apart_from_less owner number k x less.0 is) (ap (λ t. x ∷ t) (none_later owner number k xs is less.1))

remove_key-only : (owner number : ℕ) (keys : List (ℕ × ℕ)) → IsStrictlySortedBy pair_cmp keys → remove_key (is_pair owner number) keys ≡ filter (λ key. not (is_pair owner number key)) keys
remove_key-only owner number [] sorted = refl
remove_key-only owner number (k ∷ ks) sorted =
    let step : (b : Bool) → is_pair owner number k ≡ b → remove_key (is_pair owner number) (k ∷ ks) ≡ filter (λ key. not (is_pair owner number key)) (k ∷ ks) =
    elim [
      | true ↦ λ is. rw (is, none_later owner number k ks is (sorted_head pair_cmp k ks sorted)) refl
      | false ↦ λ is. rw is (ap (λ t. k ∷ t) (remove_key-only owner number ks (sorted_tail pair_cmp k ks sorted)))
    ] in
    step (is_pair owner number k) refl

remove_key-spelled : (owner number : ℕ) (keys : List (ℕ × ℕ)) → remove_key (is_at (pair_cmp (owner, number))) keys ≡ remove_key (is_pair owner number) keys
remove_key-spelled owner number [] = refl
remove_key-spelled owner number (k ∷ ks) = rw (is_at_pair owner number k, remove_key-spelled owner number ks) refl

own_without : (owner number : ℕ) (keys : List (ℕ × ℕ)) → numbers_at owner (filter (λ key. not (is_pair owner number key)) keys) ≡ filter (λ one. not (one == number)) (numbers_at owner keys)
own_without owner number [] = refl
own_without owner number (k ∷ ks) =
    let rest = own_without owner number ks in
    let step : (a b : Bool) → (k.0 == owner) ≡ a → (k.1 == number) ≡ b
    → numbers_at owner (filter (λ key. not (is_pair owner number key)) (k ∷ ks)) ≡ filter (λ one. not (one == number)) (numbers_at owner (k ∷ ks)) =
    elim [
      | true ↦ elim [
        | true ↦ λ is same. rw (is, same) rest
        | false ↦ λ is other. rw (is, other, is) (ap (λ t. k.1 ∷ t) rest)
      ]
      | false ↦ λ b off is. rw (off, off) rest
    ] in
    step (k.0 == owner) (k.1 == number) refl refl

apart : (a b c : ℕ) → (a == b) ≡ true → (b == c) ≡ false → (a == c) ≡ false
apart a b c same off = grind (arith, nat_tests)

others_without : (owner number other : ℕ) (keys : List (ℕ × ℕ)) → (owner == other) ≡ false → numbers_at other (filter (λ key. not (is_pair owner number key)) keys) ≡ numbers_at other keys
others_without owner number other [] apart_is = refl
others_without owner number other (k ∷ ks) apart_is =
    let rest = others_without owner number other ks apart_is in
    let step : (a b c : Bool) → (k.0 == owner) ≡ a → (k.1 == number) ≡ b → (k.0 == other) ≡ c
    → numbers_at other (filter (λ key. not (is_pair owner number key)) (k ∷ ks)) ≡ numbers_at other (k ∷ ks) =
    elim [
      | true ↦ elim [
        | true ↦ λ c is same far. let off = apart k.0 owner other is apart_is in rw (is, same, off) rest
        | false ↦ elim [
          | true ↦ λ is same far. rw (is, same, far) (ap (λ t. k.1 ∷ t) rest)
          | false ↦ λ is same far. rw (is, same, far) rest
        ]
      ]
      | false ↦ λ b. elim [
        | true ↦ λ is same far. rw (is, far) (ap (λ t. k.1 ∷ t) rest)
        | false ↦ λ is same far. rw (is, far) rest
      ]
    ] in
    step (k.0 == owner) (k.1 == number) (k.0 == other) refl refl refl

numbers-filter : (owner number other : ℕ) (keys : List (ℕ × ℕ)) → numbers_at other (filter (λ key. not (is_pair owner number key)) keys)
    ≡ cond (owner == other) (filter (λ one. not (one == number)) (numbers_at other keys)) (numbers_at other keys)
numbers-filter owner number other keys =
    let step : (b : Bool) → (owner == other) ≡ b → numbers_at other (filter (λ key. not (is_pair owner number key)) keys)
    ≡ cond (owner == other) (filter (λ one. not (one == number)) (numbers_at other keys)) (numbers_at other keys) =
    elim [
      | true ↦ λ is. rw is (subst (λ n. numbers_at n (filter (λ key. not (is_pair owner number key)) keys) ≡ filter (λ one. not (one == number)) (numbers_at n keys)) (eqb-true owner other is) (own_without owner number keys))
      | false ↦ λ off. rw off (others_without owner number other keys off)
    ] in
    step (owner == other) refl

pub numbers-removed : (owner number other : ℕ) (keys : List (ℕ × ℕ)) → IsStrictlySortedBy pair_cmp keys → numbers_at other (remove_key (is_at (pair_cmp (owner, number))) keys)
    ≡ cond (owner == other) (filter (λ one. not (one == number)) (numbers_at other keys)) (numbers_at other keys)
numbers-removed owner number other keys sorted =
    ap (numbers_at other) (remove_key-spelled owner number keys ∙ remove_key-only owner number keys sorted) ∙ numbers-filter owner number other keys
