-- Pairs in order: one that is inserted, one that is removed, and those of one owner.
use Rattle.std.proofs.Common.{◌≡◌, ℕ, ◌^◌, ◌<◌, ◌≤◌, ◌==◌, Bool, true, false, not, nat_le, nat_lt, List, [], ◌∷◌, ◌++◌, length, filter, refl, ap, ◌∙◌, arith, inl, inr, Less, Greater}
use Rattle.std.specs.List.{AllByRecursion, list_any}
use Rattle.std.specs.List.Sorted.{IsStrictlySortedBy}
use Rattle.std.specs.BTreeSet.{insert_key}
use Rattle.std.specs.BTreeMap.{is_at}
use Rattle.std.specs.BTreeMap.Range.{range_contains}
use Rattle.std.specs.Set.{remove_key}
use Rattle.std.specs.declared.ops.Bound.TheVariants.{Included}
use Rattle.std.proofs.lemmas.Bool.{or_right, or_parts}
use Rattle.std.proofs.lemmas.Bool.Decides.{nat_tests, leb_tells}
use Rattle.std.proofs.lemmas.Map.Keys.{sorted_head, sorted_tail}
use Rattle.session_table.specs.Keys.{pair_cmp, is_pair}

-- ---- the order of two pairs

pub pair_cmp-owner_below : (a b : ℕ × ℕ) → a.0 < b.0 → pair_cmp a b ≡ Less
pair_cmp-owner_below a b below = grind (arith, nat_tests)

pub pair_cmp-both_above : (a b : ℕ × ℕ) → b.0 ≤ a.0 → b.1 < a.1 → pair_cmp a b ≡ Greater
pair_cmp-both_above a b owner session = grind (arith, nat_tests)

pub owner_le_from_less : (a b : ℕ × ℕ) → pair_cmp a b ≡ Less → a.0 ≤ b.0
owner_le_from_less a b less = grind (arith, nat_tests)

pub is_at_pair : (owner session : ℕ) (k : ℕ × ℕ) → is_at (pair_cmp (owner, session)) k ≡ is_pair owner session k
is_at_pair owner session k = grind (arith, nat_tests)

pub apart_from_less : (owner session : ℕ) (a b : ℕ × ℕ) → pair_cmp a b ≡ Less → is_pair owner session a ≡ true → is_pair owner session b ≡ false
apart_from_less owner session a b less is = grind (arith, nat_tests)

-- ---- one that is inserted

pub none_below : (owner : ℕ) (k : ℕ × ℕ) (ks : List (ℕ × ℕ)) → owner < k.0 → AllByRecursion (λ y. pair_cmp k y ≡ Less) ks → filter (λ key. nat_le key.0 owner) ks ≡ []
none_below owner k [] above less = refl
none_below owner k (x ∷ xs) above less =
    let further : k.0 ≤ x.0 = owner_le_from_less k x less.0 in
    let no : nat_le x.0 owner ≡ false = grind (arith, nat_tests) in
    rw no (none_below owner k xs above less.1)

pub all_above : (owner : ℕ) (k : ℕ × ℕ) (ks : List (ℕ × ℕ)) → owner < k.0 → AllByRecursion (λ y. pair_cmp k y ≡ Less) ks → filter (λ key. nat_lt owner key.0) ks ≡ ks
all_above owner k [] above less = refl
all_above owner k (x ∷ xs) above less =
    let further : k.0 ≤ x.0 = owner_le_from_less k x less.0 in
    let yes : nat_lt owner x.0 ≡ true = grind (arith, nat_tests) in
    rw yes (ap (λ t. x ∷ t) (all_above owner k xs above less.1))

-- the pair of a new session comes after all others of its owner
pub insert_key-new : (owner next : ℕ) (keys : List (ℕ × ℕ)) → IsStrictlySortedBy pair_cmp keys → AllByRecursion (λ k. k.1 < next) keys
    → insert_key pair_cmp keys (owner, next) ≡ filter (λ key. nat_le key.0 owner) keys ++ (owner, next) ∷ filter (λ key. nat_lt owner key.0) keys
insert_key-new owner next [] sorted given = refl
insert_key-new owner next (k ∷ ks) sorted given =
    elim (leb_tells k.0 owner) [
      | inl h ↦
          let greater : pair_cmp (owner, next) k ≡ Greater = pair_cmp-both_above (owner, next) k h.1 given.0 in
          let not_above : nat_lt owner k.0 ≡ false = grind (arith, nat_tests) in
          rw (greater, h.0, not_above) (ap (λ t. k ∷ t) (insert_key-new owner next ks (sorted_tail pair_cmp k ks sorted) given.1))
      | inr h ↦
          let above : owner < k.0 = grind (arith, nat_tests) in
          let less : pair_cmp (owner, next) k ≡ Less = pair_cmp-owner_below (owner, next) k above in
          let is_above : nat_lt owner k.0 ≡ true = grind (arith, nat_tests) in
          let later = sorted_head pair_cmp k ks sorted in
          rw (less, h.0, is_above, none_below owner k ks above later, all_above owner k ks above later) refl
    ]

-- ---- one that is removed

pub none_later : (owner session : ℕ) (k : ℕ × ℕ) (ks : List (ℕ × ℕ)) → is_pair owner session k ≡ true → AllByRecursion (λ y. pair_cmp k y ≡ Less) ks → filter (λ key. not (is_pair owner session key)) ks ≡ ks
none_later owner session k [] is less = refl
none_later owner session k (x ∷ xs) is less =
    rw (apart_from_less owner session k x less.0 is) (ap (λ t. x ∷ t) (none_later owner session k xs is less.1))

pub remove_key-only : (owner session : ℕ) (keys : List (ℕ × ℕ)) → IsStrictlySortedBy pair_cmp keys → remove_key (is_pair owner session) keys ≡ filter (λ key. not (is_pair owner session key)) keys
remove_key-only owner session [] sorted = refl
remove_key-only owner session (k ∷ ks) sorted =
    let step : (b : Bool) → is_pair owner session k ≡ b → remove_key (is_pair owner session) (k ∷ ks) ≡ filter (λ key. not (is_pair owner session key)) (k ∷ ks) =
    elim [
      | true ↦ λ is. rw (is, none_later owner session k ks is (sorted_head pair_cmp k ks sorted)) refl
      | false ↦ λ is. rw is (ap (λ t. k ∷ t) (remove_key-only owner session ks (sorted_tail pair_cmp k ks sorted)))
    ] in
    step (is_pair owner session k) refl

-- the same, with the test written by the order
pub remove_key-spelled : (owner session : ℕ) (keys : List (ℕ × ℕ)) → remove_key (is_at (pair_cmp (owner, session))) keys ≡ remove_key (is_pair owner session) keys
remove_key-spelled owner session [] = refl
remove_key-spelled owner session (k ∷ ks) = rw (is_at_pair owner session k, remove_key-spelled owner session ks) refl

-- ---- those of one owner

pub range_contains-owner : (owner : ℕ) (k : ℕ × ℕ) → k.1 < 2 ^ 64 → range_contains pair_cmp (Included (owner, 0)) (Included (owner, 18446744073709551615)) k ≡ (k.0 == owner)
range_contains-owner owner k number = grind (arith, nat_tests)

pub keys_of_owner : (owner : ℕ) (keys : List (ℕ × ℕ)) → AllByRecursion (λ k. k.1 < 2 ^ 64) keys
    → filter (range_contains pair_cmp (Included (owner, 0)) (Included (owner, 18446744073709551615))) keys ≡ filter (λ key. key.0 == owner) keys
keys_of_owner owner [] numbers = refl
keys_of_owner owner (k ∷ ks) numbers = rw (range_contains-owner owner k numbers.0, keys_of_owner owner ks numbers.1) refl

-- the first of an owner's pairs is there
pub first_is_there : (owner : ℕ) (k : ℕ × ℕ) (rest keys : List (ℕ × ℕ)) → filter (λ key. key.0 == owner) keys ≡ k ∷ rest → list_any (is_pair owner k.1) keys ≡ true
first_is_there owner k rest [] shown = cc
first_is_there owner k rest (x ∷ xs) shown =
    let step : (b : Bool) → (x.0 == owner) ≡ b → list_any (is_pair owner k.1) (x ∷ xs) ≡ true =
    elim [
      | true ↦ λ is.
          let head : x ≡ k = let found : x ∷ filter (λ key. key.0 == owner) xs ≡ k ∷ rest = rw is at shown in cc in
          let here : is_pair owner k.1 x ≡ true = rw (← head) (grind (arith, nat_tests)) in
          rw here refl
      | false ↦ λ is.
          let further : filter (λ key. key.0 == owner) xs ≡ k ∷ rest = rw is at shown in
          or_right (is_pair owner k.1 x) (list_any (is_pair owner k.1) xs) (first_is_there owner k rest xs further)
    ] in
    step (x.0 == owner) refl

-- if the owner has none, none is removed
pub no_others : (owner : ℕ) (keys : List (ℕ × ℕ)) → filter (λ key. key.0 == owner) keys ≡ [] → filter (λ key. not (key.0 == owner)) keys ≡ keys
no_others owner [] none = refl
no_others owner (x ∷ xs) none =
    let step : (b : Bool) → (x.0 == owner) ≡ b → filter (λ key. not (key.0 == owner)) (x ∷ xs) ≡ x ∷ xs =
    elim [
      | true ↦ λ is. let found : x ∷ filter (λ key. key.0 == owner) xs ≡ [] = rw is at none in cc
      | false ↦ λ is.
          let further : filter (λ key. key.0 == owner) xs ≡ [] = rw is at none in
          rw is (ap (λ t. x ∷ t) (no_others owner xs further))
    ] in
    step (x.0 == owner) refl

-- the pairs of others stay when one of the owner's is removed
pub others_stay : (owner session : ℕ) (keys : List (ℕ × ℕ)) → filter (λ key. not (key.0 == owner)) (filter (λ key. not (is_pair owner session key)) keys) ≡ filter (λ key. not (key.0 == owner)) keys
others_stay owner session [] = refl
others_stay owner session (x ∷ xs) =
    let step : (b c : Bool) → (x.0 == owner) ≡ b → (x.1 == session) ≡ c → filter (λ key. not (key.0 == owner)) (filter (λ key. not (is_pair owner session key)) (x ∷ xs)) ≡ filter (λ key. not (key.0 == owner)) (x ∷ xs) =
    elim [
      | true ↦ elim [
        | true ↦ λ is same. rw (is, same) (others_stay owner session xs)
        | false ↦ λ is same. rw (is, same, is) (others_stay owner session xs)
      ]
      | false ↦ λ c is same. rw (is, is) (ap (λ t. x ∷ t) (others_stay owner session xs))
    ] in
    step (x.0 == owner) (x.1 == session) refl refl

-- there aren't more left
pub no_more : (owner session : ℕ) (keys : List (ℕ × ℕ)) → length (filter (λ key. not (is_pair owner session key)) keys) ≤ length keys
no_more owner session [] = omega arith
no_more owner session (x ∷ xs) =
    let step : (b : Bool) → is_pair owner session x ≡ b → length (filter (λ key. not (is_pair owner session key)) (x ∷ xs)) ≤ length (x ∷ xs) =
    elim [
      | true ↦ λ is. rw is (omega (arith, no_more owner session xs))
      | false ↦ λ is. rw is (omega (arith, no_more owner session xs))
    ] in
    step (is_pair owner session x) refl

-- removing one that is there leaves fewer
pub fewer : (owner session : ℕ) (keys : List (ℕ × ℕ)) → list_any (is_pair owner session) keys ≡ true → length (filter (λ key. not (is_pair owner session key)) keys) < length keys
fewer owner session [] there = cc
fewer owner session (x ∷ xs) there =
    let step : (b : Bool) → is_pair owner session x ≡ b → length (filter (λ key. not (is_pair owner session key)) (x ∷ xs)) < length (x ∷ xs) =
    elim [
      | true ↦ λ is. rw is (omega (arith, no_more owner session xs))
      | false ↦ λ is.
          let further : list_any (is_pair owner session) xs ≡ true = rw is at there in
          rw is (omega (arith, fewer owner session xs further))
    ] in
    step (is_pair owner session x) refl

-- what is true of each pair is true of those that are left
pub given_stay : (next : ℕ) (p : ℕ × ℕ → Bool) (keys : List (ℕ × ℕ)) → AllByRecursion (λ key. key.1 < next) keys → AllByRecursion (λ key. key.1 < next) (filter p keys)
given_stay next p [] given = tt
given_stay next p (x ∷ xs) given =
    let step : (b : Bool) → p x ≡ b → AllByRecursion (λ key. key.1 < next) (filter p (x ∷ xs)) =
    elim [
      | true ↦ λ is. rw is (given.0, given_stay next p xs given.1)
      | false ↦ λ is. rw is (given_stay next p xs given.1)
    ] in
    step (p x) refl

pub given_append : (next : ℕ) (xs ys : List (ℕ × ℕ)) → AllByRecursion (λ key. key.1 < next) xs → AllByRecursion (λ key. key.1 < next) ys → AllByRecursion (λ key. key.1 < next) (xs ++ ys)
given_append next [] ys first last = last
given_append next (x ∷ xs) ys first last = (first.0, given_append next xs ys first.1 last)

pub given_longer : (next more : ℕ) (keys : List (ℕ × ℕ)) → next ≤ more → AllByRecursion (λ key. key.1 < next) keys → AllByRecursion (λ key. key.1 < more) keys
given_longer next more [] le given = tt
given_longer next more (x ∷ xs) le given = (omega (arith, given.0), given_longer next more xs le given.1)

-- the range from an owner's least pair to the greatest has the owner's pairs
pub owners_range : (owner : ℕ) (low high : ℕ × ℕ) (keys found : List (ℕ × ℕ)) → low ≡ (owner, 0) → high ≡ (owner, 18446744073709551615)
    → found ≡ filter (range_contains pair_cmp (Included low) (Included high)) keys → AllByRecursion (λ k. k.1 < 2 ^ 64) keys
    → found ≡ filter (λ key. key.0 == owner) keys
owners_range owner low high keys found from to between numbers = between ∙ rw (from, to) (keys_of_owner owner keys numbers)

-- nothing is removed if the pair isn't there
pub filter-not_there : (owner session : ℕ) (keys : List (ℕ × ℕ)) → list_any (is_pair owner session) keys ≡ false → filter (λ key. not (is_pair owner session key)) keys ≡ keys
filter-not_there owner session [] none = refl
filter-not_there owner session (x ∷ xs) none =
    let parts : (is_pair owner session x ≡ false) × (list_any (is_pair owner session) xs ≡ false) = or_parts (is_pair owner session x) (list_any (is_pair owner session) xs) none in
    rw parts.0 (ap (λ t. x ∷ t) (filter-not_there owner session xs parts.1))
