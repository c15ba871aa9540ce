-- The entries with a key, and the entries of a matching item.
use Rattle.std.proofs.Common.{◌≡◌, ℕ, zero, suc, ◌+◌, ◌-◌, ◌<◌, ◌≤◌, ◌&&◌, Bool, true, false, cond, nat_eq, List, [], ◌∷◌, ◌++◌, length, get_or, take, drop, map, filter, Option, Some, None, refl, sym, ap, subst, ◌∙◌, inl, inr, ⊎_elim, arith}
use Rattle.std.specs.Prelude.{◌⊎◌}
use Rattle.std.proofs.Math.Dec.{leb, ltb}
use Rattle.std.specs.List.{All, Contains, list_any, list_all}
use Rattle.std.specs.List.Sorted.{IsPartitionPoint}
use Rattle.std.proofs.lemmas.Bool.{cases_Bool, ltb-true, leb-true, ltb-false, leb-false}
use Rattle.std.proofs.lemmas.Bool.Decides.{nat_tests}
use Rattle.std.proofs.lemmas.List.{get_or-drop, length-drop, take_rest}
use Rattle.std.proofs.lemmas.List.Elements.{All-append, All-filter, All-map, All-nil, All-cons}
use Rattle.std.proofs.lemmas.List.Sorted.{All-permutation, Contains-permutation}
use Rattle.kr_base.specs.Attributes.{is_name}
use Rattle.kr_base.specs.declared.hashed.HashedPair.{HashedPair}
use Rattle.keyring_file.specs.declared.clear.ClearItem.{ClearItem}
use Rattle.attribute_hash.specs.Hash.{text_hash}
use Rattle.attribute_match.specs.Match.{has_hash, is_hash_of}
use Rattle.hashed_index.specs.Keys.{IsNumberKey, key_of, text_key_of}
use Rattle.hashed_index.specs.Entries.{IsIndexOf, entries_from, entry_of, places_with, with_key, with_number}
use Rattle.hashed_index.specs.declared.entries.Entry.{Entry}
use Rattle.hashed_index.proofs.KeyLemmas.{HasKey, keyed_value, same_name}

-- ---- the entries with a key are together

apart : (a b : ℕ) → (a ≡ b → ⊥) → nat_eq a b ≡ false
apart a b never = grind (arith, nat_tests, never)

together : (a b : ℕ) → a ≡ b → nat_eq a b ≡ true
together a b e = grind (arith, nat_tests, e)

skipped : (k i : ℕ) (xs : List Entry) → ((j : ℕ) (d : Entry) → j < i → (get_or xs j d).key < k) → with_key k xs ≡ with_key k (drop i xs)
skipped k zero xs below = refl
skipped k (suc i) [] below = refl
skipped k (suc i) (x ∷ xs) below =
    let first = below 0 x (omega arith) in
    rw (apart x.key k (λ same. omega (arith, first, same))) (skipped k i xs (λ j d lt. below (suc j) d (omega (arith, lt))))

none_with : (k : ℕ) (xs : List Entry) → ((j : ℕ) (d : Entry) → j < length xs → k < (get_or xs j d).key) → with_key k xs ≡ []
none_with k [] above = refl
none_with k (x ∷ xs) above =
    let first = above 0 x (omega arith) in
    rw (apart x.key k (λ same. omega (arith, first, same))) (none_with k xs (λ j d lt. above (suc j) d (omega (arith, lt))))

first_with : (k n : ℕ) (xs : List Entry) → n ≤ length xs → ((j : ℕ) (d : Entry) → j < n → (get_or xs j d).key ≡ k) → ((j : ℕ) (d : Entry) → n ≤ j → j < length xs → k < (get_or xs j d).key) → take n xs ≡ with_key k xs
first_with k zero xs le equal above = sym (none_with k xs (λ j d lt. above j d (omega arith) lt))
first_with k (suc n) [] le equal above = absurd (omega (arith, le))
first_with k (suc n) (x ∷ xs) le equal above =
    let more = first_with k n xs (omega (arith, le)) (λ j d lt. equal (suc j) d (omega (arith, lt))) (λ j d least lt. above (suc j) d (omega (arith, least)) (omega (arith, lt))) in
    rw (together x.key k (equal 0 x (omega arith))) (λ i. x ∷ more i)

pub together_with : (xs : List Entry) (k i n : ℕ) → i ≤ length xs → IsPartitionPoint (λ (e : Entry). ltb e.key k ≡ true) (λ (e : Entry). ltb e.key k ≡ false) xs i
    → n ≤ length (take (length xs - i) (drop i xs)) → IsPartitionPoint (λ (e : Entry). leb e.key k ≡ true) (λ (e : Entry). leb e.key k ≡ false) (take (length xs - i) (drop i xs)) n
    → take n (take (length xs - i) (drop i xs)) ≡ with_key k xs
together_with xs k i n le first fits count =
    let rest : take (length xs - i) (drop i xs) ≡ drop i xs = take_rest xs i in
    let long : length (drop i xs) ≡ length xs - i = length-drop i xs in
    let fits' : n ≤ length (drop i xs) = subst (λ l. n ≤ length l) rest fits in
    let count' = subst (λ l. IsPartitionPoint (λ (e : Entry). leb e.key k ≡ true) (λ (e : Entry). leb e.key k ≡ false) l n) rest count in
    let start : (j : ℕ) (d : Entry) → j < length (drop i xs) → k ≤ (get_or (drop i xs) j d).key =
    λ j d lt. rw (get_or-drop i xs j d) (ltb-false _ k (first.1 (i + j) d (omega arith) (omega (arith, lt, long, le)))) in
    let kept : take n (drop i xs) ≡ with_key k (drop i xs) =
    first_with k n (drop i xs) fits'
    (λ j d lt. let low = start j d (omega (arith, lt, fits')) in let high = leb-true _ k (count'.0 j d (omega arith) lt) in omega (arith, low, high))
    (λ j d least lt. leb-false _ k (count'.1 j d least lt)) in
    ap (take n) rest ∙ kept ∙ sym (skipped k i xs (λ j d lt. ltb-true _ k (first.0 j d (omega arith) lt)))

-- ---- membership

abbrev pub Has : {X : Type 0} → List X → X → Type 0
Has [] x = ⊥
Has (y ∷ ys) x = (y ≡ x) ⊎ Has ys x

has_at : {X : Type 0} (xs : List X) (x : X) (k : ℕ) → k < length xs → get_or xs k x ≡ x → Has xs x
has_at [] x k lt e = absurd (omega (arith, lt))
has_at (y ∷ ys) x zero lt e = inl e
has_at (y ∷ ys) x (suc k) lt e = inr (has_at ys x k (omega (arith, lt)) e)

pub has : {X : Type 0} (xs : List X) (x : X) → Contains xs x → Has xs x
has xs x at = has_at xs x at.0 at.1 at.2

pub contains : {X : Type 0} (xs : List X) (x : X) → Has xs x → Contains xs x
contains [] x h = absurd h
contains (y ∷ ys) x (inl e) = (0, omega arith, e)
contains (y ∷ ys) x (inr h) =
    let at = contains ys x h in
    (suc at.0, omega (arith, at.1), at.2)

has_map : {X Y : Type 0} (f : X → Y) (xs : List X) (x : X) → Has xs x → Has (map f xs) (f x)
has_map f [] x h = absurd h
has_map f (y ∷ ys) x (inl e) = inl (ap f e)
has_map f (y ∷ ys) x (inr h) = inr (has_map f ys x h)

has_either : {X : Type 0} (b : Bool) (y : X) (ys : List X) (x : X) → Has ys x → Has (cond b (y ∷ ys) ys) x
has_either true y ys x h = inr h
has_either false y ys x h = h

has_filter : {X : Type 0} (p : X → Bool) (xs : List X) (x : X) → Has xs x → p x ≡ true → Has (filter p xs) x
has_filter p [] x h passes = absurd h
has_filter p (y ∷ ys) x (inl e) passes = rw (ap p e ∙ passes) (inl e)
has_filter p (y ∷ ys) x (inr h) passes = has_either (p y) y (filter p ys) x (has_filter p ys x h passes)

has_left : {X : Type 0} (xs ys : List X) (x : X) → Has xs x → Has (xs ++ ys) x
has_left [] ys x h = absurd h
has_left (z ∷ zs) ys x (inl e) = inl e
has_left (z ∷ zs) ys x (inr h) = inr (has_left zs ys x h)

has_right : {X : Type 0} (xs ys : List X) (x : X) → Has ys x → Has (xs ++ ys) x
has_right [] ys x h = h
has_right (z ∷ zs) ys x h = inr (has_right zs ys x h)

-- ---- the entries of the items

entry_at : (base j : ℕ) (items : List ClearItem) (d : ClearItem) (pair : HashedPair) → j < length items → Has (get_or items j d).hashed pair → Has (entries_from base items) (entry_of (base + j) pair)
entry_at base j [] d pair lt h = absurd (omega (arith, lt))
entry_at base zero (item ∷ items) d pair lt h =
    let same : base ≡ base + 0 = omega arith in
    subst (λ place. Has (entries_from base (item ∷ items)) (entry_of place pair)) same (has_left _ _ _ (has_map (entry_of base) item.hashed pair h))
entry_at base (suc j) (item ∷ items) d pair lt h =
    let same : base + 1 + j ≡ base + suc j = omega arith in
    subst (λ place. Has (entries_from base (item ∷ items)) (entry_of place pair)) same (has_right (map (entry_of base) item.hashed) _ _ (entry_at (base + 1) j items d pair (omega (arith, lt)) h))

own_within : (base bound : ℕ) (hashed : List HashedPair) → base < bound → All (λ (e : Entry). e.place < bound) (map (entry_of base) hashed)
own_within base bound [] lt = All-nil _
own_within base bound (pair ∷ pairs) lt = All-cons (λ (e : Entry). e.place < bound) (entry_of base pair) _ lt (own_within base bound pairs lt)

entries_within : (base bound : ℕ) (items : List ClearItem) → base + length items ≤ bound → All (λ (e : Entry). e.place < bound) (entries_from base items)
entries_within base bound [] le = All-nil _
entries_within base bound (item ∷ items) le = All-append (λ (e : Entry). e.place < bound) _ _ (own_within base bound item.hashed (omega (arith, le))) (entries_within (base + 1) bound items (omega (arith, le)))

with_number_within : (bound : ℕ) (number : Option ℕ) (entries : List Entry) → All (λ (e : Entry). e.place < bound) entries → All (λ (e : Entry). e.place < bound) (with_number number entries)
with_number_within bound None entries all = All-nil _
with_number_within bound (Some key) entries all = All-filter _ (λ (e : Entry). e.place < bound) _ all

-- the places that a search looks at are places of items
pub places_within : (items : List ClearItem) (entries : List Entry) (text : ℕ) (number : Option ℕ) → IsIndexOf items entries → All (λ place. place < length items) (places_with text number entries)
places_within items entries text number index =
    let all = All-permutation (λ (e : Entry). e.place < length items) _ _ index.same (entries_within 0 (length items) items (omega arith)) in
    All-append (λ place. place < length items) _ _ (All-map (λ place. place < length items) (λ (e : Entry). e.place) _ (All-filter _ (λ (e : Entry). e.place < length items) _ all)) (All-map (λ place. place < length items) (λ (e : Entry). e.place) _ (with_number_within (length items) number entries all))

-- ---- a matching item has an entry with one of the keys

any_found : {X : Type 0} (test : X → Bool) (xs : List X) → list_any test xs ≡ true → (x : X) × Has xs x × (test x ≡ true)
any_found test [] e = absurd cc
any_found test (y ∷ ys) e =
    ⊎_elim
    (λ passes. (y, inl refl, passes))
    (λ fails.
    let more : list_any test ys ≡ true = rw fails at e in
    let found = any_found test ys more in
    (found.0, inr found.1, found.2))
    (cases_Bool (test y))

both : (a b : Bool) → (a && b) ≡ true → (a ≡ true) × (b ≡ true)
both true true e = (refl, refl)
both true false e = absurd cc
both false b e = absurd cc

listed : (text : ℕ) (number : Option ℕ) (entries : List Entry) (entry : Entry) → Has entries entry → (entry.key ≡ text) ⊎ ((key : ℕ) × (number ≡ Some key) × (entry.key ≡ key)) → Has (places_with text number entries) entry.place
listed text number entries entry h (inl e) = has_left _ _ _ (has_map (λ (e : Entry). e.place) _ entry (has_filter _ entries entry h (together _ _ e)))
listed text None entries entry h (inr at) =
    let none : Option ℕ = None in
    let given : none ≡ Some at.0 = at.1 in
    absurd cc
listed text (Some key) entries entry h (inr at) =
    let given : Some key ≡ Some at.0 = at.1 in
    let same : key ≡ at.0 = cc in
    let is : entry.key ≡ key = at.2 ∙ sym same in
    has_right _ _ _ (has_map (λ (e : Entry). e.place) _ entry (has_filter _ entries entry h (together _ _ is)))

either_key : (name text : List ℕ) (key text_key : ℕ) (number : Option ℕ) → HasKey name text key → text_key ≡ text_key_of name (text_hash text) → IsNumberKey name text number → (key ≡ text_key) ⊎ ((other : ℕ) × (number ≡ Some other) × (key ≡ other))
either_key name text key text_key number (inl e) is is_number = inl (e ∙ sym is)
either_key name text key text_key number (inr at) is is_number = inr (key, is_number at.0 at.1 ∙ ap Some (sym at.2), refl)

-- the place of an item with a matching hash is among those that a search looks at
pub place_listed : (name text : List ℕ) (items : List ClearItem) (entries : List Entry) (text_key : ℕ) (number : Option ℕ) (j : ℕ) (d : ClearItem) → text_key ≡ text_key_of name (text_hash text) → IsNumberKey name text number → IsIndexOf items entries → j < length items
    → has_hash name text (get_or items j d).hashed ≡ true → Contains (places_with text_key number entries) j
place_listed name text items entries text_key number j d is is_number index lt matches =
    let found = any_found (λ (pair : HashedPair). is_name name pair.name && is_hash_of text pair.value) (get_or items j d).hashed matches in
    let tests = both _ _ found.2 in
    let named : name ≡ found.0.name = same_name name found.0.name tests.0 in
    let key : key_of name found.0.value ≡ key_of found.0.name found.0.value = ap (λ n. key_of n found.0.value) named in
    let keyed : HasKey name text (key_of found.0.name found.0.value) = subst (HasKey name text) key (keyed_value name text found.0.value tests.1) in
    let from_start : 0 + j ≡ j = omega arith in
    let entry : Has (entries_from 0 items) (entry_of j found.0) = subst (λ place. Has (entries_from 0 items) (entry_of place found.0)) from_start (entry_at 0 j items d found.0 lt found.1) in
    let kept : Has entries (entry_of j found.0) = has _ _ (Contains-permutation _ _ _ index.same (contains _ _ entry)) in
    contains _ _ (listed text_key number entries (entry_of j found.0) kept (either_key name text _ text_key number keyed is is_number))

-- each test of a list that passes passes alone
pub passed_at : {X : Type 0} (test : X → Bool) (xs : List X) (i : ℕ) (d : X) → i < length xs → list_all test xs ≡ true → test (get_or xs i d) ≡ true
passed_at test [] i d lt e = absurd (omega (arith, lt))
passed_at test (x ∷ xs) zero d lt e = (both _ _ e).0
passed_at test (x ∷ xs) (suc i) d lt e = passed_at test xs i d (omega (arith, lt)) (both (test x) (list_all test xs) e).1
