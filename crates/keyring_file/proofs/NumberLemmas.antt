-- Numbers that are kept while items are read.
use Rattle.std.proofs.Common.{◌≡◌, ℕ, ◌+◌, ◌≤◌, ◌<◌, nat_eq, Bool, true, false, not, ◌||◌, List, [], ◌∷◌, ◌++◌, length, take, get_or, refl, sym, ap, subst, ◌∙◌, arith}
use Rattle.std.specs.declared.cmp.Ordering.{Ordering}
use Rattle.std.specs.declared.cmp.Ordering.TheVariants.{Less, Equal, Greater}
use Rattle.std.specs.BTreeSet.{insert_key}
use Rattle.std.specs.List.{AllByRecursion, list_any}
use Rattle.std.specs.Ordering.{nat_cmp, is_eq, match_ordering, MatchOrdering}
use Rattle.std.proofs.lemmas.Bool.{ne_eqb}
use Rattle.std.proofs.lemmas.Cmp.{ranked}
use Rattle.std.proofs.lemmas.List.{take_more}
use Rattle.keyring_text.proofs.Loops.{seen_after}
use Rattle.keyring_text.proofs.SeenLemmas.{any-alike}
use Rattle.keyring_file.specs.declared.clear.ClearItem.{ClearItem}
use Rattle.keyring_file.specs.Numbers.{IsGathered, has_number}
use Rattle.keyring_file.proofs.Keeps.{cmp-eq}

-- ---- one of the elements of a list

or-turn : (p b s : Bool) → (b || (p || s)) ≡ ((p || b) || s)
or-turn true true s = refl
or-turn true false s = refl
or-turn false true s = refl
or-turn false false s = refl

or-off : (b : Bool) → (b || false) ≡ b
or-off true = refl
or-off false = refl

or-again : (p s : Bool) → (p || s) ≡ (p || (p || s))
or-again true s = refl
or-again false s = refl

or-swap : (a b s : Bool) → (a || (b || s)) ≡ (b || (a || s))
or-swap true true s = refl
or-swap true false s = refl
or-swap false true s = refl
or-swap false false s = refl

any-seen : {A K : Type 0} (same : K → K → Bool) (key : A → K) (q : K) (xs : List A) (seen : List K) → list_any (same q) (seen_after key xs seen) ≡ (list_any (λ x. same q (key x)) xs || list_any (same q) seen)
any-seen same key q [] seen = refl
any-seen same key q (x ∷ xs) seen = any-seen same key q xs (key x ∷ seen) ∙ or-turn (same q (key x)) (list_any (λ y. same q (key y)) xs) (list_any (same q) seen)

-- a key is among the elements exactly if it was seen
pub stood-seen : {A K : Type 0} (same : K → K → Bool) (key : A → K) (xs : List A) (q : K) → list_any (λ x. same q (key x)) xs ≡ list_any (same q) (seen_after key xs [])
stood-seen same key xs q = sym (any-seen same key q xs [] ∙ or-off (list_any (λ x. same q (key x)) xs))

any-push : {A : Type 0} (p : A → Bool) (xs : List A) (x : A) → list_any p (xs ++ x ∷ []) ≡ (p x || list_any p xs)
any-push p [] x = refl
any-push p (y ∷ xs) x = ap (λ b. p y || b) (any-push p xs x) ∙ or-swap (p y) (p x) (list_any p xs)

-- ---- rising numbers

-- no item has a number that isn't below the bound
pub not-there : (items : List ClearItem) (below id : ℕ) → AllByRecursion (λ item. item.id.0 < below) items → below ≤ id → has_number items id ≡ false
not-there [] below id all le = refl
not-there (item ∷ items) below id all le =
    let off : nat_eq id item.id.0 ≡ false = ne_eqb id item.id.0 (λ e. omega (arith, e, all.0, le)) in
    ap (λ b. b || has_number items id) off ∙ not-there items below id all.1 le

-- with this number, all are below the next one
pub still-below : (items : List ClearItem) (item : ClearItem) (below id : ℕ) → AllByRecursion (λ item. item.id.0 < below) items → below ≤ id → item.id.0 ≡ id → AllByRecursion (λ item. item.id.0 < id + 1) (items ++ item ∷ [])
still-below [] item below id all le e = (omega (arith, e), tt)
still-below (first ∷ items) item below id all le e = (omega (arith, all.0, le), still-below items item below id all.1 le e)

-- ---- their set

at_order : (p : ℕ → Bool) (k x : ℕ) (xs : List ℕ) (o : Ordering) → MatchOrdering o (k < x) (k ≡ x) (x < k) → list_any p (insert_key nat_cmp xs k) ≡ (p k || list_any p xs)
    → list_any p (match_ordering o (k ∷ x ∷ xs) (x ∷ xs) (x ∷ insert_key nat_cmp xs k)) ≡ (p k || (p x || list_any p xs))
at_order p k x xs Less rank h = refl
at_order p k x xs Equal rank h = or-again (p x) (list_any p xs) ∙ ap (λ n. p n || (p x || list_any p xs)) (sym rank)
at_order p k x xs Greater rank h = ap (λ b. p x || b) h ∙ or-swap (p x) (p k) (list_any p xs)

any-put : (p : ℕ → Bool) (ks : List ℕ) (k : ℕ) → list_any p (insert_key nat_cmp ks k) ≡ (p k || list_any p ks)
any-put p [] k = refl
any-put p (x ∷ xs) k = at_order p k x xs (nat_cmp k x) (ranked k x (nat_cmp k x) refl) (any-put p xs k)

-- one more item, and its number in the set
pub gathered-push : (items : List ClearItem) (item : ClearItem) (keys more : List ℕ) (id : ℕ) → IsGathered items keys → more ≡ insert_key nat_cmp keys id → item.id.0 ≡ id → IsGathered (items ++ item ∷ []) more
gathered-push items item keys more id gathered put e q =
    ap (λ ks. list_any (λ k. nat_eq q k) ks) put ∙ any-put (λ k. nat_eq q k) keys id ∙ ap (λ b. nat_eq q id || b) (gathered q) ∙ ap (λ n. nat_eq q n || has_number items q) (sym e) ∙ sym (any-push (λ x. nat_eq q x.id.0) items item)

-- a number is new to the set exactly if no item has it
pub new-alike : (items : List ClearItem) (keys : List ℕ) (id : ℕ) (new : Bool) → IsGathered items keys → new ≡ not (list_any (λ x. is_eq (nat_cmp id x)) keys) → new ≡ not (has_number items id)
new-alike items keys id new gathered e = e ∙ ap (λ b. not b) (any-alike (λ x. is_eq (nat_cmp id x)) (λ x. nat_eq id x) (λ x. cmp-eq id x) keys ∙ gathered id)

-- no test is both true and false
pub both : {X : Type 0} (b : Bool) → b ≡ true → b ≡ false → X
both true e f = absurd cc
both false e f = absurd cc

-- the set after the loop's next item
pub gathered-more : (items : List ClearItem) (i : ℕ) (item : ClearItem) (keys more : List ℕ) → i < length items → item ≡ get_or items i item → IsGathered (take i items) keys → more ≡ insert_key nat_cmp keys item.id.0 → IsGathered (take (i + 1) items) more
gathered-more items i item keys more lt is gathered put =
    let parts : take (i + 1) items ≡ take i items ++ item ∷ [] = take_more items i item lt ∙ ap (λ x. take i items ++ x ∷ []) (sym is) in
    subst (λ xs. IsGathered xs more) (sym parts) (gathered-push (take i items) item keys more item.id.0 gathered put refl)
