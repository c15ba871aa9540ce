-- Values sorted by their numbers have rising numbers.
use Rattle.std.proofs.Common.{◌≡◌, ℕ, ◌<◌, List, [], ◌∷◌, ◌++◌, length, map, refl, sym, subst, ◌∙◌, append_assoc, arith}
use Rattle.std.specs.declared.cmp.Ordering.{Ordering}
use Rattle.std.specs.declared.cmp.Ordering.TheVariants.{Less, Equal, Greater}
use Rattle.std.specs.BTreeMap.{insert_entry}
use Rattle.std.specs.List.{AllByRecursion}
use Rattle.std.specs.List.Sorted.{IsStrictlyIncreasing}
use Rattle.std.specs.Map.{values_of}
use Rattle.std.specs.Ordering.{nat_cmp, match_ordering, MatchOrdering}
use Rattle.std.proofs.lemmas.Cmp.{ranked}
use Rattle.std.proofs.lemmas.List.{append-nil}
use Rattle.keyring_file.specs.Clear.{IsOfVersion, IsPlain}
use Rattle.keyring_file.specs.declared.clear.ClearItem.{ClearItem}
use Rattle.keyring_seal.specs.Order.{by_number, entered}
use Rattle.keyring_seal.proofs.RisingLemmas.{IsRising, place_by_rising}
use Rattle.keyring_seal.proofs.ArrangeLemmas.{all_by_number}
use Rattle.collection_store.specs.State.{ids_of}

module _ {X : Type 0} (number : X → ℕ) where
  abbrev Above : ℕ → List (ℕ × X) → Type 0
  Above m es = AllByRecursion (λ e. m < e.0) es

  abbrev Ordered : List (ℕ × X) → Type 0
  Ordered [] = Unit {0}
  Ordered (e ∷ es) = Above e.0 es × Ordered es

  abbrev Numbered : List (ℕ × X) → Type 0
  Numbered es = AllByRecursion (λ e. e.0 ≡ number e.1) es

  above_less : (m k : ℕ) (es : List (ℕ × X)) → m < k → Above k es → Above m es
  above_less m k [] lt all = tt
  above_less m k (e ∷ es) lt all = (omega (arith, lt, all.0), above_less m k es lt all.1)

  above_at : (m k : ℕ) (x : X) (e : ℕ × X) (es : List (ℕ × X)) (r : Ordering) → m < k → Above m (e ∷ es) → Above m (insert_entry nat_cmp es k x) → Above m (match_ordering r ((k, x) ∷ e ∷ es) ((e.0, x) ∷ es) (e ∷ insert_entry nat_cmp es k x))
  above_at m k x e es Less lt all more = (lt, all)
  above_at m k x e es Equal lt all more = all
  above_at m k x e es Greater lt all more = (all.0, more)

  above_insert : (m k : ℕ) (x : X) (es : List (ℕ × X)) → m < k → Above m es → Above m (insert_entry nat_cmp es k x)
  above_insert m k x [] lt all = (lt, tt)
  above_insert m k x (e ∷ es) lt all = above_at m k x e es (nat_cmp k e.0) lt all (above_insert m k x es lt all.1)

  ordered_at : (k : ℕ) (x : X) (e : ℕ × X) (es : List (ℕ × X)) (r : Ordering) → MatchOrdering r (k < e.0) (k ≡ e.0) (e.0 < k) → Ordered (e ∷ es) → Ordered (insert_entry nat_cmp es k x)
      → Ordered (match_ordering r ((k, x) ∷ e ∷ es) ((e.0, x) ∷ es) (e ∷ insert_entry nat_cmp es k x))
  ordered_at k x e es Less rank all more = ((rank, above_less k e.0 es rank all.0), all)
  ordered_at k x e es Equal rank all more = all
  ordered_at k x e es Greater rank all more = (above_insert e.0 k x es rank all.0, more)

  ordered_insert : (k : ℕ) (x : X) (es : List (ℕ × X)) → Ordered es → Ordered (insert_entry nat_cmp es k x)
  ordered_insert k x [] all = (tt, tt)
  ordered_insert k x (e ∷ es) all = ordered_at k x e es (nat_cmp k e.0) (ranked k e.0 (nat_cmp k e.0) refl) all (ordered_insert k x es all.1)

  numbered_at : (x : X) (e : ℕ × X) (es : List (ℕ × X)) (r : Ordering) → MatchOrdering r (number x < e.0) (number x ≡ e.0) (e.0 < number x) → Numbered (e ∷ es) → Numbered (insert_entry nat_cmp es (number x) x)
      → Numbered (match_ordering r ((number x, x) ∷ e ∷ es) ((e.0, x) ∷ es) (e ∷ insert_entry nat_cmp es (number x) x))
  numbered_at x e es Less rank all more = (refl, all)
  numbered_at x e es Equal rank all more = (sym rank, all.1)
  numbered_at x e es Greater rank all more = (all.0, more)

  numbered_insert : (x : X) (es : List (ℕ × X)) → Numbered es → Numbered (insert_entry nat_cmp es (number x) x)
  numbered_insert x [] all = (refl, tt)
  numbered_insert x (e ∷ es) all = numbered_at x e es (nat_cmp (number x) e.0) (ranked (number x) e.0 (nat_cmp (number x) e.0) refl) all (numbered_insert x es all.1)

  values_rising : (es : List (ℕ × X)) → Ordered es → Numbered es → IsRising number (values_of es)
  values_rising [] all are = tt
  values_rising (e ∷ []) all are = tt
  values_rising (e ∷ f ∷ es) all are = (omega (arith, all.0.0, are.0, are.1.0), values_rising (f ∷ es) all.1 are.1)

  entered_rising : (es : List (ℕ × X)) (these : List X) → Ordered es → Numbered es → IsRising number (values_of (entered number es these))
  entered_rising es [] all are = values_rising es all are
  entered_rising es (x ∷ more) all are = entered_rising (insert_entry nat_cmp es (number x) x) more (ordered_insert (number x) x es all) (numbered_insert x es are)

  pub by_number_rising : (these : List X) → IsRising number (by_number number these)
  unfolding by_number
  by_number_rising these = entered_rising [] these tt tt

-- a list without elements is empty
pub none_left : {X : Type 0} (rest : List X) → length rest ≡ 0 → rest ≡ []
none_left [] none = refl
none_left (x ∷ more) none = absurd (omega (arith, none))

-- ---- the items of a clear part, sorted by id

-- they have the same version
pub version_by_id : (minor : ℕ) (items made : List ClearItem) → made ≡ by_number (λ (item : ClearItem). item.id.0) items → IsOfVersion minor items → IsOfVersion minor made
version_by_id minor items made e old = record {
  known = old.known;
  plain = λ zero. rw e (all_by_number (λ (item : ClearItem). item.id.0) IsPlain items (old.plain zero));
}

-- their ids rise
pub rising_by_id : (items made : List ClearItem) → made ≡ by_number (λ (item : ClearItem). item.id.0) items → IsStrictlyIncreasing (ids_of made)
rising_by_id items made e = place_by_rising (λ (item : ClearItem). item.id.0) made (rw e (by_number_rising (λ (item : ClearItem). item.id.0) items))

-- one more element is mapped
pub made_more : {X Y : Type 0} (f : X → Y) (done : List Y) (x : X) (rest : List X) (all : List Y) → done ++ map f (x ∷ rest) ≡ all → (done ++ f x ∷ []) ++ map f rest ≡ all
made_more f done x rest all e = append_assoc done (f x ∷ []) (map f rest) ∙ e

-- all elements are mapped
pub made_all : {X Y : Type 0} (f : X → Y) (done : List Y) (rest : List X) (all : List Y) → rest ≡ [] → done ++ map f rest ≡ all → done ≡ all
made_all f done rest all none e = let whole : done ++ map f [] ≡ all = subst (λ r. done ++ map f r ≡ all) none e in sym (append-nil done) ∙ whole
