-- Rows by rising numbers: the same rows, in another order.
use Rattle.std.proofs.Common.{◌≡◌, ℕ, ◌<◌, Bool, true, false, ◌||◌, nat_eq, List, [], ◌∷◌, ◌++◌, map, refl, sym, ap, ◌∙◌, arith}
use Rattle.std.specs.declared.cmp.Ordering.{Ordering}
use Rattle.std.specs.declared.cmp.Ordering.TheVariants.{Less, Equal, Greater}
use Rattle.std.specs.BTreeMap.{insert_entry}
use Rattle.std.specs.Cmp.{nat_eq_equiv}
use Rattle.std.specs.List.{AllByRecursion, IsDistinct, list_any}
use Rattle.std.specs.List.Sorted.{IsPermutation}
use Rattle.std.specs.Map.{keys_of, values_of}
use Rattle.std.specs.Ordering.{nat_cmp, match_ordering, MatchOrdering}
use Rattle.std.proofs.lemmas.Bool.Decides.{nat_tests}
use Rattle.std.proofs.lemmas.Cmp.{ranked}
use Rattle.std.proofs.lemmas.List.{append-nil}
use Rattle.std.proofs.lemmas.List.Sorted.{IsPermutation-refl, IsPermutation-sym, IsPermutation-cons, IsPermutation-trans, IsPermutation-middle, IsPermutation-map, IsPermutation-append_right}
use Rattle.std.proofs.lemmas.Map.Keys.{IsDistinct-head, IsDistinct-IsPermutation}
use Rattle.keyring_seal.specs.Order.{entered, by_number}

neither : (a b : Bool) → (a || b) ≡ false → (a ≡ false) × (b ≡ false)
neither true b e = absurd cc
neither false b e = (refl, e)

module _ {X : Type 0} where
  -- a row that is inserted at its position is one more row
  at_place : (k : ℕ) (x : X) (e : ℕ × X) (es : List (ℕ × X)) (r : Ordering) → MatchOrdering r (k < e.0) (k ≡ e.0) (e.0 < k) → nat_eq k e.0 ≡ false
      → IsPermutation ((k, x) ∷ es) (insert_entry nat_cmp es k x)
      → IsPermutation ((k, x) ∷ e ∷ es) (match_ordering r ((k, x) ∷ e ∷ es) ((e.0, x) ∷ es) (e ∷ insert_entry nat_cmp es k x))
  at_place k x e es Less rank apart more = IsPermutation-refl ((k, x) ∷ e ∷ es)
  at_place k x e es Equal rank apart more = absurd (grind (arith, nat_tests))
  at_place k x e es Greater rank apart more =
      IsPermutation-trans ((k, x) ∷ e ∷ es) (e ∷ (k, x) ∷ es) (e ∷ insert_entry nat_cmp es k x)
      (IsPermutation-sym (e ∷ (k, x) ∷ es) ((k, x) ∷ e ∷ es) (IsPermutation-middle (e ∷ []) (k, x) es))
      (IsPermutation-cons e ((k, x) ∷ es) (insert_entry nat_cmp es k x) more)

  pub insert-permutation : (k : ℕ) (x : X) (es : List (ℕ × X)) → list_any (nat_eq k) (keys_of es) ≡ false → IsPermutation ((k, x) ∷ es) (insert_entry nat_cmp es k x)
  insert-permutation k x [] apart = IsPermutation-refl ((k, x) ∷ [])
  insert-permutation k x (e ∷ es) apart =
      let parts = neither (nat_eq k e.0) (list_any (nat_eq k) (keys_of es)) apart in
      at_place k x e es (nat_cmp k e.0) (ranked k e.0 (nat_cmp k e.0) refl) parts.0 (insert-permutation k x es parts.1)

none_behind : (k : ℕ) (front back : List ℕ) → AllByRecursion (λ y. nat_eq k y ≡ false) (front ++ back) → list_any (nat_eq k) back ≡ false
none_behind k [] [] h = refl
none_behind k [] (y ∷ ys) h = rw h.0 (none_behind k [] ys h.1)
none_behind k (x ∷ xs) back h = none_behind k xs back h.1

module _ {X : Type 0} (number : X → ℕ) where
  pub entered-permutation : (es : List (ℕ × X)) (rows : List X) → IsDistinct nat_eq (map number rows ++ keys_of es) → IsPermutation (rows ++ values_of es) (values_of (entered number es rows))
  entered-permutation es [] distinct = IsPermutation-refl (values_of es)
  entered-permutation es (x ∷ more) distinct =
      let k = number x in
      let next = insert_entry nat_cmp es k x in
      let apart = none_behind k (map number more) (keys_of es) (IsDistinct-head nat_eq k (map number more ++ keys_of es) distinct) in
      let moved : IsPermutation ((k, x) ∷ es) next = insert-permutation k x es apart in
      let keys : IsPermutation (k ∷ keys_of es) (keys_of next) = IsPermutation-map (λ (e : ℕ × X). e.0) ((k, x) ∷ es) next moved in
      let values : IsPermutation (x ∷ values_of es) (values_of next) = IsPermutation-map (λ (e : ℕ × X). e.1) ((k, x) ∷ es) next moved in
      let reordered : IsPermutation (k ∷ (map number more ++ keys_of es)) (map number more ++ keys_of next) =
      IsPermutation-trans (k ∷ (map number more ++ keys_of es)) (map number more ++ k ∷ keys_of es) (map number more ++ keys_of next)
      (IsPermutation-sym (map number more ++ k ∷ keys_of es) (k ∷ (map number more ++ keys_of es)) (IsPermutation-middle (map number more) k (keys_of es)))
      (IsPermutation-append_right (map number more) (k ∷ keys_of es) (keys_of next) keys) in
      let still : IsDistinct nat_eq (map number more ++ keys_of next) = IsDistinct-IsPermutation nat_eq nat_eq_equiv.symm (k ∷ (map number more ++ keys_of es)) (map number more ++ keys_of next) reordered distinct in
      IsPermutation-trans (x ∷ (more ++ values_of es)) (more ++ values_of next) (values_of (entered number next more))
      (
      IsPermutation-trans (x ∷ (more ++ values_of es)) (more ++ x ∷ values_of es) (more ++ values_of next)
      (IsPermutation-sym (more ++ x ∷ values_of es) (x ∷ (more ++ values_of es)) (IsPermutation-middle more x (values_of es)))
      (IsPermutation-append_right more (x ∷ values_of es) (values_of next) values)
      )
      (entered-permutation next more still)

  -- rows whose numbers differ, when put by rising numbers, are the same rows
  pub by_number-permutation : (rows : List X) → IsDistinct nat_eq (map number rows) → IsPermutation rows (by_number number rows)
  unfolding by_number
  by_number-permutation rows distinct =
      let all : IsPermutation (rows ++ []) (values_of (entered number [] rows)) = entered-permutation [] rows (rw (append-nil (map number rows)) distinct) in
      rw append-nil at all

-- ---- rows that are changed, and keep their numbers

module _ {X Y : Type 0} (f : X → Y) where
  -- the entries with their rows changed
  abbrev pub changed : List (ℕ × X) → List (ℕ × Y)
  changed es = map {B = ℕ × Y} (λ (e : ℕ × X). (e.0, f e.1)) es

  changed-match : (r : Ordering) (a b c : List (ℕ × X)) → changed (match_ordering r a b c) ≡ match_ordering r (changed a) (changed b) (changed c)
  changed-match Less a b c = refl
  changed-match Equal a b c = refl
  changed-match Greater a b c = refl

  pub changed-insert : (k : ℕ) (x : X) (es : List (ℕ × X)) → changed (insert_entry nat_cmp es k x) ≡ insert_entry nat_cmp (changed es) k (f x)
  changed-insert k x [] = refl
  changed-insert k x (e ∷ es) =
      changed-match (nat_cmp k e.0) ((k, x) ∷ e ∷ es) ((e.0, x) ∷ es) (e ∷ insert_entry nat_cmp es k x)
      ∙ ap (λ (t : List (ℕ × Y)). match_ordering (nat_cmp k e.0) ((k, f x) ∷ (e.0, f e.1) ∷ changed es) ((e.0, f x) ∷ changed es) ((e.0, f e.1) ∷ t)) (changed-insert k x es)

  pub values_of-changed : (es : List (ℕ × X)) → values_of (changed es) ≡ map f (values_of es)
  values_of-changed [] = refl
  values_of-changed (e ∷ es) = ap (λ (t : List Y). f e.1 ∷ t) (values_of-changed es)

  module _ (number : X → ℕ) (as_number : Y → ℕ) (kept : (x : X) → as_number (f x) ≡ number x) where
    changed-entered : (es : List (ℕ × X)) (rows : List X) → changed (entered number es rows) ≡ entered as_number (changed es) (map f rows)
    changed-entered es [] = refl
    changed-entered es (x ∷ more) =
        changed-entered (insert_entry nat_cmp es (number x) x) more
        ∙ ap (λ (t : List (ℕ × Y)). entered as_number t (map f more)) (changed-insert (number x) x es ∙ ap (λ (k : ℕ). insert_entry nat_cmp (changed es) k (f x)) (sym (kept x)))

    pub map-by_number : (rows : List X) → map f (by_number number rows) ≡ by_number as_number (map f rows)
    unfolding by_number
    map-by_number rows = sym (values_of-changed (entered number [] rows)) ∙ ap (λ (es : List (ℕ × Y)). values_of es) (changed-entered [] rows)
