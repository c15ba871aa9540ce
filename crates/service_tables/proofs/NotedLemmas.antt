-- Lists with each path once, and the sets in which their paths are noted.
use Rattle.std.proofs.Common.{◌≡◌, ℕ, ◌||◌, Bool, true, false, cond, not, List, [], ◌∷◌, ◌++◌, nat_eq, refl, sym, ap, ◌∙◌}
use Rattle.std.specs.BTreeMap.{is_at}
use Rattle.std.specs.Cmp.Lexicographic.{pointwise, slice_cmp, texts_ties}
use Rattle.std.specs.List.{fold, list_any}
use Rattle.std.specs.Ordering.{nat_cmp}
use Rattle.std.proofs.lemmas.List.{map-append}
use Rattle.std.proofs.lemmas.List.Folds.{list_any-append}
use Rattle.std.proofs.lemmas.Map.Lookups.{exact_bytes}
use Rattle.kr_base.specs.Attributes.{is_name}
use Rattle.kr_base.proofs.OrderedLemmas.{is_equal, name-test}
use Rattle.kr_names.specs.declared.object_name.ObjectName.{ObjectName}
use Rattle.kr_names.specs.Path.{path_text}
use Rattle.service_tables.specs.Objects.{HaveSamePaths, is_listed, paths_of, with_object, with_path}

-- ---- single tests

not-true : (b : Bool) → not b ≡ true → b ≡ false
not-true true is = sym is
not-true false is = refl

not-false : (b : Bool) → not b ≡ false → b ≡ true
not-false true is = refl
not-false false is = sym is

either : (b x : Bool) → cond b true x ≡ (b || x)
either true x = refl
either false x = refl

alone : (b : Bool) → (b || false) ≡ b
alone true = refl
alone false = refl

turned : (a b : Bool) → (a || b) ≡ (b || a)
turned true true = refl
turned true false = refl
turned false true = refl
turned false false = refl

-- ---- a set of paths

pub contains-listed : (path : List ℕ) (keys : List (List ℕ)) → list_any (is_at (slice_cmp nat_cmp path)) keys ≡ is_listed path keys
contains-listed path [] = refl
contains-listed path (key ∷ keys) = λ i. sym (texts_ties path key) i || contains-listed path keys i

-- the paths of a set with one more
pub noted-more : (other path : List ℕ) (old new : List (List ℕ))
    → list_any (is_at (slice_cmp nat_cmp other)) new ≡ cond (is_name path other) true (list_any (is_at (slice_cmp nat_cmp other)) old)
    → is_listed other new ≡ (pointwise nat_eq other path || is_listed other old)
noted-more other path old new with_one =
    sym (contains-listed other new) ∙ with_one ∙ either (is_name path other) (list_any (is_at (slice_cmp nat_cmp other)) old)
    ∙ (λ i. (name-test path other ∙ sym (texts_ties other path)) i || contains-listed other old i)

-- a path that is equal to one that is listed is listed
listed-equal : (other path : List ℕ) (paths : List (List ℕ)) → pointwise nat_eq other path ≡ true → is_listed path paths ≡ true → is_listed other paths ≡ true
listed-equal other path paths equal listed =
    ap (λ p. is_listed p paths) (exact_bytes other path (is_equal (slice_cmp nat_cmp other path) (sym (texts_ties other path) ∙ equal))) ∙ listed

absorbed : (equal : Bool) (listed : Bool) → (equal ≡ true → listed ≡ true) → (equal || listed) ≡ listed
absorbed true listed is = sym (is refl)
absorbed false listed is = refl

-- the set of the paths of a list, with one more path, is that of the list with one more
pub noted-with : (path : List ℕ) (old new paths : List (List ℕ)) → HaveSamePaths old paths
    → ((other : List ℕ) → is_listed other new ≡ (pointwise nat_eq other path || is_listed other old))
    → HaveSamePaths new (with_path paths path)
noted-with path old new paths same noted =
    λ other.
    let before : is_listed other new ≡ (pointwise nat_eq other path || is_listed other paths) = noted other ∙ ap (λ b. pointwise nat_eq other path || b) (same other) in
    let pass : (b : Bool) → is_listed path paths ≡ b → (pointwise nat_eq other path || is_listed other paths) ≡ is_listed other (cond b paths (paths ++ path ∷ [])) =
    elim [
      | true ↦ λ is. absorbed (pointwise nat_eq other path) (is_listed other paths) (λ equal. listed-equal other path paths equal is)
      | false ↦ λ is.
          turned (pointwise nat_eq other path) (is_listed other paths)
          ∙ sym (list_any-append (pointwise nat_eq other) paths (path ∷ []) ∙ ap (λ b. is_listed other paths || b) (alone (pointwise nat_eq other path)))
    ] in
    before ∙ pass (is_listed path paths) refl

-- a path that is new comes after the others
pub with-new : (path : List ℕ) (noted paths : List (List ℕ)) → HaveSamePaths noted paths → not (is_listed path noted) ≡ true → paths ++ path ∷ [] ≡ with_path paths path
with-new path noted paths same new = ap (λ b. cond b paths (paths ++ path ∷ [])) (sym (not-true (is_listed path noted) new) ∙ same path)

-- one that is noted changes nothing
pub with-noted : (path : List ℕ) (noted paths : List (List ℕ)) → HaveSamePaths noted paths → not (is_listed path noted) ≡ false → paths ≡ with_path paths path
with-noted path noted paths same known = ap (λ b. cond b paths (paths ++ path ∷ [])) (sym (not-false (is_listed path noted) known) ∙ same path)

-- the same of an object and its path
pub object-new : (path : List ℕ) (noted : List (List ℕ)) (listed : List ObjectName) (object : ObjectName) → path ≡ path_text object → HaveSamePaths noted (paths_of listed)
    → not (is_listed path noted) ≡ true → listed ++ object ∷ [] ≡ with_object listed object
object-new path noted listed object spelled same new =
    ap (λ b. cond b listed (listed ++ object ∷ [])) (sym (not-true (is_listed path noted) new) ∙ same path ∙ ap (λ p. is_listed p (paths_of listed)) spelled)

pub object-noted : (path : List ℕ) (noted : List (List ℕ)) (listed : List ObjectName) (object : ObjectName) → path ≡ path_text object → HaveSamePaths noted (paths_of listed)
    → not (is_listed path noted) ≡ false → listed ≡ with_object listed object
object-noted path noted listed object spelled same known =
    ap (λ b. cond b listed (listed ++ object ∷ [])) (sym (not-false (is_listed path noted) known) ∙ same path ∙ ap (λ p. is_listed p (paths_of listed)) spelled)

-- ---- the paths of objects

pub paths-with : (listed : List ObjectName) (object : ObjectName) → paths_of (with_object listed object) ≡ with_path (paths_of listed) (path_text object)
paths-with listed object =
    let pass : (b : Bool) → paths_of (cond b listed (listed ++ object ∷ [])) ≡ cond b (paths_of listed) (paths_of listed ++ path_text object ∷ []) =
    elim [ true ↦ refl | false ↦ map-append path_text listed (object ∷ []) ] in
    pass (is_listed (path_text object) (paths_of listed))

-- objects with each path once have the paths, each once
pub once-paths : (listed objects : List ObjectName) → fold with_path (paths_of listed) (paths_of objects) ≡ paths_of (fold with_object listed objects)
once-paths listed [] = refl
once-paths listed (object ∷ objects) =
    ap (λ paths. fold with_path paths (paths_of objects)) (sym (paths-with listed object)) ∙ once-paths (with_object listed object) objects
