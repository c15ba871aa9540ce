-- Files by their names: one is removed, one is added, and which names there are.
use Rattle.std.proofs.Common.{◌≡◌, ⊎_elim, ℕ, ◌<◌, List, [], ◌∷◌, ◌++◌, Bool, true, false, cond, not, nat_eq, None, Some, IsSome, refl, sym, ◌∙◌, ap, subst, arith}
use Rattle.std.specs.List.{filter, Contains, AllByRecursion}
use Rattle.std.specs.Cmp.Lexicographic.{pointwise}
use Rattle.std.specs.Cmp.Lexicographic.{nat_list_eq_equiv}
use Rattle.std.proofs.lemmas.Map.Keys.{IsDistinct-head, IsDistinct-tail, IsDistinct-cons}
use Rattle.std.proofs.lemmas.Map.Made.{IsDistinct-from_count}
use Rattle.std.proofs.lemmas.Slice.Eq.{bytes_eq-Decides}
use Rattle.std.proofs.lemmas.List.Elements.{Contains-append_right, Contains-append_cases, Contains-push_cases}
use Rattle.kr_outside.specs.Folder.{Lists}
use Rattle.kr_outside.specs.RenameDisk.{Image}
use Rattle.kr_memory_disk.specs.declared.files.MemoryFile.{MemoryFile}
use Rattle.kr_memory_disk.specs.Files.{image_in, names_of, HasDistinctNames}

-- by cases on a test
pub by_test : (Q : Bool → Type 0) (b : Bool) → (b ≡ true → Q true) → (b ≡ false → Q false) → Q b
by_test Q true if_true if_false = if_true refl
by_test Q false if_true if_false = if_false refl

same : (name : List ℕ) → pointwise nat_eq name name ≡ true
same name = (bytes_eq-Decides name name).1 refl

differs : (one two : List ℕ) → ¬ (one ≡ two) → pointwise nat_eq one two ≡ false
differs one two h = by_test (λ t. t ≡ false) (pointwise nat_eq one two) (λ is. absurd (h ((bytes_eq-Decides one two).0 is))) (λ is. refl)

-- the files of other names
abbrev others : List ℕ → List MemoryFile → List MemoryFile
others name files = filter (λ file. not (pointwise nat_eq file.name name)) files

pub image_in_others : (name : List ℕ) (files : List MemoryFile) → image_in (others name files) name ≡ None
image_in_others name [] = refl
image_in_others name (file ∷ files) = by_test
    (λ t. image_in (cond (not t) (file ∷ others name files) (others name files)) name ≡ None)
    (pointwise nat_eq file.name name)
    (λ is. image_in_others name files)
    (λ is. subst (λ t. cond t (Some file.bytes) (image_in (others name files) name) ≡ None) (sym is) (image_in_others name files))

pub image_in_others-other : (name other : List ℕ) → ¬ (other ≡ name) → (files : List MemoryFile) → image_in (others name files) other ≡ image_in files other
image_in_others-other name other h [] = refl
image_in_others-other name other h (file ∷ files) = by_test
    (λ t. image_in (cond (not t) (file ∷ others name files) (others name files)) other ≡ image_in (file ∷ files) other)
    (pointwise nat_eq file.name name)
    (λ is. subst (λ t. image_in (others name files) other ≡ cond t (Some file.bytes) (image_in files other))
    (sym (differs file.name other (λ (e : file.name ≡ other). h (sym e ∙ (bytes_eq-Decides file.name name).0 is))))
    (image_in_others-other name other h files))
    (λ is. ap (λ (i : Image). cond (pointwise nat_eq file.name other) (Some file.bytes) i) (image_in_others-other name other h files))

abbrev file_of : List ℕ → List ℕ → MemoryFile
file_of name bytes = record { name = name; bytes = bytes }

pub image_in-push : (name bytes : List ℕ) (files : List MemoryFile) → image_in files name ≡ None → image_in (files ++ (file_of name bytes) ∷ []) name ≡ Some bytes
image_in-push name bytes [] none = subst (λ t. cond t (Some bytes) None ≡ Some bytes) (sym (same name)) refl
image_in-push name bytes (file ∷ files) none = by_test
    (λ t. cond t (Some file.bytes) (image_in files name) ≡ None → cond t (Some file.bytes) (image_in (files ++ (file_of name bytes) ∷ []) name) ≡ Some bytes)
    (pointwise nat_eq file.name name)
    (λ is some. absurd (let never : ⊥ = cc in never))
    (λ is rest. image_in-push name bytes files rest)
    none

pub image_in-push_other : (name bytes other : List ℕ) → ¬ (other ≡ name) → (files : List MemoryFile) → image_in (files ++ (file_of name bytes) ∷ []) other ≡ image_in files other
image_in-push_other name bytes other h [] = subst (λ t. cond t (Some bytes) None ≡ None) (sym (differs name other (λ (e : name ≡ other). h (sym e)))) refl
image_in-push_other name bytes other h (file ∷ files) =
    ap (λ (i : Image). cond (pointwise nat_eq file.name other) (Some file.bytes) i) (image_in-push_other name bytes other h files)

all_others : (P : List ℕ → Type 0) (name : List ℕ) (files : List MemoryFile) → AllByRecursion P (names_of files) → AllByRecursion P (names_of (others name files))
all_others P name [] all = all
all_others P name (file ∷ files) (first, rest) = by_test
    (λ t. AllByRecursion P (names_of (cond (not t) (file ∷ others name files) (others name files))))
    (pointwise nat_eq file.name name)
    (λ is. all_others P name files rest)
    (λ is. (first, all_others P name files rest))

-- the empty list has distinct names
pub distinct_none : HasDistinctNames []
distinct_none = IsDistinct-from_count nat_list_eq_equiv [] refl

-- what distinct names say of the first file and of the others
apart : (file : MemoryFile) (files : List MemoryFile) → HasDistinctNames (file ∷ files) → AllByRecursion (λ y. pointwise nat_eq file.name y ≡ false) (names_of files)
apart file files distinct = IsDistinct-head (pointwise nat_eq) file.name (names_of files) distinct

behind : (file : MemoryFile) (files : List MemoryFile) → HasDistinctNames (file ∷ files) → HasDistinctNames files
behind file files distinct = IsDistinct-tail (pointwise nat_eq) file.name (names_of files) distinct

longer : (file : MemoryFile) (files : List MemoryFile) → AllByRecursion (λ y. pointwise nat_eq file.name y ≡ false) (names_of files) → HasDistinctNames files → HasDistinctNames (file ∷ files)
longer file files first rest = IsDistinct-cons (pointwise nat_eq) file.name (names_of files) first rest

pub distinct_others : (name : List ℕ) (files : List MemoryFile) → HasDistinctNames files → HasDistinctNames (others name files)
distinct_others name [] distinct = distinct
distinct_others name (file ∷ files) distinct = by_test
    (λ t. HasDistinctNames (cond (not t) (file ∷ others name files) (others name files)))
    (pointwise nat_eq file.name name)
    (λ is. distinct_others name files (behind file files distinct))
    (λ is. longer file (others name files) (all_others (λ y. pointwise nat_eq file.name y ≡ false) name files (apart file files distinct)) (distinct_others name files (behind file files distinct)))

all_push : (P : List ℕ → Type 0) (name bytes : List ℕ) (files : List MemoryFile) → AllByRecursion P (names_of files) → P name → AllByRecursion P (names_of (files ++ (file_of name bytes) ∷ []))
all_push P name bytes [] all new = (new, tt)
all_push P name bytes (file ∷ files) (first, rest) new = (first, all_push P name bytes files rest new)

pub distinct_push : (name bytes : List ℕ) (files : List MemoryFile) → image_in files name ≡ None → HasDistinctNames files → HasDistinctNames (files ++ (file_of name bytes) ∷ [])
distinct_push name bytes [] none distinct = longer (file_of name bytes) [] tt distinct_none
distinct_push name bytes (file ∷ files) none distinct =
    longer file (files ++ (file_of name bytes) ∷ []) (all_push (λ y. pointwise nat_eq file.name y ≡ false) name bytes files (apart file files distinct) differ)
    (distinct_push name bytes files none_behind (behind file files distinct))
  where
    differ : pointwise nat_eq file.name name ≡ false
    differ = by_test (λ t. cond t (Some file.bytes) (image_in files name) ≡ None → t ≡ false) (pointwise nat_eq file.name name) (λ is some. absurd (let never : ⊥ = cc in never)) (λ is none. refl) none

    none_behind : image_in files name ≡ None
    none_behind = by_test (λ t. cond t (Some file.bytes) (image_in files name) ≡ None → image_in files name ≡ None) (pointwise nat_eq file.name name) (λ is some. absurd (let never : ⊥ = cc in never)) (λ is none. none) none

-- a name is listed exactly if it stands for a file
pub listed : (files : List MemoryFile) (name : List ℕ) → Contains (names_of files) name → IsSome (image_in files name)
listed [] name (k, within, is) = absurd (omega (arith, within))
listed (file ∷ files) name contains = by_test
    (λ t. (pointwise nat_eq file.name name ≡ t) → IsSome (cond t (Some file.bytes) (image_in files name)))
    (pointwise nat_eq file.name name)
    (λ is _. refl)
    (λ is not_first. listed files name (⊎_elim
    (λ (first : Contains (file.name ∷ []) name). absurd (⊎_elim
    (λ (none : Contains [] name). let k : none.0 < 0 = none.1 in omega (arith, k))
    (λ (e : file.name ≡ name). let t : pointwise nat_eq file.name name ≡ true = (bytes_eq-Decides file.name name).1 e in cc)
    (Contains-push_cases [] file.name name first)))
    (λ (rest : Contains (names_of files) name). rest)
    (Contains-append_cases (file.name ∷ []) (names_of files) name contains)))
    refl

pub is_listed : (files : List MemoryFile) (name : List ℕ) → IsSome (image_in files name) → Contains (names_of files) name
is_listed [] name some = absurd (cc)
is_listed (file ∷ files) name some = by_test
    (λ t. IsSome (cond t (Some file.bytes) (image_in files name)) → (pointwise nat_eq file.name name ≡ t) → Contains (names_of (file ∷ files)) name)
    (pointwise nat_eq file.name name)
    (λ is _ first. (0, omega arith, (bytes_eq-Decides file.name name).0 first))
    (λ is rest _. Contains-append_right (file.name ∷ []) (names_of files) name (is_listed files name rest))
    some refl

-- the names are those of all files, each once
pub lists_names : (made : List (List ℕ)) (files : List MemoryFile) → HasDistinctNames files → Lists made (λ name. image_in files name) (names_of files)
lists_names made files distinct = record { once = distinct; all = λ name _. (listed files name, is_listed files name) }
