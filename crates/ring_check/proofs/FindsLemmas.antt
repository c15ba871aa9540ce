-- From the names that were looked at to the files of a folder.
use Rattle.std.proofs.Common.{◌≡◌, ◌⊎◌, ⊎_elim, inl, inr, ◌↔◌, ℕ, zero, suc, Bool, true, false, cond, IsTrue, IsSome, List, [], ◌∷◌, ◌++◌, length, replicate, filter, OnOk, OnErr, ◌<◌, Option, None, Some, Result, Ok, Err, IfOk, refl, sym, ◌∙◌, ap, subst, arith}
use Rattle.std.specs.List.{Contains, AllByRecursion}
use Rattle.std.specs.List.Sorted.{IsStrictlySortedBy}
use Rattle.std.specs.Map.{keys_of}
use Rattle.std.specs.Ordering.{nat_cmp}
use Rattle.std.specs.Cmp.Lexicographic.{slice_cmp}
use Rattle.kr_base.specs.Attributes.{IsInOrder}
use Rattle.kr_outside.specs.RenameDisk.{Image}
use Rattle.folder_store.proofs.OpenedLemmas.{cons_cases}
use Rattle.ring_check.specs.Batches.{Finds, nothing, absent, present}
use Rattle.std.proofs.lemmas.List.{length-replicate}
use Rattle.keyring_file.specs.Limits.{file_limit}
use Rattle.ring_check.specs.Folder.{AreChecked, is_checked}
use Rattle.ring_check.specs.Looks.{HasBytes, Shows}
use Rattle.ring_check.specs.declared.reading.Found.{Found}
use Rattle.ring_check.specs.declared.reading.Found.TheVariants as found

first_of : (x : List ℕ) (xs : List (List ℕ)) (n : List ℕ) → n ≡ x → Contains (x ∷ xs) n
first_of x xs n same = (0, omega arith, sym same)

next_of : (x : List ℕ) (xs : List (List ℕ)) (n : List ℕ) → Contains xs n → Contains (x ∷ xs) n
next_of x xs n (k, in_range, is) = (suc k, omega (arith, in_range), is)

none_in : (n : List ℕ) → Contains [] n → ⊥
none_in n has = absurd (omega (arith, has.1))

in_rest : (p : List ℕ → Bool) (x : List ℕ) (xs : List (List ℕ)) (n : List ℕ) (b : Bool) → p x ≡ b → (Contains (filter p xs) n → Contains xs n × (p n ≡ true))
    → Contains (cond b (x ∷ filter p xs) (filter p xs)) n → Contains (x ∷ xs) n × (p n ≡ true)
in_rest p x xs n true e rest h = ⊎_elim
    (λ same. (first_of x xs n same, ap p same ∙ e))
    (λ later. (next_of x xs n (rest later).0, (rest later).1))
    (cons_cases x (filter p xs) n h)
in_rest p x xs n false e rest h = (next_of x xs n (rest h).0, (rest h).1)

-- what is kept was there, and passes
pub filter_in : (p : List ℕ → Bool) (xs : List (List ℕ)) (n : List ℕ) → Contains (filter p xs) n → Contains xs n × (p n ≡ true)
filter_in p [] n has = absurd (none_in n has)
filter_in p (x ∷ xs) n has = in_rest p x xs n (p x) refl (filter_in p xs n) has

kept_rest : (p : List ℕ → Bool) (x : List ℕ) (xs : List (List ℕ)) (n : List ℕ) (b : Bool) → p x ≡ b → p n ≡ true → (Contains xs n → Contains (filter p xs) n) → Contains (x ∷ xs) n
    → Contains (cond b (x ∷ filter p xs) (filter p xs)) n
kept_rest p x xs n true e passes rest has = ⊎_elim (λ same. first_of x (filter p xs) n same) (λ later. next_of x (filter p xs) n (rest later)) (cons_cases x xs n has)
kept_rest p x xs n false e passes rest has = ⊎_elim
    (λ same. absurd (let wrong : true ≡ false = sym passes ∙ ap p same ∙ e in let never : ⊥ = cc in never))
    rest
    (cons_cases x xs n has)

-- and the other way round
pub filter_keeps : (p : List ℕ → Bool) (xs : List (List ℕ)) (n : List ℕ) → Contains xs n → p n ≡ true → Contains (filter p xs) n
filter_keeps p [] n has passes = absurd (none_in n has)
filter_keeps p (x ∷ xs) n has passes = kept_rest p x xs n (p x) refl passes (λ later. filter_keeps p xs n later passes) has

-- the names that are checked, in another order
pub among_checked : (names kept sorted : List (List ℕ)) → kept ≡ filter is_checked names → ((n : List ℕ) → Contains sorted n ↔ Contains kept n)
    → (n : List ℕ) → Contains sorted n ↔ (Contains names n × IsTrue (is_checked n))
among_checked names kept sorted is same n = (
  λ has. filter_in is_checked names n (subst (λ l. Contains l n) is ((same n).0 has)),
  λ both. (same n).1 (subst (λ l. Contains l n) (sym is) (filter_keeps is_checked names n both.0 both.1)),
)

module _ (honest : Bool) (images : List ℕ → Image) where
  pub finds-append : (xs ys : List (List ℕ)) (fs gs : List (List ℕ × List ℕ)) → Finds honest images xs fs → Finds honest images ys gs → Finds honest images (xs ++ ys) (fs ++ gs)
  finds-append _ ys _ gs nothing more = more
  finds-append _ ys _ gs (absent name names files none_is rest) more = absent name (names ++ ys) (files ++ gs) none_is (finds-append names ys files gs rest more)
  finds-append _ ys _ gs (present name bytes names files is rest) more = present name bytes (names ++ ys) (files ++ gs) is (finds-append names ys files gs rest more)

  one_more : (name : List ℕ) (names : List (List ℕ)) (image : Image) → images name ≡ image → (files : List (List ℕ × List ℕ)) × Finds honest images names files
      → (files : List (List ℕ × List ℕ)) × Finds honest images (name ∷ names) files
  one_more name names None is rest = (rest.0, absent name names rest.0 (λ _. is) rest.1)
  one_more name names (Some bytes) is rest = ((name, bytes) ∷ rest.0, present name bytes names rest.0 (λ _. is) rest.1)

  -- there are such files, whatever the names are
  pub finds-some : (names : List (List ℕ)) → (files : List (List ℕ × List ℕ)) × Finds honest images names files
  finds-some [] = ([], nothing)
  finds-some (name ∷ names) = one_more name names (images name) refl (finds-some names)

  pub finds-same : (other : List ℕ → Image) (names : List (List ℕ)) (files : List (List ℕ × List ℕ)) → ((n : List ℕ) → Contains names n → IsTrue honest → other n ≡ images n)
      → Finds honest images names files → Finds honest other names files
  finds-same other _ _ same nothing = nothing
  finds-same other _ _ same (absent name names files none_is rest) =
      absent name names files (λ is. same name (first_of name names name refl) is ∙ none_is is) (finds-same other names files (λ n has. same n (next_of name names n has)) rest)
  finds-same other _ _ same (present name bytes names files is rest) =
      present name bytes names files (λ honest_is. same name (first_of name names name refl) honest_is ∙ is honest_is) (finds-same other names files (λ n has. same n (next_of name names n has)) rest)

  all_keys : (P : List ℕ → Type 0) (names : List (List ℕ)) (files : List (List ℕ × List ℕ)) → Finds honest images names files → AllByRecursion P names → AllByRecursion P (keys_of files)
  all_keys P _ _ nothing all = tt
  all_keys P _ _ (absent name names files none_is rest) all = all_keys P names files rest all.1
  all_keys P _ _ (present name bytes names files is rest) all = (all.0, all_keys P names files rest all.1)

  finds-ordered : (names : List (List ℕ)) (files : List (List ℕ × List ℕ)) → Finds honest images names files → IsStrictlySortedBy (slice_cmp nat_cmp) names → IsInOrder files
  unfolding IsStrictlySortedBy
  finds-ordered _ _ nothing sorted = tt
  finds-ordered _ _ (absent name names files none_is rest) sorted = finds-ordered names files rest sorted.1
  finds-ordered _ _ (present name bytes names files is rest) sorted = (all_keys _ names files rest sorted.0, finds-ordered names files rest sorted.1)

  finds-in : (names : List (List ℕ)) (files : List (List ℕ × List ℕ)) → Finds honest images names files → (n : List ℕ) → Contains (keys_of files) n → Contains names n
  finds-in _ _ nothing n has = has
  finds-in _ _ (absent name names files none_is rest) n has = next_of name names n (finds-in names files rest n has)
  finds-in _ _ (present name bytes names files is rest) n has = ⊎_elim
      (λ same. first_of name names n same)
      (λ later. next_of name names n (finds-in names files rest n later))
      (cons_cases name (keys_of files) n has)

  finds-told : (names : List (List ℕ)) (files : List (List ℕ × List ℕ)) → Finds honest images names files → IsTrue honest → AllByRecursion (λ file. images file.0 ≡ Some file.1) files
  finds-told _ _ nothing is = tt
  finds-told _ _ (absent name names files none_is rest) is = finds-told names files rest is
  finds-told _ _ (present name bytes names files there rest) is = (there is, finds-told names files rest is)

  no_image : (image : Image) → image ≡ None → IsSome image → ⊥
  no_image None is some = absurd (let never : ⊥ = cc in never)
  no_image (Some bytes) is some = absurd (let never : ⊥ = cc in never)

  finds-there : (names : List (List ℕ)) (files : List (List ℕ × List ℕ)) → Finds honest images names files → IsTrue honest → (n : List ℕ) → Contains names n → IsSome (images n)
      → Contains (keys_of files) n
  finds-there _ _ nothing is n has some = has
  finds-there _ _ (absent name names files none_is rest) is n has some = ⊎_elim
      (λ same. absurd (no_image (images n) (ap images same ∙ none_is is) some))
      (λ later. finds-there names files rest is n later some)
      (cons_cases name names n has)
  finds-there _ _ (present name bytes names files there rest) is n has some = ⊎_elim
      (λ same. first_of name (keys_of files) n same)
      (λ later. next_of name (keys_of files) n (finds-there names files rest is n later some))
      (cons_cases name names n has)

  -- the files that were found under all names that are checked
  pub checked_files : (names : List (List ℕ)) (files : List (List ℕ × List ℕ)) → Finds honest images names files → IsStrictlySortedBy (slice_cmp nat_cmp) names
      → ((n : List ℕ) → Contains names n → IsTrue (is_checked n)) → (IsTrue honest → (n : List ℕ) → IsTrue (is_checked n) → IsSome (images n) → Contains names n)
      → AreChecked honest images files
  checked_files names files finds sorted named listed = record {
    ordered = finds-ordered names files finds sorted;
    named = λ n has. named n (finds-in names files finds n has);
    told = finds-told names files finds;
    all = λ is n checked some. finds-there names files finds is n (listed is n checked some) some;
  }

-- one name, and what was found under it
pub finds_one : (honest : Bool) (images : List ℕ → Image) (name label bytes : List ℕ) → label ≡ name → (IsTrue honest → images name ≡ Some bytes) → Finds honest images (name ∷ []) ((label, bytes) ∷ [])
finds_one honest images name label bytes same told =
    subst (λ n. Finds honest images (n ∷ []) ((label, bytes) ∷ [])) same (present label bytes [] [] (λ is. ap images same ∙ told is) nothing)

pub finds_none : (honest : Bool) (images : List ℕ → Image) (name : List ℕ) → (IsTrue honest → images name ≡ None) → Finds honest images (name ∷ []) []
finds_none honest images name none_is = absent name [] [] none_is nothing

long_enough : (n : ℕ) → (bytes : List ℕ) × (n < length bytes)
long_enough n = (replicate (suc n) 0, omega (arith, length-replicate {A = ℕ} (suc n) 0))

some_bytes : (what : Found) → (bytes : List ℕ) × HasBytes what bytes
some_bytes (found.Whole read) = (read, refl)
some_bytes found.TooLarge = long_enough file_limit

-- the bytes of a file that was found; in an honest folder they are those of its image
pub bytes_for : (honest : Bool) (image : Image) (what : Found) → (IsTrue honest → Shows image (Some what)) → (bytes : List ℕ) × (IsTrue honest → image ≡ Some bytes) × HasBytes what bytes
bytes_for true image what shows = let there = shows refl in (there.0, λ _. there.1, there.2)
bytes_for false image what shows = let some = some_bytes what in (some.0, λ is. absurd (let never : ⊥ = cc in never), some.1)

pub on_ok_from : {T E : Type 0} (r : Result T E) (P Q : Type 0) → OnOk r P → (P → Q) → OnOk r Q
on_ok_from (Ok v) P Q p go = go p
on_ok_from (Err e) P Q p go = tt

-- what follows from what a call that succeeds gives
pub if_ok : {T E : Type 0} (r : Result T E) (P Q : T → Type 0) → IfOk r P → ((v : T) → P v → Q v) → IfOk r Q
if_ok (Ok v) P Q h go = go v h
if_ok (Err e) P Q h go = tt

-- the same of a folder that was settled before its names were looked at
pub checked_since : (honest was : Bool) (images old : List ℕ → Image) (names : List (List ℕ)) (files : List (List ℕ × List ℕ)) → honest ≡ was → (IsTrue was → (n : List ℕ) → images n ≡ old n)
    → Finds honest images names files → IsStrictlySortedBy (slice_cmp nat_cmp) names → ((n : List ℕ) → Contains names n → IsTrue (is_checked n))
    → (IsTrue was → (n : List ℕ) → IsTrue (is_checked n) → IsSome (old n) → Contains names n) → AreChecked was old files
checked_since honest was images old names files h same finds sorted named listed =
    checked_files was old names files (finds-same was images old names files (λ n has is. sym (same is n)) (subst (λ b. Finds b images names files) h finds)) sorted named listed
