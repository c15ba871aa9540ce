-- What is true of each element of a list.
use Rattle.std.proofs.Common.{◌≡◌, ℕ, ◌+◌, ◌<◌, List, [], ◌∷◌, ◌++◌, length, get_or, take}
use Rattle.std.specs.List.{AllByRecursion}
use Rattle.std.proofs.lemmas.List.{take_more}

pub each-append : {X : Type 0} (P : X → Type 0) (xs ys : List X) → AllByRecursion P xs → AllByRecursion P ys → AllByRecursion P (xs ++ ys)
each-append P [] ys first last = last
each-append P (x ∷ xs) ys first last = (first.0, each-append P xs ys first.1 last)

pub each-weaker : {X : Type 0} (P Q : X → Type 0) → ((x : X) → P x → Q x) → (xs : List X) → AllByRecursion P xs → AllByRecursion Q xs
each-weaker P Q more [] all = tt
each-weaker P Q more (x ∷ xs) all = (more x all.0, each-weaker P Q more xs all.1)

-- those of a list's start, and the next one
pub each-taken : {X : Type 0} (P : X → Type 0) (xs : List X) (i : ℕ) (x : X) → i < length xs → get_or xs i x ≡ x → AllByRecursion P (take i xs) → P x → AllByRecursion P (take (i + 1) xs)
each-taken P xs i x within is all one = rw (take_more xs i x within, is) (each-append P (take i xs) (x ∷ []) all (one, tt))
