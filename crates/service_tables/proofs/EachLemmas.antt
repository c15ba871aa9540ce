-- What is true of each element of a list.
use Rattle.std.proofs.Common.{◌≡◌, Bool, true, false, List, [], ◌∷◌, filter, map, Some, refl}
use Rattle.std.specs.List.{AllByRecursion, find}
use Rattle.std.specs.Option.{option_map}
use Rattle.std.proofs.lemmas.Option.{none-some}
pub use Rattle.signal_fanout.proofs.EachLemmas.{each-append, each-weaker}

pub each-filter : {X : Type 0} (P : X → Type 0) (p : X → Bool) (xs : List X) → AllByRecursion P xs → AllByRecursion P (filter p xs)
each-filter P p [] all = tt
each-filter P p (x ∷ xs) all =
    let pass : (b : Bool) → p x ≡ b → AllByRecursion P (filter p (x ∷ xs)) =
    elim [
      | true ↦ λ is. rw is (all.0, each-filter P p xs all.1)
      | false ↦ λ is. rw is (each-filter P p xs all.1)
    ] in
    pass (p x) refl

-- the same of those that pass a test, where the test is used
pub each-passing : {X : Type 0} (P Q : X → Type 0) (p : X → Bool) → ((x : X) → p x ≡ true → P x → Q x) → (xs : List X) → AllByRecursion P xs → AllByRecursion Q (filter p xs)
each-passing P Q p more [] all = tt
each-passing P Q p more (x ∷ xs) all =
    let pass : (b : Bool) → p x ≡ b → AllByRecursion Q (filter p (x ∷ xs)) =
    elim [
      | true ↦ λ is. rw is (more x is all.0, each-passing P Q p more xs all.1)
      | false ↦ λ is. rw is (each-passing P Q p more xs all.1)
    ] in
    pass (p x) refl

-- of those that pass a test, what the test says
pub each-tested : {X : Type 0} (P : X → Type 0) (p : X → Bool) → ((x : X) → p x ≡ true → P x) → (xs : List X) → AllByRecursion P (filter p xs)
each-tested P p says [] = tt
each-tested P p says (x ∷ xs) =
    let pass : (b : Bool) → p x ≡ b → AllByRecursion P (filter p (x ∷ xs)) =
    elim [
      | true ↦ λ is. rw is (says x is, each-tested P p says xs)
      | false ↦ λ is. rw is (each-tested P p says xs)
    ] in
    pass (p x) refl

pub each-mapped : {X Y : Type 0} (f : X → Y) (P : Y → Type 0) (xs : List X) → AllByRecursion (λ x. P (f x)) xs → AllByRecursion P (map f xs)
each-mapped f P [] all = tt
each-mapped f P (x ∷ xs) all = (all.0, each-mapped f P xs all.1)

-- what a search finds is one of them
pub each-found : {X Y : Type 0} (f : X → Y) (P : Y → Type 0) (p : X → Bool) (xs : List X) (y : Y) → AllByRecursion (λ x. P (f x)) xs → option_map f (find p xs) ≡ Some y → P y
each-found f P p [] y all is = absurd (none-some y is)
each-found f P p (x ∷ xs) y all is =
    let pass : (b : Bool) → p x ≡ b → P y =
    elim [
      | true ↦ λ here. let found : Some (f x) ≡ Some y = rw here at is in let same : f x ≡ y = cc in rw (← same) all.0
      | false ↦ λ here. each-found f P p xs y all.1 (rw here at is)
    ] in
    pass (p x) refl
