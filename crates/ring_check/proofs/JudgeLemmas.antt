-- What is collected of results that all succeeded.
use Rattle.std.proofs.Common.{◌≡◌, ◌∙◌, List, [], ◌∷◌, Result, Ok, Err, IfOk, MatchResult, map, refl, subst}
use Rattle.std.specs.List.{AllZip}

-- results that are what a function gives wherever they are Ok, and all are
pub all_ok : {X Y : Type 0} (E : Type 0) (f : X → Y) (xs : List X) (ys : List Y) → AllZip (λ x (r : Result Y E). IfOk r (λ y. y ≡ f x)) xs (map Ok ys) → ys ≡ map f xs
all_ok E f [] [] h = refl
all_ok E f [] (y ∷ ys) h = absurd h
all_ok E f (x ∷ xs) [] h = absurd h
all_ok E f (x ∷ xs) (y ∷ ys) (here, rest) = let tail = all_ok E f xs ys rest in λ i. here i ∷ tail i

-- what is collected of them, in order
pub collected : {X Y C : Type 0} (E : Type 0) (f : X → Y) (items : C → List Y) (xs : List X) (results : List (Result Y E)) (r : Result C E) (failed : E → Type 0)
    → AllZip (λ x (r : Result Y E). IfOk r (λ y. y ≡ f x)) xs results
    → MatchResult r (λ c. (ys : List Y) × (results ≡ map Ok ys) × (items c ≡ ys)) failed → IfOk r (λ c. items c ≡ map f xs)
collected E f items xs results (Ok c) failed zip (ys, all, same) = same ∙ all_ok E f xs ys (subst (λ l. AllZip (λ x r. IfOk r (λ y. y ≡ f x)) xs l) all zip)
collected E f items xs results (Err e) failed zip h = tt
