-- One step of a loop over two lists, of which the second is written.
use Rattle.std.proofs.Common.{◌≡◌, ◌∙◌, ℕ, ◌+◌, ◌<◌, List, [], ◌∷◌, ◌++◌, length, map, take, drop, set, get_or, refl, ap, sym, arith}
use Rattle.std.proofs.lemmas.List.{map-append, length-map, get_or-map, take_more, take_more_set, drop_more, drop-set-lt}

-- what is read at a place of a mapped list
pub mapped_value : {A B : Type 0} (f : A → B) (xs : List A) (ys : List B) (i : ℕ) (x : A) (d : B) → i < length xs → x ≡ get_or xs i x → ys ≡ map f xs → get_or ys i d ≡ f x
mapped_value f xs ys i x d within read were =
    let mapped : get_or ys i d ≡ f (get_or xs i x) = rw were (get_or-map f xs i x d within) in
    mapped ∙ ap f (sym read)

-- what is left is as it was
pub left_over : {B : Type 0} (ys olds : List B) (i : ℕ) (y v : B) → i < length ys → length ys ≡ length olds → drop i ys ≡ drop i olds → drop (i + 1) (set ys i v) ≡ drop (i + 1) olds
left_over ys olds i y v within lengths left =
    let here : drop i ys ≡ get_or ys i y ∷ drop (i + 1) ys = drop_more ys i y within in
    let there : drop i olds ≡ get_or olds i y ∷ drop (i + 1) olds = drop_more olds i y (rw (← lengths) within) in
    let rests : drop (i + 1) ys ≡ drop (i + 1) olds = cc in
    drop-set-lt (i + 1) ys i v (omega arith) ∙ rests

-- what is there is as it was
old_value : {A B : Type 0} (f : A → B) (xs : List A) (ys olds : List B) (i : ℕ) (x : A) (d : B) → i < length xs → length ys ≡ length xs → x ≡ get_or xs i x → olds ≡ map f xs → drop i ys ≡ drop i olds → get_or ys i d ≡ f x
old_value f xs ys olds i x d within lengths read were left =
    let in_olds : i < length olds = rw (were, length-map xs f) within in
    let here : drop i ys ≡ get_or ys i d ∷ drop (i + 1) ys = drop_more ys i d (rw lengths within) in
    let there : drop i olds ≡ get_or olds i d ∷ drop (i + 1) olds = drop_more olds i d in_olds in
    let heads : get_or ys i d ≡ get_or olds i d = cc in
    heads ∙ mapped_value f xs olds i x d within read were

-- what is written at this place is what follows from the old value
pub written : {A B : Type 0} (f g : A → B) (xs : List A) (ys olds : List B) (i : ℕ) (x : A) (d v : B) → i < length xs → length ys ≡ length xs
    → x ≡ get_or xs i x → olds ≡ map f xs → drop i ys ≡ drop i olds → take i ys ≡ map g (take i xs) → (get_or ys i d ≡ f x → v ≡ g x)
    → take (i + 1) (set ys i v) ≡ map g (take (i + 1) xs)
written f g xs ys olds i x d v within lengths read were left done follows =
    let was : get_or ys i d ≡ f x = old_value f xs ys olds i x d within lengths read were left in
    let value : v ≡ g (get_or xs i x) = follows was ∙ ap g read in
    let longer : map g (take (i + 1) xs) ≡ map g (take i xs) ++ g (get_or xs i x) ∷ [] = ap (map g) (take_more xs i x within) ∙ map-append g (take i xs) (get_or xs i x ∷ []) in
    let first : take (i + 1) (set ys i v) ≡ take i ys ++ v ∷ [] = take_more_set ys i v (rw lengths within) in
    rw (first, done, value, longer) refl
