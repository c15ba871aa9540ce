-- Histories that begin with others, and positions that rise.
use Rattle.std.proofs.Common.{◌≡◌, ◌⊎◌, ℕ, zero, suc, ◌+◌, ◌<◌, ◌≤◌, ◌≢◌, Bool, true, false, nat_le, if◌then◌else◌, List, [], ◌∷◌, ◌++◌, length, refl, sym, ap, ◌∙◌, subst, ⊎_elim, inl, inr, arith, append-nil, length-append}
use mathlib.Core.Logic.{dite}
use native.Mathlib.Decide.{ℕ_discrete}
use Rattle.std.proofs.lemmas.List.{append_assoc}
use Rattle.std.proofs.lemmas.Bool.Decides.{nat_tests}
use Rattle.shared_turn.specs.Places.{StartsWith, longer, shorter, ArePlaces, IsIn, places_from, all_places, inserted, merged}

at-most : (a b : ℕ) → nat_le a b ≡ true → a ≤ b
at-most a b is = grind (arith, nat_tests)

more-than : (a b : ℕ) → nat_le a b ≡ false → b < a
more-than a b is = grind (arith, nat_tests)

module _ {E : Type 0} where
  tail_of : List E → List E
  tail_of [] = []
  tail_of (x ∷ xs) = xs

  head_or : E → List E → E
  head_or d [] = d
  head_or d (x ∷ xs) = x

  -- a history begins with itself, and what it begins with also begins each history that begins with it
  pub starts-self : (log : List E) → StartsWith log log
  starts-self log = ([], sym (append-nil log))

  pub starts-more : (log seen more : List E) → StartsWith log seen → StartsWith (log ++ more) seen
  starts-more log seen more starts = (starts.0 ++ more, ap (λ l. l ++ more) starts.1 ∙ append_assoc seen starts.0 more)

  -- of two beginnings of one history, the shorter begins the longer
  begins : (xs ys r q : List E) → xs ++ r ≡ ys ++ q → length ys ≤ length xs → StartsWith xs ys
  unfolding tail_of head_or
  begins xs [] r q e few = (xs, refl)
  begins [] (y ∷ ys) r q e few = absurd (omega arith)
  begins (x ∷ xs) (y ∷ ys) r q e few =
      let next : StartsWith xs ys = begins xs ys r q (ap tail_of e) (omega arith) in
      let head : x ≡ y = ap (head_or x) e in (
        next.0,
        (λ i. head i ∷ next.1 i),
      )

  pub starts-begins : (log xs ys : List E) → StartsWith log xs → StartsWith log ys → length ys ≤ length xs → StartsWith xs ys
  starts-begins log xs ys first second few = begins xs ys first.0 second.0 (sym first.1 ∙ second.1) few

  -- what is longer begins with what is shorter
  longer-shorter : (log xs ys : List E) (b : Bool) → nat_le (length ys) (length xs) ≡ b → StartsWith log xs → StartsWith log ys
      → StartsWith (if b then xs else ys) (if b then ys else xs)
  longer-shorter log xs ys true is first second = starts-begins log xs ys first second (at-most (length ys) (length xs) is)
  longer-shorter log xs ys false is first second = (let less = more-than (length ys) (length xs) is in starts-begins log ys xs second first (omega (arith, less)))

  pub longer-starts : (log xs ys : List E) → StartsWith log xs → StartsWith log ys → StartsWith (longer xs ys) (shorter xs ys)
  longer-starts log xs ys first second = longer-shorter log xs ys (nat_le (length ys) (length xs)) refl first second

  either-of : (P : List E → Type 0) (xs ys : List E) (b : Bool) → P xs → P ys → P (if b then xs else ys)
  either-of P xs ys true first second = first
  either-of P xs ys false first second = second

  pub longer-is : (P : List E → Type 0) (xs ys : List E) → P xs → P ys → P (longer xs ys)
  longer-is P xs ys first second = either-of P xs ys (nat_le (length ys) (length xs)) first second

  -- each of two histories is the longer one or the shorter one
  first-or : (P : List E → Type 0) (xs ys : List E) (b : Bool) → P (if b then xs else ys) → P (if b then ys else xs) → P xs × P ys
  first-or P xs ys true one other = (one, other)
  first-or P xs ys false one other = (other, one)

  pub both-are : (P : List E → Type 0) (xs ys : List E) → P (longer xs ys) → P (shorter xs ys) → P xs × P ys
  both-are P xs ys one other = first-or P xs ys (nat_le (length ys) (length xs)) one other

  -- the longer one is at least as long as each
  length-if : (xs ys : List E) (b : Bool) → nat_le (length ys) (length xs) ≡ b → (length xs ≤ length (if b then xs else ys)) × (length ys ≤ length (if b then xs else ys))
  length-if xs ys true is = (omega arith, at-most (length ys) (length xs) is)
  length-if xs ys false is = let less = more-than (length ys) (length xs) is in (omega (arith, less), omega arith)

  pub length-longer : (xs ys : List E) → (length xs ≤ length (longer xs ys)) × (length ys ≤ length (longer xs ys))
  length-longer xs ys = length-if xs ys (nat_le (length ys) (length xs)) refl

-- positions below a bound are also below a greater one
pub places-below : (from below more : ℕ) (places : List ℕ) → ArePlaces from below places → below ≤ more → ArePlaces from more places
places-below from below more [] are less = omega (arith, are, less)
places-below from below more (place ∷ places) are less = (are.0, places-below (place + 1) below more places are.1 less)

-- positions from one bound on are also positions from an earlier one on
places-from : (from earlier below : ℕ) (places : List ℕ) → earlier ≤ from → ArePlaces from below places → ArePlaces earlier below places
places-from from earlier below [] less are = omega (arith, are, less)
places-from from earlier below (place ∷ places) less are = (omega (arith, are.0, less), are.1)

-- a position after all the others can be added
pub places-push : (from below : ℕ) (places : List ℕ) → ArePlaces from below places → ArePlaces from (below + 1) (places ++ below ∷ [])
places-push from below [] are = (are, omega arith)
places-push from below (place ∷ places) are = (are.0, places-push (place + 1) below places are.1)

-- each position is within the bounds
pub in-bounds : (from below : ℕ) (places : List ℕ) (place : ℕ) → ArePlaces from below places → IsIn place places → (from ≤ place) × (place < below)
in-bounds from below [] place are is = absurd is
in-bounds from below (first ∷ places) place are is =
    let last : first + 1 ≤ below = bound (first + 1) below places are.1 in
    ⊎_elim (λ (same : place ≡ first). (omega (arith, same, are.0), omega (arith, same, last)))
    (λ (other : IsIn place places). let rest = in-bounds (first + 1) below places place are.1 other in (omega (arith, rest.0, are.0), rest.1)) is
  where
    bound : (from below : ℕ) (places : List ℕ) → ArePlaces from below places → from ≤ below
    bound from below [] are = are
    bound from below (first ∷ places) are = let more = bound (first + 1) below places are.1 in omega (arith, more, are.0)

-- a position in the list with one more at its end is that one, or was in the list before
pub in-push : (places : List ℕ) (last place : ℕ) → IsIn place (places ++ last ∷ []) → IsIn place places ⊎ (place ≡ last)
in-push [] last place is = ⊎_elim (λ (same : place ≡ last). inr same) (λ (none : ⊥). absurd none) is
in-push (first ∷ places) last place is =
    ⊎_elim (λ (same : place ≡ first). inl (inl same)) (λ rest. ⊎_elim (λ there. inl (inr there)) (λ same. inr same) (in-push places last place rest)) is

inserted-if : (place first : ℕ) (places : List ℕ) (b : Bool) (x : ℕ)
    → IsIn x (if b then place ∷ first ∷ places else first ∷ inserted place places)
    → (IsIn x (inserted place places) → (x ≡ place) ⊎ IsIn x places)
    → (x ≡ place) ⊎ IsIn x (first ∷ places)
inserted-if place first places true x is next = is
inserted-if place first places false x is next = ⊎_elim (λ (same : x ≡ first). inr (inl same)) (λ rest. ⊎_elim (λ same. inl same) (λ there. inr (inr there)) (next rest)) is

in-inserted : (place : ℕ) (places : List ℕ) (x : ℕ) → IsIn x (inserted place places) → (x ≡ place) ⊎ IsIn x places
in-inserted place [] x is = is
in-inserted place (first ∷ places) x is = inserted-if place first places (nat_le place first) x is (in-inserted place places x)

-- what is in the merged list is in one of the two
pub in-merged : (places others : List ℕ) (x : ℕ) → IsIn x (merged places others) → IsIn x places ⊎ IsIn x others
in-merged [] others x is = inr is
in-merged (place ∷ places) others x is =
    ⊎_elim (λ (same : x ≡ place). inl (inl same)) (λ rest. ⊎_elim (λ there. inl (inr there)) (λ other. inr other) (in-merged places others x rest)) (in-inserted place (merged places others) x is)

places-if : (place first from below : ℕ) (places : List ℕ) (b : Bool) → nat_le place first ≡ b → from ≤ place → place < below → place ≢ first → ArePlaces from below (first ∷ places)
    → (first + 1 ≤ place → ArePlaces (first + 1) below (inserted place places)) → ArePlaces from below (if b then place ∷ first ∷ places else first ∷ inserted place places)
places-if place first from below places true is low high apart are next = (low, (less, are.1))
  where
    less : place + 1 ≤ first
    less = let most = at-most place first is in omega (arith, most, apart)
places-if place first from below places false is low high apart are next = (are.0, next (let more = more-than place first is in omega (arith, more)))

-- a position that isn't among them yet can be inserted
places-inserted : (place from below : ℕ) (places : List ℕ) → from ≤ place → place < below → (IsIn place places → ⊥) → ArePlaces from below places → ArePlaces from below (inserted place places)
places-inserted place from below [] low high apart are = (low, omega (arith, high))
places-inserted place from below (first ∷ places) low high apart are =
    places-if place first from below places (nat_le place first) refl low high (λ same. apart (inl same)) are
    (λ more. places-inserted place (first + 1) below places more high (λ there. apart (inr there)) are.1)

-- two lists of positions with none in common are merged to positions
pub places-merged : (from below : ℕ) (places others : List ℕ) → ((x : ℕ) → IsIn x places → IsIn x others → ⊥) → ArePlaces from below places → ArePlaces from below others
    → ArePlaces from below (merged places others)
places-merged from below [] others apart are more = more
places-merged from below (place ∷ places) others apart are more =
    let rest = places-from (place + 1) from below places (omega (arith, are.0)) are.1 in
    let bounds = in-bounds from below (place ∷ places) place are (inl refl) in
    places-inserted place from below (merged places others) are.0 bounds.1
    (λ there. ⊎_elim (λ (here : IsIn place places). let later = in-bounds (place + 1) below places place are.1 here in absurd (omega (arith, later.0))) (λ other. apart place (inl refl) other) (in-merged places others place there))
    (places-merged from below places others (λ x here other. apart x (inr here) other) rest more)

-- a position stays one of those of a longer list
pub in-more : (places more : List ℕ) (place : ℕ) → IsIn place places → IsIn place (places ++ more)
in-more [] more place is = absurd is
in-more (first ∷ places) more place is = ⊎_elim (λ (same : place ≡ first). inl same) (λ (other : IsIn place places). inr (in-more places more place other)) is

-- the last one is in the list
pub in-last : (places : List ℕ) (last : ℕ) → IsIn last (places ++ last ∷ [])
in-last [] last = inl refl
in-last (first ∷ places) last = inr (in-last places last)

insert-if : (place first : ℕ) (places : List ℕ) (b : Bool) (x : ℕ) → (x ≡ place) ⊎ IsIn x (first ∷ places)
    → ((x ≡ place) ⊎ IsIn x places → IsIn x (inserted place places)) → IsIn x (if b then place ∷ first ∷ places else first ∷ inserted place places)
insert-if place first places true x is next = is
insert-if place first places false x is next =
    ⊎_elim (λ (same : x ≡ place). inr (next (inl same))) (λ rest. ⊎_elim (λ (same : x ≡ first). inl same) (λ (other : IsIn x places). inr (next (inr other))) rest) is

insert-in : (place : ℕ) (places : List ℕ) (x : ℕ) → (x ≡ place) ⊎ IsIn x places → IsIn x (inserted place places)
insert-in place [] x is = is
insert-in place (first ∷ places) x is = insert-if place first places (nat_le place first) x is (insert-in place places x)

-- what is in one of two lists is in the merged one
pub merge-in : (places others : List ℕ) (x : ℕ) → IsIn x places ⊎ IsIn x others → IsIn x (merged places others)
merge-in [] others x is = ⊎_elim (λ (none : ⊥). absurd none) (λ other. other) is
merge-in (place ∷ places) others x is =
    insert-in place (merged places others) x
    (⊎_elim (λ (first : IsIn x (place ∷ places)). ⊎_elim (λ (same : x ≡ place). inl same) (λ (here : IsIn x places). inr (merge-in places others x (inl here))) first)
    (λ (other : IsIn x others). inr (merge-in places others x (inr other))) is)

-- all positions are positions, and each is one of them
pub all-are : (from number : ℕ) → ArePlaces from (from + number) (places_from from number)
all-are from zero = omega arith
all-are from (suc number) = (omega arith, subst (λ (below : ℕ). ArePlaces (from + 1) below (places_from (from + 1) number)) (omega arith) (all-are (from + 1) number))

pub in-places : (from number place : ℕ) → from ≤ place → place < from + number → IsIn place (places_from from number)
in-places from zero place low high = absurd (omega (arith, low, high))
in-places from (suc number) place low high =
    dite (ℕ_discrete place from) (λ same. inl same) (λ differ. inr (in-places (from + 1) number place (omega (arith, low, differ)) (omega (arith, high))))

-- positions among which each one is are all of them
pub are-all : (from number : ℕ) (places : List ℕ) → ArePlaces from (from + number) places → ((place : ℕ) → from ≤ place → place < from + number → IsIn place places) → places ≡ places_from from number
are-all from zero [] are all = refl
are-all from zero (place ∷ places) are all = let bounds = in-bounds from (from + 0) (place ∷ places) place are (inl refl) in absurd (omega (arith, bounds.0, bounds.1))
are-all from (suc number) [] are all = absurd (all from (omega arith) (omega arith))
are-all from (suc number) (place ∷ places) are all =
    let first : place ≡ from = ⊎_elim (λ (same : from ≡ place). sym same)
    (λ (later : IsIn from places). let bounds = in-bounds (place + 1) (from + suc number) places from are.1 later in let low = are.0 in absurd (omega (arith, low, bounds.0)))
    (all from (omega arith) (omega arith)) in
    let rest : ArePlaces (from + 1) ((from + 1) + number) places =
    subst (λ (below : ℕ). ArePlaces (from + 1) below places) (omega arith) (subst (λ (p : ℕ). ArePlaces (p + 1) (from + suc number) places) first are.1) in
    (λ i. first i ∷ are-all (from + 1) number places rest
    (λ x low high. ⊎_elim (λ (same : x ≡ place). absurd (omega (arith, low, same, first))) (λ (later : IsIn x places). later) (all x (omega (arith, low)) (omega (arith, high)))) i)

-- If each position of a history is among those of a beginning of it, that is the whole history, and they are all positions.
pub in-all : {E : Type 0} (seen between : List E) (places : List ℕ) → ArePlaces 0 (length seen) places → ((place : ℕ) → place < length (seen ++ between) → IsIn place places)
    → (between ≡ []) × (places ≡ all_places (length seen))
in-all seen [] places are all = (refl, are-all 0 (length seen) places (subst (λ (below : ℕ). ArePlaces 0 below places) (omega arith) are) (λ place low high. all place (let long = length-append seen [] in omega (arith, high, long))))
in-all seen (event ∷ between) places are all =
    let long = length-append seen (event ∷ between) in
    let bounds = in-bounds 0 (length seen) places (length seen) are (all (length seen) (omega (arith, long))) in absurd (omega (arith, bounds.1))

-- all positions of a history are positions in it
pub all-are-places : (number : ℕ) → ArePlaces 0 number (all_places number)
all-are-places number = subst (λ (below : ℕ). ArePlaces 0 below (all_places number)) (omega arith) (all-are 0 number)
