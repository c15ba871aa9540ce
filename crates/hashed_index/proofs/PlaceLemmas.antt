-- A walk over rising places that leaves out only items that don't match finds what a walk over all items finds.
use Rattle.std.proofs.Common.{◌≡◌, ℕ, suc, ◌+◌, ◌<◌, ◌≤◌, Bool, true, false, cond, List, [], ◌∷◌, ◌++◌, length, get_or, map, refl, ap, subst, ◌∙◌, inl, inr, ⊎_elim, arith}
use Rattle.std.specs.Prelude.{◌⊎◌}
use Rattle.std.specs.List.{All, AllByRecursion, Contains, flat_map}
use Rattle.std.specs.List.Sorted.{IsStrictlyIncreasing}
use Rattle.std.proofs.lemmas.Bool.{cases_lt}
use Rattle.std.proofs.lemmas.List.{drop_more}
use Rattle.std.proofs.lemmas.List.Elements.{recursion_from_All}
use Rattle.attribute_match.specs.Match.{hashed_matches}
use Rattle.kr_base.specs.declared.attributes.AttrValue.{AttrValue}
use Rattle.keyring_file.specs.declared.clear.ClearItem.{ClearItem}
use Rattle.hashed_index.specs.Matching.{id_at, id_if_matches, id_of_first, matching_ids}
use Rattle.hashed_index.proofs.EntryLemmas.{Has, has}

abbrev RisesFrom : ℕ → List ℕ → Type 0
RisesFrom b [] = Unit {0}
RisesFrom b (p ∷ ps) = (b ≤ p) × RisesFrom (p + 1) ps

rises_from : (b : ℕ) (ps : List ℕ) → IsStrictlyIncreasing ps → (0 < length ps → b ≤ get_or ps 0 0) → RisesFrom b ps
rises_from b [] up low = tt
rises_from b (p ∷ []) up low = (low (omega arith), tt)
rises_from b (p ∷ q ∷ ps) up low =
    let next : p < q = up 0 (omega arith) in (
      low (omega arith),
      rises_from (p + 1) (q ∷ ps) (λ k lt.
          let after : suc k + 1 ≡ suc (k + 1) = omega arith in
          subst (λ n. get_or (q ∷ ps) k 0 < get_or (p ∷ q ∷ ps) n 0) after (up (suc k) (omega (arith, lt)))) (λ some. omega (arith, next)),
    )

none_below : (b q : ℕ) (ps : List ℕ) → RisesFrom b ps → q < b → Has ps q → ⊥
none_below b q [] rises lt h = h
none_below b q (p ∷ ps) rises lt (inl e) = omega (arith, rises.0, lt, e)
none_below b q (p ∷ ps) rises lt (inr h) = none_below (p + 1) q ps rises.1 (omega (arith, rises.0, lt)) h

at_or_later : (b p : ℕ) → b ≤ p → (p ≡ b) ⊎ (b < p)
at_or_later b p le = ⊎_elim (λ more. inr more) (λ most. inl (omega (arith, most, le))) (cases_lt b p)

module _ {X : Type 0} (look : ℕ → List ℕ) (one : X → List ℕ) where
  abbrev Agrees : ℕ → List X → Type 0
  Agrees b items = (j : ℕ) (d : X) → j < length items → look (b + j) ≡ one (get_or items j d)

  abbrev Covers : ℕ → List X → List ℕ → Type 0
  Covers b items ps = (j : ℕ) (d : X) → j < length items → (one (get_or items j d) ≡ []) ⊎ Has ps (b + j)

  agrees_next : (b : ℕ) (x : X) (xs : List X) → Agrees b (x ∷ xs) → Agrees (b + 1) xs
  agrees_next b x xs agrees j d lt =
      let same : b + suc j ≡ b + 1 + j = omega arith in
      subst (λ n. look n ≡ one (get_or xs j d)) same (agrees (suc j) d (omega (arith, lt)))

  covers_next : (b : ℕ) (x : X) (xs : List X) (ps : List ℕ) → Covers b (x ∷ xs) ps → Covers (b + 1) xs ps
  covers_next b x xs ps covers j d lt =
      let same : b + suc j ≡ b + 1 + j = omega arith in
      ⊎_elim (λ none. inl none) (λ h. inr (subst (Has ps) same h)) (covers (suc j) d (omega (arith, lt)))

  not_first : (b p q : ℕ) (ps : List ℕ) → p ≡ b → b < q → Has (p ∷ ps) q → Has ps q
  not_first b p q ps at lt (inl e) = absurd (omega (arith, at, lt, e))
  not_first b p q ps at lt (inr h) = h

  covers_rest : (b : ℕ) (x : X) (xs : List X) (p : ℕ) (ps : List ℕ) → p ≡ b → Covers b (x ∷ xs) (p ∷ ps) → Covers (b + 1) xs ps
  covers_rest b x xs p ps at covers j d lt =
      ⊎_elim (λ none. inl none) (λ h. inr (not_first b p (b + 1 + j) ps at (omega arith) h)) (covers_next b x xs (p ∷ ps) covers j d lt)

  none_first : (b : ℕ) (x : X) (xs : List X) (ps : List ℕ) → (Has ps (b + 0) → ⊥) → Covers b (x ∷ xs) ps → one x ≡ []
  none_first b x xs ps never covers = ⊎_elim (λ none. none) (λ h. absurd (never h)) (covers 0 x (omega arith))

  selected : (items : List X) (b : ℕ) (ps : List ℕ) → Agrees b items → RisesFrom b ps → AllByRecursion (λ p. p < b + length items) ps → Covers b items ps → flat_map look ps ≡ flat_map one items
  selected [] b [] agrees rises within covers = refl
  selected [] b (p ∷ ps) agrees rises within covers = absurd (omega (arith, rises.0, within.0))
  selected (x ∷ xs) b [] agrees rises within covers =
      rw (none_first b x xs [] (λ h. h) covers) (selected xs (b + 1) [] (agrees_next b x xs agrees) tt tt (covers_next b x xs [] covers))
  selected (x ∷ xs) b (p ∷ ps) agrees rises within covers =
      let far : b + length (x ∷ xs) ≡ b + 1 + length xs = omega arith in
      let within' : AllByRecursion (λ p. p < b + 1 + length xs) (p ∷ ps) = subst (λ n. AllByRecursion (λ p. p < n) (p ∷ ps)) far within in
      ⊎_elim
      (λ at.
      let here : p ≡ b + 0 = omega (arith, at) in
      let first : look p ≡ one x = ap look here ∙ agrees 0 x (omega arith) in
      let after : p + 1 ≡ b + 1 = omega (arith, at) in
      let more = selected xs (b + 1) ps (agrees_next b x xs agrees) (subst (λ n. RisesFrom n ps) after rises.1) within'.1 (covers_rest b x xs p ps at covers) in
      λ i. first i ++ more i)
      (λ later.
      let none = none_first b x xs (p ∷ ps) (none_below p (b + 0) (p ∷ ps) (omega arith, rises.1) (omega (arith, later))) covers in
      let more = selected xs (b + 1) (p ∷ ps) (agrees_next b x xs agrees) (omega (arith, later), rises.1) within' (covers_next b x xs (p ∷ ps) covers) in
      rw none more)
      (at_or_later b p rises.0)

-- ---- the items that match

abbrev Wanted : Type 0
Wanted = List (List ℕ × AttrValue)

next_match : (b : Bool) (item : ClearItem) (ids : List ℕ) (items : List ClearItem) → ids ≡ map (λ (item : ClearItem). item.id.0) items → cond b (item.id.0 ∷ []) [] ++ ids ≡ map (λ (item : ClearItem). item.id.0) (cond b (item ∷ items) items)
next_match true item ids items e = λ i. item.id.0 ∷ e i
next_match false item ids items e = e

pub matching_is : (wanted : Wanted) (items : List ClearItem) → flat_map (id_if_matches wanted) items ≡ matching_ids wanted items
matching_is wanted [] = refl
matching_is wanted (item ∷ items) = next_match (hashed_matches wanted item.hashed) item _ _ (matching_is wanted items)

covered : (wanted : Wanted) (item : ClearItem) (places : List ℕ) (place : ℕ) (b : Bool) → hashed_matches wanted item.hashed ≡ b → (hashed_matches wanted item.hashed ≡ true → Contains places place) → (id_if_matches wanted item ≡ []) ⊎ Has places place
covered wanted item places place true is listed = inr (has places place (listed is))
covered wanted item places place false is listed = inl (rw is refl)

from_start : (j : ℕ) → j ≡ 0 + j
from_start j = omega arith

at_place : (wanted : Wanted) (items : List ClearItem) (j : ℕ) (d : ClearItem) → j < length items → id_at wanted items j ≡ id_if_matches wanted (get_or items j d)
at_place wanted items j d lt = ap (id_of_first wanted) (drop_more items j d lt)

pub selected_is : (wanted : Wanted) (items : List ClearItem) (places : List ℕ) → IsStrictlyIncreasing places → All (λ place. place < length items) places
    → ((j : ℕ) (d : ClearItem) → j < length items → hashed_matches wanted (get_or items j d).hashed ≡ true → Contains places j)
    → flat_map (id_at wanted items) places ≡ matching_ids wanted items
selected_is wanted items places up within listed =
    selected (id_at wanted items) (id_if_matches wanted) items 0 places
    (λ j d lt. subst (λ n. id_at wanted items n ≡ id_if_matches wanted (get_or items j d)) (from_start j) (at_place wanted items j d lt))
    (rises_from 0 places up (λ some. omega arith))
    (recursion_from_All (λ p. p < 0 + length items) places (subst (λ n. All (λ p. p < n) places) (from_start (length items)) within))
    (λ j d lt. covered wanted (get_or items j d) places (0 + j) _ refl (λ matches. subst (Contains places) (from_start j) (listed j d lt matches)))
    ∙ matching_is wanted items
