-- Ids that all lists have, and how many steps were taken for them.
use Rattle.std.proofs.Common.{◌≡◌, ℕ, ◌+◌, ◌<◌, ◌≤◌, ◌==◌, ◌&&◌, ◌||◌, nat_lt, Bool, true, false, List, [], ◌∷◌, length, map, take, filter, get_or, zero, suc, subst, refl, sym, ap, ◌∙◌, inl, inr, ⊎_elim, arith}
use Rattle.std.specs.Ordering.{nat_cmp}
use Rattle.std.proofs.lemmas.Bool.{cases_lt, cases_Bool, eqb-true}
use Rattle.std.proofs.lemmas.List.Kept.{IsStrictlySortedBy-filter}
use Rattle.std.proofs.lemmas.List.{length-map}
use Rattle.std.proofs.lemmas.List.Folds.{list_all_more, list_all_at, list_any-append}
use Rattle.std.proofs.lemmas.Bool.Decides.{nat_tests}
use Rattle.kr_base.specs.IdLists.{has_id, with_id}
use Rattle.kr_base.specs.declared.attributes.AttrValue.{AttrValue}
use Rattle.kr_base.proofs.IdLemmas.{Rises}
use Rattle.attribute_match.specs.Match.{text_of}
use Rattle.attribute_index.specs.Index.{AllRise, Index, IsFound, ids_at, in_every, wanted_lists}

pub one-lacks : (lists : List (List ℕ)) (place id : ℕ) → place < length lists → false ≡ has_id (get_or lists place []) id → false ≡ in_every lists id
one-lacks lists place id lt lacks = sym (list_all_at (λ ids. has_id ids id) lists place [] lt (sym lacks))

pub one-more : (lists : List (List ℕ)) (place id : ℕ) → place < length lists → in_every (take place lists) id ≡ true → true ≡ has_id (get_or lists place []) id → in_every (take (place + 1) lists) id ≡ true
one-more lists place id lt had has = rw (list_all_more (λ ids. has_id ids id) lists place [] lt, had) (sym has)

pub few-more : (start old new place known : ℕ) → (place ≤ known → old ≤ start + place) → (known < place → old + 1 ≤ start + place) → new ≤ old + 1 → (place ≡ known → new ≡ old)
    → (place + 1 ≤ known → new ≤ start + (place + 1)) × (known < place + 1 → new + 1 ≤ start + (place + 1))
few-more start old new place known before after few free = (
  λ le. omega (arith, before (omega (arith, le)), few),
  λ lt.
      elim (cases_lt known place) [
        | inl past ↦ omega (arith, after past, few)
        | inr least ↦ omega (arith, before least, free (omega (arith, least, lt)))
      ],
)

-- ---- what was found, by its ids

and_false : (b : Bool) → (b && false) ≡ false
and_false true = refl
and_false false = refl

pub has-filter : (p : ℕ → Bool) (ids : List ℕ) (id : ℕ) → has_id (filter p ids) id ≡ (has_id ids id && p id)
has-filter p [] id = refl
has-filter p (x ∷ xs) id =
    let step : (a b : Bool) → p x ≡ a → (x == id) ≡ b → has_id (filter p (x ∷ xs)) id ≡ (has_id (x ∷ xs) id && p id) =
    elim [
      | true ↦ elim [
        | true ↦ λ passes is. let same : p id ≡ true = sym (ap p (eqb-true x id is)) ∙ passes in rw (passes, is, same) refl
        | false ↦ λ passes is. rw (passes, is) (has-filter p xs id)
      ]
      | false ↦ elim [
        | true ↦ λ fails is. let same : p id ≡ false = sym (ap p (eqb-true x id is)) ∙ fails in rw (fails, is, same) (has-filter p xs id ∙ ap (λ b. has_id xs id && b) same ∙ and_false (has_id xs id))
        | false ↦ λ fails is. rw (fails, is) (has-filter p xs id)
      ]
    ] in
    step (p x) (x == id) refl refl

with-bits : (has : Bool) (x id : ℕ) → ((has && nat_lt x id) || ((id == x) || (has && nat_lt id x))) ≡ ((x == id) || has)
with-bits true x id = grind (arith, nat_tests)
with-bits false x id = grind (arith, nat_tests)

pub has-with : (id : ℕ) (ids : List ℕ) (x : ℕ) → has_id (with_id id ids) x ≡ ((x == id) || has_id ids x)
has-with id ids x =
    list_any-append (λ y. y == x) (filter (λ y. nat_lt y id) ids) (id ∷ filter (λ y. nat_lt id y) ids)
    ∙ ap (λ b. b || ((id == x) || has_id (filter (λ y. nat_lt id y) ids) x)) (has-filter (λ y. nat_lt y id) ids x)
    ∙ ap (λ b. (has_id ids x && nat_lt x id) || ((id == x) || b)) (has-filter (λ y. nat_lt id y) ids x)
    ∙ with-bits (has_id ids x) x id

one-of-all : (lists : List (List ℕ)) (place id : ℕ) → place < length lists → (has_id (get_or lists place []) id && in_every lists id) ≡ in_every lists id
one-of-all lists place id lt =
    ⊎_elim
    (λ is. rw is refl)
    (λ off. rw off (one-lacks lists place id lt (sym off)))
    (cases_Bool (has_id (get_or lists place []) id))

rise-at : (index : Index) → AllRise index.names → (wanted : List (List ℕ × AttrValue)) (place : ℕ) → place < length wanted → Rises (get_or (wanted_lists index wanted) place [])
rise-at index rising [] place lt = absurd (omega (arith, lt))
rise-at index rising (pair ∷ more) zero lt = (rising pair.0 (text_of pair.1)).rising
rise-at index rising (pair ∷ more) (suc place) lt = rise-at index rising more place (omega (arith, lt))

pub is-found : (index : Index) → AllRise index.names → (wanted : List (List ℕ × AttrValue)) (lists : List (List ℕ)) (found : List ℕ) → lists ≡ wanted_lists index wanted
    → (place : ℕ) × (place < length lists) × (found ≡ filter (in_every lists) (get_or lists place [])) → IsFound index wanted found
is-found index rising [] lists found are h =
    let none : length lists ≡ 0 = ap length are in
    absurd (omega (arith, none, h.1))
is-found index rising (pair ∷ more) lists found are h =
    let wanted : List (List ℕ × AttrValue) = pair ∷ more in
    let small : h.0 < length wanted = omega (arith, h.1, ap length are, length-map wanted (λ (p : List ℕ × AttrValue). ids_at index p.0 (text_of p.1))) in
    let ids : found ≡ filter (in_every (wanted_lists index wanted)) (get_or (wanted_lists index wanted) h.0 []) = h.2 ∙ ap (λ (ls : List (List ℕ)). filter (in_every ls) (get_or ls h.0 [])) are in
    let inside : h.0 < length (wanted_lists index wanted) = omega (arith, h.1, ap length are) in (
      subst Rises (sym ids) (IsStrictlySortedBy-filter nat_cmp (in_every (wanted_lists index wanted)) (get_or (wanted_lists index wanted) h.0 []) (rise-at index rising wanted h.0 small)),
      λ id. ap (λ l. has_id l id) ids ∙ has-filter (in_every (wanted_lists index wanted)) (get_or (wanted_lists index wanted) h.0 []) id ∙ one-of-all (wanted_lists index wanted) h.0 id inside,
    )

-- the same for lists that are borrowed
pub is-found-lent : {X : Type 0} (view : X → List ℕ) (lent : List X) (index : Index) → AllRise index.names → (wanted : List (List ℕ × AttrValue)) (found : List ℕ) → map view lent ≡ wanted_lists index wanted
    → (place : ℕ) × (place < length lent) × (found ≡ filter (in_every (map view lent)) (get_or (map view lent) place [])) → IsFound index wanted found
is-found-lent view lent index rising wanted found are h = is-found index rising wanted (map view lent) found are (h.0, omega (arith, h.1, length-map lent view), h.2)
