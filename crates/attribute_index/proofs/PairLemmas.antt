-- Pairs one after the other, of which some are left out, and an id that is put there and taken out again.
use Rattle.std.proofs.Common.{◌≡◌, ℕ, ◌+◌, ◌<◌, ◌==◌, ◌&&◌, ◌||◌, not, Bool, true, false, cond, nat_lt, zero, suc, List, [], ◌∷◌, length, take, filter, get_or, refl, sym, ap, subst, ◌∙◌, inl, inr, ⊎_elim, arith}
use Rattle.std.specs.Cmp.Lexicographic.{nat_list_cmp_total}
use Rattle.std.specs.List.{AllByRecursion, list_any}
use Rattle.std.specs.Ordering.{nat_cmp, is_eq}
use Rattle.std.proofs.lemmas.Bool.{cases_Bool, cases_order, lt-ltb, le-ltb}
use Rattle.std.proofs.lemmas.Bool.Decides.{nat_tests}
use Rattle.std.proofs.lemmas.Cmp.{tied_itself}
use Rattle.std.proofs.lemmas.List.{take_all}
use Rattle.std.proofs.lemmas.List.Folds.{list_any_more}
use Rattle.std.proofs.lemmas.Map.Keys.{sorted_tail}
use Rattle.kr_base.specs.Attributes.{is_name}
use Rattle.kr_base.specs.IdLists.{IsIdList, has_id, with_id, without_id}
use Rattle.kr_base.specs.declared.attributes.AttrValue.{AttrValue}
use Rattle.kr_base.proofs.IdLemmas.{Rises, AllOther, all-lower, all-upper, with-there, without-other, above-head, lower-above, upper-above, small-with, small-without}
use Rattle.attribute_match.specs.Match.{has_pair, text_of}
use Rattle.attribute_index.specs.Index.{AllRise, IsAtJust, IsMoved, IsPut, IsSame, IsTaken, Names, ids_in_names, is_own}
use Rattle.attribute_index.proofs.EntryLemmas.{same_name}

-- ---- an id that is put or taken out twice

pub with-twice : (id : ℕ) (ids : List ℕ) → with_id id (with_id id ids) ≡ with_id id ids
with-twice id ids = with-there id (filter (λ x. nat_lt x id) ids) (filter (λ x. nat_lt id x) ids) (all-lower id ids) (all-upper id ids)

other-left : (id : ℕ) (ids : List ℕ) → AllOther id (without_id id ids)
other-left id [] = tt
other-left id (x ∷ xs) =
    let step : (b : Bool) → (x == id) ≡ b → AllOther id (without_id id (x ∷ xs)) =
    elim [
      | true ↦ λ is. rw is (other-left id xs)
      | false ↦ λ is. rw is (is, other-left id xs)
    ] in
    step (x == id) refl

pub without-twice : (id : ℕ) (ids : List ℕ) → without_id id (without_id id ids) ≡ without_id id ids
without-twice id ids = without-other id (without_id id ids) (other-left id ids)

-- ---- an id that is put and taken out again

pub without-lacking : (id : ℕ) (ids : List ℕ) → has_id ids id ≡ false → without_id id ids ≡ ids
without-lacking id [] lacks = refl
without-lacking id (x ∷ xs) lacks =
    let step : (b : Bool) → (x == id) ≡ b → without_id id (x ∷ xs) ≡ x ∷ xs =
    elim [
      | true ↦ λ is. let there : true ≡ false = rw is at lacks in absurd cc
      | false ↦ λ is. let more : has_id xs id ≡ false = rw is at lacks in rw is (ap (λ t. x ∷ t) (without-lacking id xs more))
    ] in
    step (x == id) refl

weaker : (id x : ℕ) → id < x → (xs : List ℕ) → AllByRecursion (λ y. x < y) xs → AllByRecursion (λ y. id < y) xs
weaker id x lt [] h = tt
weaker id x lt (y ∷ ys) h = (omega (arith, lt, h.0), weaker id x lt ys h.1)

pub without-with : (id : ℕ) (ids : List ℕ) → Rises ids → without_id id (with_id id ids) ≡ without_id id ids
without-with id [] rises = let same : (id == id) ≡ true = grind (arith, nat_tests) in rw same refl
without-with id (x ∷ xs) rises =
    let same : (id == id) ≡ true = grind (arith, nat_tests) in
    let more = without-with id xs (sorted_tail nat_cmp x xs rises) in
    elim (cases_order x id) [
      | inl equal ↦
          let above = above-head x xs rises in
          let here : (x == id) ≡ true = grind (arith, nat_tests) in
          let low : nat_lt x id ≡ false = grind (arith, nat_tests) in
          let high : nat_lt id x ≡ false = grind (arith, nat_tests) in
          let lower : filter (λ y. nat_lt y id) xs ≡ [] = subst (λ n. filter (λ y. nat_lt y n) xs ≡ []) equal (lower-above x xs above) in
          let upper : filter (λ y. nat_lt id y) xs ≡ xs = subst (λ n. filter (λ y. nat_lt n y) xs ≡ xs) equal (upper-above x xs above) in
          rw (low, high, here, lower, upper, same) refl
      | inr apart ↦ elim apart [
        | inl below ↦
            let here : (x == id) ≡ false = grind (arith, nat_tests) in
            rw (lt-ltb x id below, le-ltb id x (omega (arith, below)), here) (ap (λ t. x ∷ t) more)
        | inr above ↦
            let here : (x == id) ≡ false = grind (arith, nat_tests) in
            let rest = above-head x xs rises in
            let further : AllByRecursion (λ y. id < y) xs = weaker id x above xs rest in
            rw (le-ltb x id (omega (arith, above)), lt-ltb id x above, lower-above id xs further, upper-above id xs further, same, here) refl
      ]
    ]

-- ---- names and texts

pub itself : (x : List ℕ) → is_name x x ≡ true
itself x = ap is_eq (tied_itself nat_list_cmp_total x)

pub turned : (x y : List ℕ) → is_name x y ≡ is_name y x
turned x y =
    ⊎_elim
    (λ is. let same = same_name x y is in is ∙ sym (subst (λ z. is_name z x ≡ true) same (itself x)))
    (λ off.
    ⊎_elim
    (λ is. let same = same_name y x is in let yes : is_name x y ≡ true = subst (λ z. is_name z y ≡ true) same (itself y) in yes ∙ sym is)
    (λ none. off ∙ sym none)
    (cases_Bool (is_name y x)))
    (cases_Bool (is_name x y))

abbrev pub hits : List ℕ × AttrValue → List ℕ → List ℕ → Bool
hits pair n t = is_name pair.0 n && is_name (text_of pair.1) t

hits-same : (pair : List ℕ × AttrValue) (n t : List ℕ) → hits pair n t ≡ true → (pair.0 ≡ n) × (text_of pair.1 ≡ t)
hits-same pair n t is =
    let step : (a b : Bool) → is_name pair.0 n ≡ a → is_name (text_of pair.1) t ≡ b → (a && b) ≡ true → (pair.0 ≡ n) × (text_of pair.1 ≡ t) =
    elim [
      | true ↦ elim [
        | true ↦ λ p q e. (same_name pair.0 n p, same_name (text_of pair.1) t q)
        | false ↦ λ p q e. absurd cc
      ]
      | false ↦ λ b p q e. absurd cc
    ] in
    step _ _ refl refl is

-- a pair that is left out changes nothing, and another is put
pub left-out : {Y : Type 0} (pair : List ℕ × AttrValue) (but : List (List ℕ × AttrValue)) → true ≡ has_pair pair.0 (text_of pair.1) but → (n t : List ℕ) (x y : Y) → y ≡ cond (hits pair n t && not (has_pair n t but)) x y
left-out pair but there n t x y =
    ⊎_elim
    (λ is.
    let same = hits-same pair n t is in
    let here : has_pair n t but ≡ true = sym (there ∙ ap (λ m. has_pair m (text_of pair.1) but) same.0 ∙ ap (λ s. has_pair n s but) same.1) in
    rw (is, here) refl)
    (λ off. rw off refl)
    (cases_Bool (hits pair n t))

pub let-in : {Y : Type 0} (pair : List ℕ × AttrValue) (but : List (List ℕ × AttrValue)) → false ≡ has_pair pair.0 (text_of pair.1) but → (n t : List ℕ) (x y : Y) → cond (hits pair n t) x y ≡ cond (hits pair n t && not (has_pair n t but)) x y
let-in pair but lacks n t x y =
    ⊎_elim
    (λ is.
    let same = hits-same pair n t is in
    let here : has_pair n t but ≡ false = sym (lacks ∙ ap (λ m. has_pair m (text_of pair.1) but) same.0 ∙ ap (λ s. has_pair n s but) same.1) in
    rw (is, here) refl)
    (λ off. rw off refl)
    (cases_Bool (hits pair n t))

-- one pair more
module _ (f : List ℕ → List ℕ) (twice : (ids : List ℕ) → f (f ids) ≡ f ids) where
  none : (b : Bool) (x y : List ℕ) → cond (b && false) x y ≡ y
  none true x y = refl
  none false x y = refl

  step-ids : (had hit kept : Bool) (old now new : List ℕ) → now ≡ cond (had && kept) (f old) old → new ≡ cond (hit && kept) (f now) now → new ≡ cond ((had || hit) && kept) (f old) old
  step-ids had hit false old now new p q = q ∙ none hit (f now) now ∙ p ∙ none had (f old) old ∙ sym (none (had || hit) (f old) old)
  step-ids true true true old now new p q = q ∙ ap f p ∙ twice old
  step-ids true false true old now new p q = q ∙ p
  step-ids false true true old now new p q = q ∙ ap f p
  step-ids false false true old now new p q = q ∙ p

  pub step : (pairs but : List (List ℕ × AttrValue)) (place : ℕ) (pair : List ℕ × AttrValue) → place < length pairs → pair ≡ get_or pairs place pair → (n t old now new : List ℕ)
      → now ≡ cond (is_own (take place pairs) but n t) (f old) old → new ≡ cond (hits pair n t && not (has_pair n t but)) (f now) now → new ≡ cond (is_own (take (place + 1) pairs) but n t) (f old) old
  step pairs but place pair lt is n t old now new p q =
      let test : List ℕ × AttrValue → Bool = λ x. is_name n x.0 && is_name t (text_of x.1) in
      let more : has_pair n t (take (place + 1) pairs) ≡ (has_pair n t (take place pairs) || test pair) = list_any_more test pairs place pair lt ∙ ap (λ x. has_pair n t (take place pairs) || test x) (sym is) in
      let same : test pair ≡ hits pair n t = λ i. turned n pair.0 i && turned t (text_of pair.1) i in
      rw (more, same) (step-ids (has_pair n t (take place pairs)) (hits pair n t) (not (has_pair n t but)) old now new p q)

-- ---- the whole way back

pub rise-put : (at : List ℕ → List ℕ → Bool) (id : ℕ) (old new : Names) → id < 4294967296 → AllRise old → IsPut at id old new → AllRise new
rise-put at id old new small rising put n t =
    ⊎_elim
    (λ is. let now : ids_in_names new n t ≡ with_id id (ids_in_names old n t) = put n t ∙ ap (λ b. cond b (with_id id (ids_in_names old n t)) (ids_in_names old n t)) is in subst IsIdList (sym now) (small-with id (ids_in_names old n t) small (rising n t)))
    (λ off. let now : ids_in_names new n t ≡ ids_in_names old n t = put n t ∙ ap (λ b. cond b (with_id id (ids_in_names old n t)) (ids_in_names old n t)) off in subst IsIdList (sym now) (rising n t))
    (cases_Bool (at n t))

pub rise-taken : (at : List ℕ → List ℕ → Bool) (id : ℕ) (old new : Names) → AllRise old → IsTaken at id old new → AllRise new
rise-taken at id old new rising taken n t =
    ⊎_elim
    (λ is. let now : ids_in_names new n t ≡ without_id id (ids_in_names old n t) = taken n t ∙ ap (λ b. cond b (without_id id (ids_in_names old n t)) (ids_in_names old n t)) is in subst IsIdList (sym now) (small-without id (ids_in_names old n t) (rising n t)))
    (λ off. let now : ids_in_names new n t ≡ ids_in_names old n t = taken n t ∙ ap (λ b. cond b (without_id id (ids_in_names old n t)) (ids_in_names old n t)) off in subst IsIdList (sym now) (rising n t))
    (cases_Bool (at n t))

prefix-any : (p : List ℕ × AttrValue → Bool) (count : ℕ) (xs : List (List ℕ × AttrValue)) → list_any p (take count xs) ≡ true → list_any p xs ≡ true
prefix-any p zero xs e = absurd cc
prefix-any p (suc k) [] e = absurd cc
prefix-any p (suc k) (x ∷ xs) e =
    let cases : (b : Bool) → p x ≡ b → list_any p (x ∷ xs) ≡ true =
    elim [
      | true ↦ λ is. rw is refl
      | false ↦ λ is. let more : list_any p (take k xs) ≡ true = rw is at e in rw is (prefix-any p k xs more)
    ] in
    cases (p x) refl

none-at : (b : Bool) (x y : List ℕ) → cond (b && false) x y ≡ y
none-at true x y = refl
none-at false x y = refl

back-ids : (id : ℕ) (had all but : Bool) (old now new : List ℕ) → Rises old → has_id old id ≡ but → (had ≡ true → all ≡ true) → now ≡ cond (had && not but) (with_id id old) old → new ≡ cond (all && not but) (without_id id now) now → new ≡ old
back-ids id had all true old now new rises there within p q = q ∙ none-at all (without_id id now) now ∙ p ∙ none-at had (with_id id old) old
back-ids id true true false old now new rises there within p q = q ∙ ap (without_id id) p ∙ without-with id old rises ∙ without-lacking id old there
back-ids id true false false old now new rises there within p q = let e : false ≡ true = within refl in absurd cc
back-ids id false true false old now new rises there within p q = q ∙ ap (without_id id) p ∙ without-lacking id old there
back-ids id false false false old now new rises there within p q = q ∙ p

pub back : (id count : ℕ) (pairs but : List (List ℕ × AttrValue)) (old now new : Names) → AllRise old → IsAtJust but id old → IsPut (is_own (take count pairs) but) id old now → IsTaken (is_own pairs but) id now new → IsSame old new
back id count pairs but old now new rising there put taken n t =
    back-ids id (has_pair n t (take count pairs)) (has_pair n t pairs) (has_pair n t but) (ids_in_names old n t) (ids_in_names now n t) (ids_in_names new n t) (rising n t).rising (there n t) (prefix-any (λ x. is_name n x.0 && is_name t (text_of x.1)) count pairs) (put n t) (taken n t)

pub let-in-put : (pair : List ℕ × AttrValue) (but : List (List ℕ × AttrValue)) → false ≡ has_pair pair.0 (text_of pair.1) but → (id : ℕ) (old new : Names) → IsPut (hits pair) id old new → IsPut (λ n t. hits pair n t && not (has_pair n t but)) id old new
let-in-put pair but lacks id old new put n t = put n t ∙ let-in pair but lacks n t (with_id id (ids_in_names old n t)) (ids_in_names old n t)

pub let-in-taken : (pair : List ℕ × AttrValue) (but : List (List ℕ × AttrValue)) → false ≡ has_pair pair.0 (text_of pair.1) but → (id : ℕ) (old new : Names) → IsTaken (hits pair) id old new → IsTaken (λ n t. hits pair n t && not (has_pair n t but)) id old new
let-in-taken pair but lacks id old new taken n t = taken n t ∙ let-in pair but lacks n t (without_id id (ids_in_names old n t)) (ids_in_names old n t)

pub step-put : (pairs but : List (List ℕ × AttrValue)) (place : ℕ) (pair : List ℕ × AttrValue) → place < length pairs → pair ≡ get_or pairs place pair → (id : ℕ) (old now new : Names)
    → IsPut (is_own (take place pairs) but) id old now → IsPut (λ n t. hits pair n t && not (has_pair n t but)) id now new → IsPut (is_own (take (place + 1) pairs) but) id old new
step-put pairs but place pair lt is id old now new p q n t = step (with_id id) (with-twice id) pairs but place pair lt is n t (ids_in_names old n t) (ids_in_names now n t) (ids_in_names new n t) (p n t) (q n t)

pub step-taken : (pairs but : List (List ℕ × AttrValue)) (place : ℕ) (pair : List ℕ × AttrValue) → place < length pairs → pair ≡ get_or pairs place pair → (id : ℕ) (old now new : Names)
    → IsTaken (is_own (take place pairs) but) id old now → IsTaken (λ n t. hits pair n t && not (has_pair n t but)) id now new → IsTaken (is_own (take (place + 1) pairs) but) id old new
step-taken pairs but place pair lt is id old now new p q n t = step (without_id id) (without-twice id) pairs but place pair lt is n t (ids_in_names old n t) (ids_in_names now n t) (ids_in_names new n t) (p n t) (q n t)

-- ---- with nothing left out

and_true : (b : Bool) → (b && true) ≡ b
and_true true = refl
and_true false = refl

pub put-any : (pairs : List (List ℕ × AttrValue)) (id : ℕ) (old new : Names) → IsPut (is_own pairs []) id old new → IsPut (λ n t. has_pair n t pairs) id old new
put-any pairs id old new put n t = put n t ∙ ap (λ b. cond b (with_id id (ids_in_names old n t)) (ids_in_names old n t)) (and_true (has_pair n t pairs))

pub taken-any : (pairs : List (List ℕ × AttrValue)) (id : ℕ) (old new : Names) → IsTaken (is_own pairs []) id old new → IsTaken (λ n t. has_pair n t pairs) id old new
taken-any pairs id old new taken n t = taken n t ∙ ap (λ b. cond b (without_id id (ids_in_names old n t)) (ids_in_names old n t)) (and_true (has_pair n t pairs))

pub back-whole : (id : ℕ) (pairs but : List (List ℕ × AttrValue)) (old now new : Names) → AllRise old → IsAtJust but id old → IsPut (is_own pairs but) id old now → IsTaken (is_own pairs but) id now new → IsSame old new
back-whole id pairs but old now new rising there put taken =
    back id (length pairs) pairs but old now new rising there (subst (λ ps. IsPut (is_own ps but) id old now) (sym (take_all (length pairs) pairs (omega arith))) put) taken

-- ---- attributes that are changed

moved-ids : (f g : List ℕ → List ℕ) (was is : Bool) (old now new : List ℕ) → now ≡ cond (is && not was) (f old) old → new ≡ cond (was && not is) (g now) now → new ≡ cond (is && not was) (f old) (cond (was && not is) (g old) old)
moved-ids f g true true old now new p q = q ∙ p
moved-ids f g true false old now new p q = q ∙ ap g p
moved-ids f g false true old now new p q = q ∙ p
moved-ids f g false false old now new p q = q ∙ p

pub moved : (id : ℕ) (before after : List (List ℕ × AttrValue)) (old now new : Names) → IsPut (is_own after before) id old now → IsTaken (is_own before after) id now new → IsMoved before after id old new
moved id before after old now new put taken n t = moved-ids (with_id id) (without_id id) (has_pair n t before) (has_pair n t after) (ids_in_names old n t) (ids_in_names now n t) (ids_in_names new n t) (put n t) (taken n t)
