-- The first candidate that isn't used: there is one, and it is the only one.
use Rattle.std.proofs.Common.{◌≡◌, ◌≤◌, ℕ, zero, suc, ◌+◌, ◌<◌, ◌^◌, ⊎_elim, inl, inr, true, false, List, length, refl, sym, ◌∙◌, ap, subst, arith}
use Rattle.std.proofs.lemmas.Bool.{cases_Bool, cases_lt}
use Rattle.kr_base.specs.Stem.{IsStem}
use Rattle.stem_choice.specs.Choice.{IsChosen, base_of, chosen, free_from, numbered}
use Rattle.stem_choice.specs.UsedStems.{is_used}
use Rattle.stem_choice.proofs.CandidateLemmas.{AreUsed, IsStem-numbered, few_used}

-- one more candidate is used
one_more : (base : List ℕ) (used : List (List ℕ)) (number : ℕ) → AreUsed base used number → is_used (numbered base number) used ≡ true → AreUsed base used (number + 1)
one_more base used number all is before from below =
    elim (cases_lt before number) [
      | inl less ↦ all before from less
      | inr least ↦
          let same : number ≡ before = omega arith in
          subst (λ n. is_used (numbered base n) used ≡ true) same is
    ]

free_is : (label : List ℕ) (used : List (List ℕ)) (number more : ℕ) → 1 ≤ number → length used < number + more → number + more < 2 ^ 64 → AreUsed (base_of label) used number
    → IsChosen label used (free_from (base_of label) used number more)
free_is label used number zero from enough fits all = ⊎_elim
    (λ is. absurd (omega (arith, few_used (base_of label) used number (omega arith) (one_more (base_of label) used number all is))))
    (λ free. record { number = number; from_one = from; spelled = refl; free = free; least = all })
    (cases_Bool (is_used (numbered (base_of label) number) used))
free_is label used number (suc more) from enough fits all = ⊎_elim
    (λ is. rw is (free_is label used (number + 1) more (omega arith) (omega arith) (omega arith) (one_more (base_of label) used number all is)))
    (λ free. rw free (record { number = number; from_one = from; spelled = refl; free = free; least = all }))
    (cases_Bool (is_used (numbered (base_of label) number) used))

chosen_is : (label : List ℕ) (used : List (List ℕ)) → length used < 2 ^ 63 → IsChosen label used (chosen label used)
unfolding chosen
chosen_is label used few = free_is label used 1 (length used) (omega arith) (omega arith) (omega arith) (λ before from below. absurd (omega arith))

-- two such candidates have the same number
not_below : (label a b : List ℕ) (used : List (List ℕ)) (p : IsChosen label used a) (q : IsChosen label used b) → p.number < q.number → ⊥
not_below label a b used p q below =
    let is : is_used (numbered (base_of label) p.number) used ≡ true = q.least p.number p.from_one below in
    let free : is_used (numbered (base_of label) p.number) used ≡ false = subst (λ s. is_used s used ≡ false) p.spelled p.free in
    let no : true ≡ false = sym is ∙ free in
    cc

only_one : (label a b : List ℕ) (used : List (List ℕ)) → IsChosen label used a → IsChosen label used b → a ≡ b
only_one label a b used p q =
    elim (cases_lt p.number q.number) [
      | inl below ↦ absurd (not_below label a b used p q below)
      | inr least ↦
          elim (cases_lt q.number p.number) [
            | inl above ↦ absurd (not_below label b a used q p above)
            | inr most ↦
                let same : p.number ≡ q.number = omega arith in
                p.spelled ∙ ap (λ n. numbered (base_of label) n) same ∙ sym q.spelled
          ]
    ]

pub is_chosen : (label stem : List ℕ) (used : List (List ℕ)) → length used < 2 ^ 63 → IsChosen label used stem → stem ≡ chosen label used
is_chosen label stem used few is = only_one label stem (chosen label used) used is (chosen_is label used few)

pub chosen_back : (label stem : List ℕ) (used : List (List ℕ)) → length used < 2 ^ 63 → stem ≡ chosen label used → IsChosen label used stem
chosen_back label stem used few same = subst (λ s. IsChosen label used s) (sym same) (chosen_is label used few)

-- what a search for it keeps: the candidates before a number are used, and the text is the candidate with it
pub record LooksAt (label : List ℕ) (used : List (List ℕ)) (text : List ℕ) (number : ℕ) : Type 0 where
  pub from_one : 1 ≤ number
  pub within : number ≤ length used + 1
  pub spelled : text ≡ numbered (base_of label) number
  pub before : AreUsed (base_of label) used number

-- one more candidate is used, so there are as many used stems
pub used_too : (label : List ℕ) (used : List (List ℕ)) (text : List ℕ) (number : ℕ) → LooksAt label used text number → is_used text used ≡ true → AreUsed (base_of label) used (number + 1)
used_too label used text number looks is =
    one_more (base_of label) used number looks.before (subst (λ s. is_used s used ≡ true) looks.spelled is)

pub as_many_used : (label : List ℕ) (used : List (List ℕ)) (text : List ℕ) (number : ℕ) → length used < 2 ^ 63 → LooksAt label used text number → is_used text used ≡ true → number ≤ length used
as_many_used label used text number few looks is =
    few_used (base_of label) used number (omega (arith, looks.within)) (used_too label used text number looks is)

-- a candidate that isn't used ends it
pub found_free : (label : List ℕ) (used : List (List ℕ)) (text : List ℕ) (number : ℕ) → LooksAt label used text number → is_used text used ≡ false → IsChosen label used text
found_free label used text number looks free = record {
  number = number;
  from_one = looks.from_one;
  spelled = looks.spelled;
  free = free;
  least = looks.before;
}

-- ---- the stem that is chosen is a stem, however many are used

from_is : (label : List ℕ) (used : List (List ℕ)) (number more : ℕ) → IsStem (free_from (base_of label) used number more)
from_is label used number zero = IsStem-numbered label number
from_is label used number (suc more) = ⊎_elim
    (λ is. rw is (from_is label used (number + 1) more))
    (λ free. rw free (IsStem-numbered label number))
    (cases_Bool (is_used (numbered (base_of label) number) used))

pub IsStem-chosen : (label : List ℕ) (used : List (List ℕ)) → IsStem (chosen label used)
unfolding chosen
IsStem-chosen label used = from_is label used 1 (length used)
