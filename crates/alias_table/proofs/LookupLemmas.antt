-- What an alias stands for after a change.
use Rattle.std.proofs.Common.{◌≡◌, ◌≢◌, ℕ, ⊎_elim, Bool, true, false, cond, List, [], ◌∷◌, ◌++◌, filter, Option, None, Some, refl, sym, ◌∙◌, ap, subst}
use Rattle.std.specs.declared.cmp.Ordering.{Ordering}
use Rattle.std.specs.declared.cmp.Ordering.TheVariants.{Less, Equal, Greater}
use Rattle.std.specs.Cmp.Lexicographic.{nat_list_cmp_total}
use Rattle.std.specs.Map.{keys_of}
use Rattle.std.specs.Option.{option_or}
use Rattle.std.specs.Ordering.{is_eq, is_lt, ordering_reverse}
use Rattle.std.proofs.lemmas.Bool.{cases_Bool}
use Rattle.std.proofs.lemmas.List.{append-nil}
use Rattle.std.proofs.lemmas.Cmp.{eq_by_cmp_equiv, tied_itself}
use Rattle.std.proofs.lemmas.Map.{lookup-none}
use Rattle.std.proofs.lemmas.Map.Entries.{none_past_head, lookup_head, lookup_tail}
use Rattle.std.proofs.lemmas.Map.Keys.{IsDistinct-from_sorted, sorted_tail}
use Rattle.std.proofs.lemmas.Map.Lookups.{exact_bytes}
use Rattle.kr_base.specs.Attributes.{is_name, IsInOrder, value_at}
use Rattle.kr_base.proofs.AttributeLemmas.{option_or-none}
use Rattle.kr_base.proofs.OrderedLemmas.{is_equal, name-test}
use Rattle.alias_table.specs.Changed.{Aliases, is_live, kept, before, after, with_alias, changed, live_only}
use Rattle.alias_table.proofs.ChangedLemmas.{by_bytes, AllAfter, AllBefore, all_before, all_after, further}

is_same : (one other : List ℕ) → is_name one other ≡ true → one ≡ other
is_same one other e = exact_bytes one other (is_equal (by_bytes one other) e)

is_itself : (name : List ℕ) → is_name name name ≡ true
is_itself name = ap is_eq (tied_itself nat_list_cmp_total name)

-- names before it or after it aren't the name
not_before : (name other : List ℕ) → by_bytes other name ≡ Less → is_name name other ≡ false
not_before name other less = name-test name other ∙ ap is_eq less

skipped : (name : List ℕ) (front rest : Aliases) → AllBefore name front → value_at name (front ++ rest) ≡ value_at name rest
skipped name [] rest all = refl
skipped name (alias ∷ front) rest (less, all) = lookup_tail (is_name name) alias (front ++ rest) (not_before name alias.0 less) ∙ skipped name front rest all

none_after : (name : List ℕ) (aliases : Aliases) → AllAfter name aliases → value_at name aliases ≡ None
none_after name [] all = refl
none_after name (alias ∷ aliases) (less, all) = lookup_tail (is_name name) alias aliases (ap is_eq less) ∙ none_after name aliases all

-- an alias that was set is found, and one that was removed isn't
pub set_is_read : (name : List ℕ) (stem : Option (List ℕ)) (aliases : Aliases) → value_at name (with_alias name stem aliases) ≡ stem
set_is_read name None aliases = skipped name (before name aliases) (after name aliases) (all_before name aliases) ∙ none_after name (after name aliases) (all_after name aliases)
set_is_read name (Some stem) aliases =
    skipped name (before name aliases) ((name, stem) ∷ after name aliases) (all_before name aliases) ∙ lookup_head (is_name name) (name, stem) (after name aliases) (is_itself name)

-- one step of a filter
passed : (p : List ℕ × List ℕ → Bool) (alias : List ℕ × List ℕ) (aliases : Aliases) → p alias ≡ true → filter p (alias ∷ aliases) ≡ alias ∷ filter p aliases
passed p alias aliases it = ap (λ b. cond b (alias ∷ filter p aliases) (filter p aliases)) it

dropped : (p : List ℕ × List ℕ → Bool) (alias : List ℕ × List ℕ) (aliases : Aliases) → p alias ≡ false → filter p (alias ∷ aliases) ≡ filter p aliases
dropped p alias aliases it = ap (λ b. cond b (alias ∷ filter p aliases) (filter p aliases)) it

-- a filter that keeps the aliases of this name
module _ (p : List ℕ × List ℕ → Bool) (other : List ℕ) (passes : (alias : List ℕ × List ℕ) → is_name other alias.0 ≡ true → p alias ≡ true) where
  filtered : (aliases rest : Aliases) → value_at other (filter p aliases ++ rest) ≡ option_or (value_at other aliases) (value_at other rest)
  filtered [] rest = refl
  filtered (alias ∷ aliases) rest = ⊎_elim
      (λ here.
      let head : value_at other (alias ∷ aliases) ≡ Some alias.1 = lookup_head (is_name other) alias aliases here in
      let there : value_at other (alias ∷ (filter p aliases ++ rest)) ≡ Some alias.1 = lookup_head (is_name other) alias (filter p aliases ++ rest) here in
      ap (λ l. value_at other (l ++ rest)) (passed p alias aliases (passes alias here)) ∙ there ∙ ap (λ o. option_or o (value_at other rest)) (sym head))
      (λ off.
      let tail : value_at other (alias ∷ aliases) ≡ value_at other aliases = lookup_tail (is_name other) alias aliases off in
      let more : value_at other (filter p aliases ++ rest) ≡ option_or (value_at other aliases) (value_at other rest) = filtered aliases rest in
      let goes_on : value_at other (alias ∷ (filter p aliases ++ rest)) ≡ option_or (value_at other aliases) (value_at other rest) = lookup_tail (is_name other) alias (filter p aliases ++ rest) off ∙ more in
      let same : option_or (value_at other aliases) (value_at other rest) ≡ option_or (value_at other (alias ∷ aliases)) (value_at other rest) = ap (λ o. option_or o (value_at other rest)) (sym tail) in
      ⊎_elim
      (λ it. ap (λ l. value_at other (l ++ rest)) (passed p alias aliases it) ∙ goes_on ∙ same)
      (λ it. ap (λ l. value_at other (l ++ rest)) (dropped p alias aliases it) ∙ more ∙ same)
      (cases_Bool (p alias)))
      (cases_Bool (is_name other alias.0))

-- what comes before a name comes before what comes after the name
nearer : (last name : List ℕ) (aliases : Aliases) → by_bytes name last ≡ Less → AllBefore name aliases → AllBefore last aliases
nearer last name [] less all = tt
nearer last name (alias ∷ aliases) less (is, all) = (nat_list_cmp_total.trans alias.0 name last is less, nearer last name aliases less all)

-- every other alias stays: one whose name comes before this one, and one whose name comes after it
earlier_stays : (name other : List ℕ) (stem : Option (List ℕ)) (aliases : Aliases) → by_bytes other name ≡ Less → value_at other (with_alias name stem aliases) ≡ value_at other aliases
earlier_stays name other None aliases less =
    filtered (λ alias. is_lt (by_bytes alias.0 name)) other (λ alias same. ap is_lt (subst (λ n. by_bytes n name ≡ Less) (is_same other alias.0 same) less)) aliases (after name aliases)
    ∙ ap (option_or (value_at other aliases)) (none_after other (after name aliases) (further other name (after name aliases) less (all_after name aliases)))
    ∙ option_or-none (value_at other aliases)
earlier_stays name other (Some stem) aliases less =
    filtered (λ alias. is_lt (by_bytes alias.0 name)) other (λ alias same. ap is_lt (subst (λ n. by_bytes n name ≡ Less) (is_same other alias.0 same) less)) aliases ((name, stem) ∷ after name aliases)
    ∙ ap (option_or (value_at other aliases)) (none_after other ((name, stem) ∷ after name aliases) (less, further other name (after name aliases) less (all_after name aliases)))
    ∙ option_or-none (value_at other aliases)

after_stays : (name other : List ℕ) (aliases : Aliases) → by_bytes name other ≡ Less → value_at other (after name aliases) ≡ value_at other aliases
after_stays name other aliases less =
    ap (value_at other) (sym (append-nil (after name aliases)))
    ∙ filtered (λ alias. is_lt (by_bytes name alias.0)) other (λ alias same. ap is_lt (subst (λ n. by_bytes name n ≡ Less) (is_same other alias.0 same) less)) aliases []
    ∙ option_or-none (value_at other aliases)

later_stays : (name other : List ℕ) (stem : Option (List ℕ)) (aliases : Aliases) → by_bytes name other ≡ Less → value_at other (with_alias name stem aliases) ≡ value_at other aliases
later_stays name other None aliases less =
    skipped other (before name aliases) (after name aliases) (nearer other name (before name aliases) less (all_before name aliases)) ∙ after_stays name other aliases less
later_stays name other (Some stem) aliases less =
    skipped other (before name aliases) ((name, stem) ∷ after name aliases) (nearer other name (before name aliases) less (all_before name aliases))
    ∙ lookup_tail (is_name other) (name, stem) (after name aliases) (not_before other name less)
    ∙ after_stays name other aliases less

other_stays : (name other : List ℕ) (stem : Option (List ℕ)) (aliases : Aliases) → other ≢ name → value_at other (with_alias name stem aliases) ≡ value_at other aliases
other_stays name other stem aliases apart = by_order (by_bytes other name) refl
  where
    by_order : (order : Ordering) → by_bytes other name ≡ order → value_at other (with_alias name stem aliases) ≡ value_at other aliases
    by_order Less is = earlier_stays name other stem aliases is
    by_order Equal is = absurd (apart (exact_bytes other name is))
    by_order Greater is = later_stays name other stem aliases (nat_list_cmp_total.antisymm name other ∙ ap ordering_reverse is)

-- a name that has no alias has none after a filter
none_kept : (p : List ℕ × List ℕ → Bool) (name : List ℕ) (aliases : Aliases) → value_at name aliases ≡ None → value_at name (filter p aliases) ≡ None
none_kept p name [] none = refl
none_kept p name (alias ∷ aliases) none = ⊎_elim
    (λ here. absurd (let some : Some alias.1 ≡ None = sym (lookup_head (is_name name) alias aliases here) ∙ none in cc))
    (λ off.
    let more : value_at name (filter p aliases) ≡ None = none_kept p name aliases (sym (lookup_tail (is_name name) alias aliases off) ∙ none) in
    ⊎_elim
    (λ it. ap (value_at name) (passed p alias aliases it) ∙ lookup_tail (is_name name) alias (filter p aliases) off ∙ more)
    (λ it. ap (value_at name) (dropped p alias aliases it) ∙ more)
    (cases_Bool (p alias)))
    (cases_Bool (is_name name alias.0))

-- an alias is kept exactly if its collection exists
kept_live : (live : List (List ℕ)) (name : List ℕ) (aliases : Aliases) → IsInOrder aliases → value_at name (kept live aliases) ≡ live_only live (value_at name aliases)
kept_live live name [] ordered = refl
kept_live live name (alias ∷ aliases) ordered =
    let rest = kept_live live name aliases (sorted_tail by_bytes alias.0 (keys_of aliases) ordered) in
    ⊎_elim
    (λ here.
    let head : Some alias.1 ≡ value_at name (alias ∷ aliases) = sym (lookup_head (is_name name) alias aliases here) in
    let none : value_at name aliases ≡ None = lookup-none (is_name name) aliases (none_past_head (eq_by_cmp_equiv nat_list_cmp_total) name alias aliases (IsDistinct-from_sorted by_bytes (keys_of (alias ∷ aliases)) ordered) here) in
    ⊎_elim
    (λ it. ap (value_at name) (passed (λ a. is_live live a.1) alias aliases it) ∙ lookup_head (is_name name) alias (kept live aliases) here ∙ sym (ap (λ b. cond b (Some alias.1) None) it) ∙ ap (live_only live) head)
    (λ it. ap (value_at name) (dropped (λ a. is_live live a.1) alias aliases it) ∙ none_kept (λ a. is_live live a.1) name aliases none ∙ sym (ap (λ b. cond b (Some alias.1) None) it) ∙ ap (live_only live) head)
    (cases_Bool (is_live live alias.1)))
    (λ off.
    let tail : value_at name aliases ≡ value_at name (alias ∷ aliases) = sym (lookup_tail (is_name name) alias aliases off) in
    ⊎_elim
    (λ it. ap (value_at name) (passed (λ a. is_live live a.1) alias aliases it) ∙ lookup_tail (is_name name) alias (kept live aliases) off ∙ rest ∙ ap (live_only live) tail)
    (λ it. ap (value_at name) (dropped (λ a. is_live live a.1) alias aliases it) ∙ rest ∙ ap (live_only live) tail)
    (cases_Bool (is_live live alias.1)))
    (cases_Bool (is_name name alias.0))

pub other_is_kept : (name other : List ℕ) (stem : Option (List ℕ)) (live : List (List ℕ)) (aliases : Aliases) → IsInOrder aliases → other ≢ name
    → value_at other (changed name stem live aliases) ≡ live_only live (value_at other aliases)
other_is_kept name other stem live aliases ordered apart = other_stays name other stem (kept live aliases) apart ∙ kept_live live other aliases ordered
