-- The aliases after a change are in order, and a file can contain them.
use Rattle.std.proofs.Common.{◌≡◌, ℕ, ⊎_elim, Bool, true, List, [], ◌∷◌, ◌++◌, filter, Option, None, Some, IfSome, refl}
use Rattle.std.specs.declared.cmp.Ordering.{Ordering}
use Rattle.std.specs.declared.cmp.Ordering.TheVariants.{Less, Equal, Greater}
use Rattle.std.specs.Cmp.Lexicographic.{slice_cmp, nat_list_cmp_total}
use Rattle.std.specs.List.{AllByRecursion}
use Rattle.std.specs.List.Sorted.{IsStrictlySortedBy}
use Rattle.std.specs.Map.{keys_of}
use Rattle.std.specs.Ordering.{nat_cmp, is_lt}
use Rattle.std.proofs.lemmas.Bool.{cases_Bool}
use Rattle.std.proofs.lemmas.List.Elements.{All-from_recursion, recursion_from_All}
use Rattle.kr_base.specs.Attributes.{IsInOrder}
use Rattle.kr_base.specs.Stem.{IsStem}
use Rattle.kr_names.specs.Path.{IsAliasName}
use Rattle.alias_text.specs.Writing.{AreAliases}
use Rattle.alias_table.specs.Changed.{Aliases, is_live, kept, before, after, with_alias, changed}

abbrev pub by_bytes : List ℕ → List ℕ → Ordering
by_bytes = slice_cmp nat_cmp

-- all names come after this one
abbrev pub AllAfter : List ℕ → Aliases → Type 0
AllAfter name aliases = AllByRecursion (λ other. by_bytes name other ≡ Less) (keys_of aliases)

-- all names come before this one
abbrev pub AllBefore : List ℕ → Aliases → Type 0
AllBefore name aliases = AllByRecursion (λ other. by_bytes other name ≡ Less) (keys_of aliases)

is_less : (order : Ordering) → is_lt order ≡ true → order ≡ Less
is_less Less e = refl
is_less Equal e = absurd cc
is_less Greater e = absurd cc

-- what is true of all is true of those that a filter keeps
module _ (p : List ℕ × List ℕ → Bool) where
  all_kept : (P : List ℕ → Type 0) (aliases : Aliases) → AllByRecursion P (keys_of aliases) → AllByRecursion P (keys_of (filter p aliases))
  all_kept P [] all = tt
  all_kept P (alias ∷ aliases) (is, all) = ⊎_elim
      (λ passes. rw passes (is, all_kept P aliases all))
      (λ fails. rw fails (all_kept P aliases all))
      (cases_Bool (p alias))

  order_kept : (aliases : Aliases) → IsInOrder aliases → IsInOrder (filter p aliases)
  unfolding IsStrictlySortedBy
  order_kept [] ordered = tt
  order_kept (alias ∷ aliases) (is, ordered) = ⊎_elim
      (λ passes. rw passes (all_kept (λ other. by_bytes alias.0 other ≡ Less) aliases is, order_kept aliases ordered))
      (λ fails. rw fails (order_kept aliases ordered))
      (cases_Bool (p alias))

  each_kept : (P : List ℕ × List ℕ → Type 0) (aliases : Aliases) → AllByRecursion P aliases → AllByRecursion P (filter p aliases)
  each_kept P [] all = tt
  each_kept P (alias ∷ aliases) (is, all) = ⊎_elim
      (λ passes. rw passes (is, each_kept P aliases all))
      (λ fails. rw fails (each_kept P aliases all))
      (cases_Bool (p alias))

pub all_before : (name : List ℕ) (aliases : Aliases) → AllBefore name (before name aliases)
all_before name [] = tt
all_before name (alias ∷ aliases) = ⊎_elim
    (λ less. rw less (is_less (by_bytes alias.0 name) less, all_before name aliases))
    (λ other. rw other (all_before name aliases))
    (cases_Bool (is_lt (by_bytes alias.0 name)))

pub all_after : (name : List ℕ) (aliases : Aliases) → AllAfter name (after name aliases)
all_after name [] = tt
all_after name (alias ∷ aliases) = ⊎_elim
    (λ less. rw less (is_less (by_bytes name alias.0) less, all_after name aliases))
    (λ other. rw other (all_after name aliases))
    (cases_Bool (is_lt (by_bytes name alias.0)))

-- what comes after a name comes after what comes before the name
pub further : (first name : List ℕ) (aliases : Aliases) → by_bytes first name ≡ Less → AllAfter name aliases → AllAfter first aliases
further first name [] less all = tt
further first name (alias ∷ aliases) less (is, all) = (nat_list_cmp_total.trans first name alias.0 less is, further first name aliases less all)

joined : (P : List ℕ → Type 0) (aliases more : Aliases) → AllByRecursion P (keys_of aliases) → AllByRecursion P (keys_of more) → AllByRecursion P (keys_of (aliases ++ more))
joined P [] more all also = also
joined P (alias ∷ aliases) more (is, all) also = (is, joined P aliases more all also)

each_joined : (P : List ℕ × List ℕ → Type 0) (aliases more : Aliases) → AllByRecursion P aliases → AllByRecursion P more → AllByRecursion P (aliases ++ more)
each_joined P [] more all also = also
each_joined P (alias ∷ aliases) more (is, all) also = (is, each_joined P aliases more all also)

-- aliases before a name, followed by aliases after it
in_order : (name : List ℕ) (aliases more : Aliases) → IsInOrder aliases → AllBefore name aliases → IsInOrder more → AllAfter name more → IsInOrder (aliases ++ more)
unfolding IsStrictlySortedBy
in_order name [] more ordered before ordered_more after = ordered_more
in_order name (alias ∷ aliases) more (is, ordered) (less, before) ordered_more after =
    (joined (λ other. by_bytes alias.0 other ≡ Less) aliases more is (further alias.0 name more less after), in_order name aliases more ordered before ordered_more after)

-- the same with this name between them
in_order_at : (name stem : List ℕ) (aliases more : Aliases) → IsInOrder aliases → AllBefore name aliases → IsInOrder more → AllAfter name more → IsInOrder (aliases ++ (name, stem) ∷ more)
unfolding IsStrictlySortedBy
in_order_at name stem [] more ordered before ordered_more after = (after, ordered_more)
in_order_at name stem (alias ∷ aliases) more (is, ordered) (less, before) ordered_more after =
    (joined (λ other. by_bytes alias.0 other ≡ Less) aliases ((name, stem) ∷ more) is (less, further alias.0 name more less after), in_order_at name stem aliases more ordered before ordered_more after)

-- the name is a name of an alias, and the stem is a stem
abbrev IsAlias : List ℕ × List ℕ → Type 0
IsAlias alias = IsAliasName alias.0 × IsStem alias.1

kept_are : (p : List ℕ × List ℕ → Bool) (aliases : Aliases) → AreAliases aliases → AreAliases (filter p aliases)
kept_are p aliases are = record {
  ordered = order_kept p aliases are.ordered;
  each = All-from_recursion IsAlias (filter p aliases) (each_kept p IsAlias aliases (recursion_from_All IsAlias aliases are.each));
}

with_are : (name : List ℕ) (stem : Option (List ℕ)) (aliases : Aliases) → AreAliases aliases → IsAliasName name → IfSome stem IsStem → AreAliases (with_alias name stem aliases)
with_are name None aliases are named is =
    let front = kept_are (λ alias. is_lt (by_bytes alias.0 name)) aliases are in
    let back = kept_are (λ alias. is_lt (by_bytes name alias.0)) aliases are in
    record {
      ordered = in_order name (before name aliases) (after name aliases) front.ordered (all_before name aliases) back.ordered (all_after name aliases);
      each = All-from_recursion IsAlias (before name aliases ++ after name aliases)
          (each_joined IsAlias (before name aliases) (after name aliases) (recursion_from_All IsAlias (before name aliases) front.each) (recursion_from_All IsAlias (after name aliases) back.each));
    }
with_are name (Some stem) aliases are named is =
    let front = kept_are (λ alias. is_lt (by_bytes alias.0 name)) aliases are in
    let back = kept_are (λ alias. is_lt (by_bytes name alias.0)) aliases are in
    record {
      ordered = in_order_at name stem (before name aliases) (after name aliases) front.ordered (all_before name aliases) back.ordered (all_after name aliases);
      each = All-from_recursion IsAlias (before name aliases ++ (name, stem) ∷ after name aliases)
          (each_joined IsAlias (before name aliases) ((name, stem) ∷ after name aliases) (recursion_from_All IsAlias (before name aliases) front.each) ((named, is), recursion_from_All IsAlias (after name aliases) back.each));
    }

pub changed_are : (name : List ℕ) (stem : Option (List ℕ)) (live : List (List ℕ)) (aliases : Aliases) → AreAliases aliases → IsAliasName name → IfSome stem IsStem → AreAliases (changed name stem live aliases)
changed_are name stem live aliases are named is = with_are name stem (kept live aliases) (kept_are (λ alias. is_live live alias.1) aliases are) named is
