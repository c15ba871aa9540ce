-- What the name of a keyring file says about its stem.
use Rattle.std.proofs.Common.{◌≡◌, ℕ, ◌+◌, List, [], ◌∷◌, ◌++◌, length, refl, sym, ◌∙◌, ap, subst, arith, inl, inr, ◌↔◌}
use Rattle.std.proofs.lemmas.List.{length-append}
use Rattle.std.proofs.lemmas.Cmp.{eq_by_cmp_equiv}
use Rattle.std.proofs.lemmas.Map.Views.{Contains-from_any, list_any-from_Contains}
use Rattle.std.specs.BTreeSet.{BTreeSet, IsFromIterResult}
use Rattle.std.specs.Cmp.Lexicographic.{slice_cmp, nat_list_cmp_total}
use Rattle.std.specs.List.{Contains}
use Rattle.std.specs.Ordering.{nat_cmp}
use Rattle.folder_store.proofs.OpenedLemmas.{by_name}
use Rattle.kr_base.specs.Stem.{IsStem, IsNoStem}
use Rattle.folder_store.specs.Names.{ending, aliases, IsRingName}

-- texts that are equal with the same ending are equal without it
pub one_front : (a b e : List ℕ) → a ++ e ≡ b ++ e → a ≡ b
one_front [] [] e same = refl
one_front [] (y ∷ b) e same =
    let long : length e ≡ length (y ∷ b) + length e = ap length same ∙ length-append (y ∷ b) e in
    absurd (omega (arith, long))
one_front (x ∷ a) [] e same =
    let long : length (x ∷ a) + length e ≡ length e = sym (length-append (x ∷ a) e) ∙ ap length same in
    absurd (omega (arith, long))
one_front (x ∷ a) (y ∷ b) e same =
    let head : x ≡ y = cc in
    let tail : a ++ e ≡ b ++ e = cc in
    let front : a ≡ b = one_front a b e tail in cc

no_stem : (front : List ℕ) → IsNoStem front → IsStem front → ⊥
no_stem front (inl none) is = absurd (omega (arith, is.some, ap length none))
no_stem front (inr (inl long)) is = absurd (omega (arith, is.fits, long))
no_stem front (inr (inr (inl slash))) is = is.no_slash slash
no_stem front (inr (inr (inr zero))) is = is.text.no_zero zero

-- a name whose front isn't a stem isn't that of a keyring file
pub no_ring_name : (name front stem : List ℕ) → name ≡ front ++ ending → IsNoStem front → IsRingName name stem → ⊥
no_ring_name name front stem spelled off is =
    no_stem front off (subst IsStem (one_front stem front ending (sym is.spelled ∙ spelled)) is.is_stem)

-- the file of the aliases isn't a keyring file
pub aliases_no_ring : (stem : List ℕ) → IsRingName aliases stem → ⊥
unfolding aliases ending
aliases_no_ring stem is =
    let long : length aliases ≡ length stem + length ending = ap length is.spelled ∙ length-append stem ending in
    absurd (omega (arith, long))

-- the keys of a set are the elements of the list that it was made of
pub same_members : (xs : List (List ℕ)) (n : BTreeSet (List ℕ)) → IsFromIterResult (slice_cmp nat_cmp) xs n → (name : List ℕ) → Contains n.keys name ↔ Contains xs name
same_members xs n is name = (
  λ has. Contains-from_any by_name name xs (sym (is.0 name) ∙ list_any-from_Contains (eq_by_cmp_equiv nat_list_cmp_total) name n.keys has),
  λ has. Contains-from_any by_name name n.keys (is.0 name ∙ list_any-from_Contains (eq_by_cmp_equiv nat_list_cmp_total) name xs has),
)
