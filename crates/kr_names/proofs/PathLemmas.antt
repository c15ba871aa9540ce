-- Paths, part by part: what follows a prefix is read in one way only.
use Rattle.std.proofs.Common.{◌≡◌, ℕ, ◌<◌, ◌≤◌, ◌^◌, ◌≢◌, List, [], ◌∷◌, ◌++◌, length, get_or, Option, Some, None, Result, Ok, Err, IfOk, MatchOption, refl, sym, ◌∙◌, ap, subst, arith}
use Rattle.std.specs.Prelude.{◌↔◌, decimal, IfSome}
use Rattle.std.specs.List.{All}
use Rattle.std.proofs.lemmas.List.{append_cancel_left}
use Rattle.std.proofs.lemmas.List.Elements.{All-contains, All-from_get_or, All-head, All-tail, Contains-append_right}
use Rattle.kr_base.specs.Text.{HasZero}
use Rattle.kr_names.specs.Escape.{escaped, IsEscapeOf}
use Rattle.kr_names.specs.Path.{collections, aliases, IsAliasName, IsPathOf, IsNumber, IsNumbered, IsCut}
use Rattle.kr_names.specs.Reads.{Reads}
use Rattle.kr_base.specs.declared.ids.ItemId.{ItemId}
use Rattle.kr_names.specs.declared.object_name.ObjectName.TheVariants.{Collection, Item, Alias}
use denote.Ref.{Bor}
use Rattle.kr_names.proofs.TextLemmas.{bytes_fit, IsPlain}
use Rattle.kr_names.proofs.EscapeLemmas.{escaped_spelled, path_bytes_plain, path_byte_no_slash}
use Rattle.kr_names.proofs.NumberLemmas.{one_number}

-- what follows the prefix is determined
behind_front : (front path rest other : List ℕ) → path ≡ front ++ rest → path ≡ front ++ other → rest ≡ other
behind_front front path rest other p q = append_cancel_left front rest other (sym p ∙ q)

-- a number after a prefix
module _ (front path rest : List ℕ) (at : path ≡ front ++ rest) where
  numbered_rest : (n : ℕ) → IsNumbered front path n → IsNumber n rest
  numbered_rest n is = record { fits = is.fits; digits = behind_front front path rest (decimal n) at is.spelled }

  pub not_numbered : ((n : ℕ) → IsNumber n rest → ⊥) → (n : ℕ) → IsNumbered front path n → ⊥
  not_numbered none n is = none n (numbered_rest n is)

  pub not_positive : (m : ℕ) → IsNumber m rest → m ≤ 0 → (n : ℕ) → IsNumbered front path n → ⊥
  not_positive m zero least n is = omega (arith, one_number m n rest zero (numbered_rest n is), is.some)

-- an alias
alias_not_zero : (name : List ℕ) → IsAliasName name → HasZero name → ⊥
alias_not_zero name is zero = omega (arith, (All-contains IsPlain name 0 (path_bytes_plain name is.bytes) zero).0)

module _ (path rest : List ℕ) (at : path ≡ aliases ++ rest) where
  pub alias_read : {E : Type 0} (r : Result (Option (List ℕ)) E) → IsAliasName rest → IfOk r (λ answer. IfSome answer (λ made. made ≡ rest)) → (r ≡ Ok None) ↔ HasZero rest → IfOk r (Reads (λ alias. IsPathOf (Alias alias) path))
  alias_read (Ok None) is made zero = absurd (alias_not_zero rest is (zero.0 refl))
  alias_read (Ok (Some name)) is made zero = record { named = subst IsAliasName (sym made) is; spelled = at ∙ ap (λ l. aliases ++ l) (sym made) }
  alias_read (Err e) is made zero = tt

  pub not_alias : (IsAliasName rest → ⊥) → (alias : List ℕ) → IsPathOf (Alias alias) path → ⊥
  not_alias off alias is = off (subst IsAliasName (sym (behind_front aliases path rest alias at is.spelled)) is.named)

-- what std says of a text that is cut once
pub cut_read : (text : List ℕ) (r : Option (Bor (List ℕ) × Bor (List ℕ))) → MatchOption r ((i : ℕ) → i < length text → get_or text i 0 ≢ 47) (λ x. (text ≡ x.0.now ++ (47 ∷ x.1.now)) × ((i : ℕ) → i < length x.0.now → get_or x.0.now i 0 ≢ 47))
    → MatchOption r (All (λ byte. byte ≢ 47) text) (λ parts. IsCut text parts.0.now parts.1.now)
cut_read text None none = All-from_get_or (λ byte. byte ≢ 47) text 0 none
cut_read text (Some x) is = record { spelled = is.0; first = All-from_get_or (λ byte. byte ≢ 47) x.0.now 0 is.1 }

-- a text is cut at its first slash in one way
no_cut : (front back : List ℕ) → All (λ byte. byte ≢ 47) (front ++ 47 ∷ back) → ⊥
no_cut front back none = All-contains (λ byte. byte ≢ 47) (front ++ 47 ∷ back) 47 none (Contains-append_right front (47 ∷ back) 47 (0, omega arith, refl)) refl

one_cut : (a b x y : List ℕ) → All (λ byte. byte ≢ 47) a → All (λ byte. byte ≢ 47) x → a ++ 47 ∷ b ≡ x ++ 47 ∷ y → (a ≡ x) × (b ≡ y)
one_cut [] b [] y p q e = let same : b ≡ y = cc in (refl, same)
one_cut [] b (c ∷ x) y p q e = let slash : c ≡ 47 = cc in absurd (All-head (λ byte. byte ≢ 47) c x q slash)
one_cut (c ∷ a) b [] y p q e = let slash : c ≡ 47 = cc in absurd (All-head (λ byte. byte ≢ 47) c a p slash)
one_cut (c ∷ a) b (d ∷ x) y p q e =
    let heads : c ≡ d = cc in
    let tails : a ++ 47 ∷ b ≡ x ++ 47 ∷ y = cc in
    let rest = one_cut a b x y (All-tail (λ byte. byte ≢ 47) c a p) (All-tail (λ byte. byte ≢ 47) d x q) tails in
    (ap (λ l. c ∷ l) rest.0 ∙ ap (λ n. n ∷ x) heads, rest.1)

-- a collection, and an item in it
module _ (path rest : List ℕ) (at : path ≡ collections ++ rest) where
  pub collection_read : {E : Type 0} (r : Result (Option (List ℕ)) E) → IfOk r (Reads (λ stem. IsEscapeOf stem rest)) → IfOk r (Reads (λ stem. IsPathOf (Collection stem) path))
  collection_read (Ok None) none = λ stem is. none stem (record { is_stem = is.named; spelled = behind_front collections path rest (escaped stem) at is.spelled })
  collection_read (Ok (Some stem)) is = record { named = is.is_stem; spelled = at ∙ ap (λ l. collections ++ l) is.spelled }
  collection_read (Err e) is = tt

  item_rest : (it : List ℕ × ItemId) → IsPathOf (Item it.0 it.1) path → rest ≡ escaped it.0 ++ 47 ∷ decimal it.1.0
  item_rest it is = behind_front collections path rest _ at is.spelled

  no_slash : (it : List ℕ × ItemId) → IsPathOf (Item it.0 it.1) path → All (λ byte. byte ≢ 47) (escaped it.0)
  no_slash it is = λ k d lt. path_byte_no_slash (get_or (escaped it.0) k d) (escaped_spelled it.0 (bytes_fit it.0 is.named.0.text.utf8) k d lt)

  pub not_item : All (λ byte. byte ≢ 47) rest → (it : List ℕ × ItemId) → IsPathOf (Item it.0 it.1) path → ⊥
  not_item none it is = no_cut (escaped it.0) (decimal it.1.0) (subst (λ l. All (λ byte. byte ≢ 47) l) (item_rest it is) none)

  -- the rest is cut between the stem and the number
  module _ (front back : List ℕ) (cut : IsCut rest front back) where
    parts : (it : List ℕ × ItemId) → IsPathOf (Item it.0 it.1) path → (front ≡ escaped it.0) × (back ≡ decimal it.1.0)
    parts it is = one_cut front back (escaped it.0) (decimal it.1.0) cut.first (no_slash it is) (sym cut.spelled ∙ item_rest it is)

    pub item_number : (it : List ℕ × ItemId) → IsPathOf (Item it.0 it.1) path → IsNumber it.1.0 back
    item_number it is = record { fits = omega (arith, is.named.1); digits = (parts it is).1 }

    pub item_stem : (it : List ℕ × ItemId) → IsPathOf (Item it.0 it.1) path → IsEscapeOf it.0 front
    item_stem it is = record { is_stem = is.named.0; spelled = (parts it is).0 }

    pub too_large : (n : ℕ) → IsNumber n back → (n < 2 ^ 32 → ⊥) → (it : List ℕ × ItemId) → IsPathOf (Item it.0 it.1) path → ⊥
    too_large n is large it name = large (let same : n ≡ it.1.0 = one_number n it.1.0 back is (item_number it name) in omega (arith, name.named.1))

    pub item_read : (stem : List ℕ) (n : ℕ) → IsEscapeOf stem front → IsNumber n back → n < 2 ^ 32 → IsPathOf (Item stem (record { 0 = n })) path
    item_read stem n is number fits = record {
      named = (is.is_stem, fits);
      spelled = at ∙ ap (λ l. collections ++ l) (cut.spelled ∙ ap (λ l. l ++ 47 ∷ back) is.spelled ∙ ap (λ l. escaped stem ++ 47 ∷ l) number.digits);
    }
