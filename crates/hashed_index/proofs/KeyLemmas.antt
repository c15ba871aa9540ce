-- The number of a text, and the keys of a hash that matches.
use Rattle.std.proofs.Common.{◌≡◌, ℕ, ◌<◌, ◌&&◌, Bool, true, false, cond, List, Option, Some, None, Result, Ok, Err, refl, sym, ap, ◌∙◌, inl, inr, arith, nat_lt, nat_eq}
use Rattle.std.specs.Prelude.{decimal, ◌⊎◌}
use Rattle.std.specs.Cmp.Lexicographic.{slice_cmp}
use Rattle.std.specs.Ordering.{nat_cmp, is_eq}
use Rattle.std.specs.declared.cmp.Ordering.{Ordering}
use Rattle.std.specs.declared.cmp.Ordering.TheVariants.{Less, Equal, Greater}
use Rattle.std.specs.Str.Parse.{ParsesUnsigned, digits_value}
use Rattle.std.proofs.lemmas.Bool.{ltb-true}
use Rattle.std.proofs.lemmas.Bool.Decides.{nat_tests}
use Rattle.std.proofs.lemmas.Fmt.{parse-decimal}
use Rattle.std.proofs.lemmas.Map.Lookups.{exact_bytes}
use Rattle.kr_base.specs.Attributes.{is_name}
use Rattle.kr_base.specs.declared.hashed.HashedValue.{HashedValue}
use Rattle.kr_base.specs.declared.hashed.HashedValue.TheVariants as hash
use Rattle.attribute_hash.specs.Hash.{number_hash, text_hash}
use Rattle.attribute_match.specs.Match.{is_hash_of, is_number_hash, number_of}
use Rattle.hashed_index.specs.Keys.{IsNumberKey, key_of, number_key_of, text_key_of}

Equal-is : (o : Ordering) → is_eq o ≡ true → o ≡ Equal
Equal-is Less e = absurd cc
Equal-is Equal e = refl
Equal-is Greater e = absurd cc

pub same_name : (x y : List ℕ) → is_name x y ≡ true → x ≡ y
same_name x y e = exact_bytes x y (Equal-is (slice_cmp nat_cmp x y) e)

-- a text with a number is that number in decimal
number_text : (text : List ℕ) (n : ℕ) → number_of text ≡ Some n → (n < 4294967296) × (text ≡ decimal n)
number_text text n =
    let step : (a b : Bool) → nat_lt (digits_value 10 text) 4294967296 ≡ a → is_name (decimal (digits_value 10 text)) text ≡ b → cond (a && b) (Some (digits_value 10 text)) None ≡ Some n → (n < 4294967296) × (text ≡ decimal n) =
    elim [
      | true ↦ elim [
        | true ↦ λ fits same e.
            let is : digits_value 10 text ≡ n = cc in
            (omega (arith, ltb-true _ _ fits, is), sym (same_name _ _ same) ∙ ap decimal is)
        | false ↦ λ fits same e. absurd cc
      ]
      | false ↦ λ b fits same e. absurd cc
    ] in
    step _ _ refl refl

pub number_read : (E : Type 0) (name text : List ℕ) (m key : ℕ) → ParsesUnsigned {E = E} 32 10 text (Ok m) → key ≡ number_key_of name (number_hash m) → IsNumberKey name text (Some key)
number_read E name text m key h e n is =
    let wanted = number_text text n is in
    let found : Result ℕ E = Ok m in
    let other : Result ℕ E = Ok n in
    let read : found ≡ other = parse-decimal 32 n text found (omega (arith, wanted.0)) (omega (arith, wanted.0)) wanted.1 h in
    let same : m ≡ n = cc in
    ap Some (e ∙ ap (λ k. number_key_of name (number_hash k)) same)

pub number_not_read : {E : Type 0} (name text : List ℕ) (e : E) → ParsesUnsigned 32 10 text (Err e) → IsNumberKey name text None
number_not_read {E} name text e h n is =
    let wanted = number_text text n is in
    let read : Err e ≡ Ok n = parse-decimal 32 n text (Err e) (omega (arith, wanted.0)) (omega (arith, wanted.0)) wanted.1 h in
    absurd cc

-- the key of a hash that matches is one of the two keys of the text
abbrev pub HasKey : List ℕ → List ℕ → ℕ → Type 0
HasKey name text key = (key ≡ text_key_of name (text_hash text)) ⊎ ((n : ℕ) × (number_of text ≡ Some n) × (key ≡ number_key_of name (number_hash n)))

equal_from : (a b : ℕ) → nat_eq a b ≡ true → a ≡ b
equal_from a b e = grind (arith, nat_tests, e)

number_keyed : (name text : List ℕ) (found : ℕ) (o : Option ℕ) → number_of text ≡ o → is_number_hash o found ≡ true → HasKey name text (number_key_of name found)
number_keyed name text found None is e = absurd cc
number_keyed name text found (Some n) is e = inr (n, is, ap (number_key_of name) (sym (equal_from (number_hash n) found e)))

pub keyed_value : (name text : List ℕ) (value : HashedValue) → is_hash_of text value ≡ true → HasKey name text (key_of name value)
keyed_value name text (hash.Text found) e = inl (ap (text_key_of name) (sym (same_name (text_hash text) found e)))
keyed_value name text (hash.Number found) e = number_keyed name text found (number_of text) refl e
