-- The name of an alias: the test decides the fact.
use Rattle.std.proofs.Common.{◌≡◌, ◌↔◌, ℕ, ◌≤◌, nat_le, Bool, true, false, IsTrue, List, length, refl, arith}
use Rattle.std.specs.Bool.{Decides}
use Rattle.std.specs.List.{list_all}
use Rattle.std.proofs.lemmas.Bool.Decides.{nat_tests, Decides-like, Decides-and, Decides-ltb, Decides-by_and}
use Rattle.kr_names.specs.Escape.{is_path_byte}
use Rattle.kr_names.specs.Naming.{is_alias}
use Rattle.kr_names.specs.Path.{IsAliasName}

le_Decides : (a b : ℕ) → Decides (nat_le a b) (a ≤ b)
le_Decides a b = (λ e. grind (arith, nat_tests), λ le. grind (arith, nat_tests))

alias_Decides : (bytes : List ℕ) → Decides (is_alias bytes) (IsAliasName bytes)
alias_Decides bytes =
    Decides-like (is_alias bytes)
    (λ h. record { some = h.0; fits = h.1.0; bytes = h.1.1 })
    (λ is. (is.some, (is.fits, is.bytes)))
    (Decides-and _ _ (Decides-ltb 0 (length bytes))
    (Decides-and _ _ (le_Decides (length bytes) 64)
    (Decides-by_and is_path_byte (λ byte. IsTrue (is_path_byte byte)) (list_all is_path_byte) (λ byte. (λ e. e, λ e. e)) refl (λ x xs. refl) bytes)))

-- what passes the test is the name of an alias
pub is-alias : (bytes : List ℕ) → is_alias bytes ≡ true → IsAliasName bytes
is-alias bytes is = (alias_Decides bytes).0 is

-- and the name of an alias passes it
pub alias-is : (bytes : List ℕ) → IsAliasName bytes → is_alias bytes ≡ true
alias-is bytes is = (alias_Decides bytes).1 is

-- two tests that decide the same
same-test : (a b : Bool) (P : Type 0) → Decides a P → (IsTrue b ↔ P) → a ≡ b
same-test true true P one other = refl
same-test false false P one other = refl
same-test true false P one other = absurd (let no : false ≡ true = other.1 (one.0 refl) in cc)
same-test false true P one other = absurd (let no : false ≡ true = one.1 (other.0 refl) in cc)

pub alias-test : (bytes : List ℕ) (b : Bool) → (IsTrue b ↔ IsAliasName bytes) → is_alias bytes ≡ b
alias-test bytes b both = same-test (is_alias bytes) b (IsAliasName bytes) (alias_Decides bytes) both
