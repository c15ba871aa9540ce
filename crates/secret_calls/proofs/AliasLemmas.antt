-- Whether a text is the name of an alias is decided by its test.
use Rattle.std.proofs.Common.{◌≡◌, ◌↔◌, ℕ, ◌≤◌, nat_le, Bool, true, false, IsTrue, List, length, Some, None, refl, sym, ap, ◌∙◌, arith}
use Rattle.std.specs.List.{list_all}
use Rattle.std.specs.Bool.{Decides}
use Rattle.std.proofs.lemmas.Bool.Decides.{nat_tests, Decides-and, Decides-like, Decides-ltb, Decides-by_and}
use Rattle.dbus_framing.specs.Headers.{where_is}
use Rattle.kr_names.specs.Escape.{is_path_byte}
use Rattle.kr_names.specs.Naming.{is_alias}
use Rattle.kr_names.specs.Path.{alias_limit, IsAliasName}

le_Decides : (a b : ℕ) → Decides (nat_le a b) (a ≤ b)
le_Decides a b = (λ e. grind (arith, nat_tests), λ le. grind (arith, nat_tests))

pub alias_Decides : (bytes : List ℕ) → Decides (is_alias bytes) (IsAliasName bytes)
alias_Decides bytes =
    Decides-like (is_alias bytes)
    (λ h. record { some = h.0; fits = h.1.0; bytes = h.1.1 })
    (λ is. (is.some, (is.fits, is.bytes)))
    (Decides-and _ _ (Decides-ltb 0 (length bytes))
    (Decides-and _ _ (le_Decides (length bytes) alias_limit)
    (Decides-by_and is_path_byte (λ byte. IsTrue (is_path_byte byte)) (list_all is_path_byte) (λ byte. (λ e. e, λ e. e)) refl (λ x xs. refl) bytes)))

same : (one other : Bool) → (one ≡ true → other ≡ true) → (other ≡ true → one ≡ true) → one ≡ other
same true other forth back = sym (forth refl)
same false true forth back = back refl
same false false forth back = refl

-- two tests of one fact
tested : (test : Bool) (text : List ℕ) → (IsTrue test ↔ IsAliasName text) → test ≡ is_alias text
tested test text is = same test (is_alias text) (λ e. (alias_Decides text).1 (is.0 e)) (λ e. is.1 ((alias_Decides text).0 e))

pub accepted : (test : Bool) (text : List ℕ) → (IsTrue test ↔ IsAliasName text) → test ≡ true → Some text ≡ where_is (is_alias text) text
accepted test text is passed = ap (λ b. where_is b text) (sym passed ∙ tested test text is)

pub refused : (test : Bool) (text : List ℕ) → (IsTrue test ↔ IsAliasName text) → test ≡ false → None ≡ where_is (is_alias text) text
refused test text is failed = ap (λ b. where_is b text) (sym failed ∙ tested test text is)
