-- Which bytes are a text.
use Rattle.std.proofs.Common.{◌≡◌, ℕ, Bool, true, false, cond, List, Option, Some, None, refl, sym, ap, subst, ◌∙◌, nat_eq}
use Rattle.std.proofs.lemmas.Bool.{eqb-true}
use Rattle.std.proofs.lemmas.Map.Views.{list_any-from_Contains, Contains-from_any}
use Rattle.std.specs.declared.alloc.AllocError.{AllocError}
use Rattle.std.specs.Prelude.{Contains, IsUtf8, Result, Ok, Err, IfOk, IfSome, ◌↔◌}
use Rattle.std.specs.Cmp.{nat_eq_equiv}
use Rattle.std.specs.List.{list_any}
use Rattle.std.specs.Str.{is_utf8}
use Rattle.std.proofs.lemmas.Str.{IsUtf8-from_is_utf8, is_utf8-from_IsUtf8}
use Rattle.dbus_marshal.specs.Wire.{is_text}

pub utf8_yes : (bytes text : List ℕ) → text ≡ bytes → IsUtf8 bytes → Some text ≡ cond (is_utf8 bytes) (Some bytes) None
utf8_yes bytes text same is = rw (is_utf8-from_IsUtf8 bytes is) (ap (λ (t : List ℕ). Some t) same)

none_unless : (bytes : List ℕ) (test : Bool) → (test ≡ true → ⊥) → None ≡ cond test (Some bytes) None
none_unless bytes true never = absurd (never refl)
none_unless bytes false never = refl

pub utf8_no : (bytes : List ℕ) → (IsUtf8 bytes → ⊥) → None ≡ cond (is_utf8 bytes) (Some bytes) None
utf8_no bytes never = none_unless bytes (is_utf8 bytes) (λ e. never (IsUtf8-from_is_utf8 bytes e))

utf8_when : (bytes string : List ℕ) (test : Bool) → Some string ≡ cond test (Some bytes) None → (test ≡ true) × (string ≡ bytes)
utf8_when bytes string true e = (refl, cc)
utf8_when bytes string false e = absurd cc

false_unless : (b : Bool) → (b ≡ true → ⊥) → b ≡ false
false_unless true never = absurd (never refl)
false_unless false never = refl

-- What copying a string returns: the copy, if the string contains no zero byte.
pub text_when : (bytes string : List ℕ) (result : Result (Option (List ℕ)) AllocError) → Some string ≡ cond (is_utf8 bytes) (Some bytes) None
    → IfOk result (λ answer. IfSome answer (λ made. made ≡ string)) → ((result ≡ Ok None) ↔ Contains string 0) → IfOk result (λ made. made ≡ cond (is_text bytes) (Some bytes) None)
text_when bytes string (Ok None) is made zero =
    let u = utf8_when bytes string (is_utf8 bytes) is in
    let any : list_any (nat_eq 0) bytes ≡ true = list_any-from_Contains nat_eq_equiv 0 bytes (subst (λ (s : List ℕ). Contains s 0) u.1 (zero.0 refl)) in
    rw (u.0, any) refl
text_when bytes string (Ok (Some text)) is made zero =
    let u = utf8_when bytes string (is_utf8 bytes) is in
    let none : list_any (nat_eq 0) bytes ≡ false =
    false_unless (list_any (nat_eq 0) bytes) (λ e. let copied = zero.1 (subst (λ (s : List ℕ). Contains s 0) (sym u.1) (Contains-from_any (λ x y same. eqb-true x y same) 0 bytes e)) in absurd cc) in
    rw (u.0, none) (ap (λ (t : List ℕ). Some t) (made ∙ u.1))
text_when bytes string (Err e) is made zero = tt
