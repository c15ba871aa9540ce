-- A copy of bytes as a text, or None if they aren't a text.
use Rattle.std.proofs.Common.{◌≡◌, ◌↔◌, ℕ, Bool, true, false, cond, List, Option, Some, None, Result, Ok, Err, refl, sym, ap, subst, ◌∙◌}
use Rattle.std.specs.Option.{IfSome}
use Rattle.std.specs.Result.{IfOk}
use Rattle.std.specs.Str.{IsUtf8}
use Rattle.kr_base.specs.Text.{HasZero, IsText}
use Rattle.keyring_text.specs.FieldReading.{is_text}
use Rattle.keyring_text.proofs.FieldLaws.{is_text-true, is_text-of}

not_true : (b : Bool) → ((b ≡ true) → ⊥) → b ≡ false
not_true true h = absurd (h refl)
not_true false h = refl

pub no_text : (bytes : List ℕ) → (IsText bytes → ⊥) → is_text bytes ≡ false
no_text bytes h = not_true (is_text bytes) (λ e. h (is_text-true bytes e))

pub copied : {E : Type 0} (r : Result (Option (List ℕ)) E) (text bytes : List ℕ) → text ≡ bytes → IsUtf8 bytes → IfOk r (λ o. IfSome o (λ made. made ≡ text)) → ((r ≡ Ok None) ↔ HasZero text) → IfOk r (λ t. t ≡ cond (is_text bytes) (Some bytes) None)
copied (Ok None) text bytes e utf8 made zero =
    let z : HasZero bytes = subst HasZero e (zero.0 refl) in
    rw (no_text bytes (λ t. t.no_zero z)) refl
copied (Ok (Some t)) text bytes e utf8 made zero =
    let no : HasZero bytes → ⊥ = λ z. let q = zero.1 (subst HasZero (sym e) z) in cc in
    rw (is_text-of bytes (record { utf8 = utf8; no_zero = no })) (ap (λ w. Some w) (made ∙ e))
copied (Err e) text bytes p utf8 made zero = tt
