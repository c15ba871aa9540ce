-- Numbers in paths: decimal digits without a sign or a leading zero.
use Rattle.std.proofs.Common.{◌≡◌, ℕ, List, Result, Ok, Err, sym, ◌∙◌, ap}
use Rattle.std.specs.Prelude.{decimal}
use Rattle.std.specs.Str.Parse.{ParsesUnsigned}
use Rattle.std.proofs.lemmas.Fmt.{parse-decimal, decimal_injective}
use Rattle.kr_names.specs.Path.{IsNumber}

-- a number that the text spells is read
number_read : {E : Type 0} (text : List ℕ) (r : Result ℕ E) (n : ℕ) → ParsesUnsigned 64 10 text r → IsNumber n text → r ≡ Ok n
number_read text r n h is = parse-decimal 64 n text r is.fits is.fits is.digits h

pub not_read : {E : Type 0} (text : List ℕ) (e : E) → ParsesUnsigned 64 10 text (Err e) → (n : ℕ) → IsNumber n text → ⊥
not_read {E} text e h n is = let read : Err e ≡ Ok n = number_read text (Err e) n h is in cc

-- and printed as the text
pub not_printed : (E : Type 0) (text printed : List ℕ) (m : ℕ) → ParsesUnsigned {E = E} 64 10 text (Ok m) → printed ≡ decimal m → (printed ≡ text → ⊥) → (n : ℕ) → IsNumber n text → ⊥
not_printed E text printed m h e other n is =
    let found : Result ℕ E = Ok m in
    let wanted : Result ℕ E = Ok n in
    let read : found ≡ wanted = number_read text found n h is in
    let same : m ≡ n = cc in
    other (e ∙ ap decimal same ∙ sym is.digits)

-- a text spells one number
pub one_number : (m n : ℕ) (text : List ℕ) → IsNumber m text → IsNumber n text → m ≡ n
one_number m n text p q = decimal_injective m n p.fits q.fits (sym p.digits ∙ q.digits)
