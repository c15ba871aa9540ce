-- Numbers: decimal digits without a sign or a leading zero.
use Rattle.std.proofs.Common.{◌≡◌, ℕ, ◌^◌, ◌<◌, List, Result, Ok, Err, sym, ◌∙◌, ap, arith}
use Rattle.std.specs.Prelude.{decimal}
use Rattle.std.specs.Str.Parse.{ParsesUnsigned}
use Rattle.std.proofs.lemmas.Fmt.{parse-decimal, decimal_injective}
use Rattle.command_words.specs.Numbers.{IsNumber, IsNoNumber}

-- a number that the text spells is read
number_read : {E : Type 0} (text : List ℕ) (r : Result ℕ E) (n : ℕ) → ParsesUnsigned 64 10 text r → IsNumber 64 n text → r ≡ Ok n
number_read text r n h is = parse-decimal 64 n text r is.fits is.fits is.digits h

pub not_read : {E : Type 0} (text : List ℕ) (e : E) → ParsesUnsigned 64 10 text (Err e) → IsNoNumber 64 text
not_read {E} text e h = λ n is. let read : Err e ≡ Ok n = number_read text (Err e) n h is in cc

-- and printed as the text
pub not_printed : (E : Type 0) (text printed : List ℕ) (m : ℕ) → ParsesUnsigned {E = E} 64 10 text (Ok m) → printed ≡ decimal m → (printed ≡ text → ⊥) → IsNoNumber 64 text
not_printed E text printed m h e other = λ n is.
    let found : Result ℕ E = Ok m in
    let wanted : Result ℕ E = Ok n in
    let read : found ≡ wanted = number_read text found n h is in
    let same : m ≡ n = cc in
    other (e ∙ ap decimal same ∙ sym is.digits)

-- a number of 32 bits is one of 64
wider : (n : ℕ) (text : List ℕ) → IsNumber 32 n text → IsNumber 64 n text
wider n text is = record { fits = omega (arith, is.fits); digits = is.digits }

pub not_long : (text : List ℕ) → IsNoNumber 64 text → IsNoNumber 32 text
not_long text none = λ n is. none n (wider n text is)

-- a text spells one number
pub one_number : (m n : ℕ) (text : List ℕ) → IsNumber 64 m text → IsNumber 64 n text → m ≡ n
one_number m n text p q = decimal_injective m n p.fits q.fits (sym p.digits ∙ q.digits)

pub one_short : (m n : ℕ) (text : List ℕ) → IsNumber 32 m text → IsNumber 32 n text → m ≡ n
one_short m n text p q = one_number m n text (wider m text p) (wider n text q)

-- a greater number isn't of 32 bits
pub too_great : (m : ℕ) (text : List ℕ) → IsNumber 64 m text → (m < 2 ^ 32 → ⊥) → IsNoNumber 32 text
too_great m text is great = λ n also.
    let same : n ≡ m = one_number n m text (wider n text also) is in
    great (omega (arith, also.fits, same))
