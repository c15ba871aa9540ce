-- A stem in a path: the way back finds it.
use Rattle.std.proofs.Common.{◌≡◌, ℕ, ◌+◌, ◌*◌, ◌/◌, ◌%◌, ◌<◌, ◌≢◌, true, false, IsTrue, List, [], ◌∷◌, ◌++◌, length, get_or, drop, refl, sym, ◌∙◌, ap, subst, ⊎_elim, arith, append_assoc}
use Rattle.std.specs.Char.{is_ascii_alphanumeric}
use Rattle.std.specs.Fmt.{digit_glyph}
use Rattle.std.specs.List.{All}
use Rattle.std.proofs.lemmas.Bool.{cases_Bool}
use Rattle.std.proofs.lemmas.Bool.Decides.{nat_tests}
use Rattle.std.proofs.lemmas.List.{drop_more}
use Rattle.std.proofs.lemmas.List.Elements.{All-head, All-tail, All-append, All-from_recursion}
use Rattle.kr_base.specs.Text.{IsText}
use Rattle.kr_base.specs.Stem.{IsStem, IsNoStem}
use Rattle.kr_names.specs.Escape.{is_path_byte, escape, escaped, hex_value, unescaped, IsEscapeOf}
use Rattle.kr_names.proofs.TextLemmas.{bytes_fit, IsPlain, IsText-plain}

-- a letter, a digit or `_`
abbrev pub IsPathByte : ℕ → Type 0
IsPathByte byte = IsTrue (is_path_byte byte)

-- a byte that doesn't begin an escape stands for itself
pub unescaped_other : (c : ℕ) (xs : List ℕ) → c ≢ 95 → unescaped (c ∷ xs) ≡ c ∷ unescaped xs
unescaped_other c [] other = refl
unescaped_other c (x ∷ []) other = refl
unescaped_other c (x ∷ y ∷ xs) other = grind (arith, nat_tests)

-- so does one with too little after it
pub unescaped_short : (c : ℕ) (xs : List ℕ) → length xs < 2 → unescaped (c ∷ xs) ≡ c ∷ unescaped xs
unescaped_short c [] short = refl
unescaped_short c (x ∷ []) short = refl
unescaped_short c (x ∷ y ∷ xs) short = absurd (omega arith)

-- one more byte was read
pub unescaped_more : (text bytes : List ℕ) (place : ℕ) → place < length text → unescaped (get_or text place 0 ∷ drop (place + 1) text) ≡ get_or text place 0 ∷ unescaped (drop (place + 1) text)
    → bytes ++ unescaped (drop place text) ≡ unescaped text → (bytes ++ get_or text place 0 ∷ []) ++ unescaped (drop (place + 1) text) ≡ unescaped text
unescaped_more text bytes place in_range one before =
    let here = drop_more text place 0 in_range in
    append_assoc bytes (get_or text place 0 ∷ []) (unescaped (drop (place + 1) text)) ∙ sym (ap (λ l. bytes ++ l) (ap unescaped here ∙ one)) ∙ before

-- the digit of a number below 16 has its value
hex_value_digit : (n : ℕ) → n < 16 → hex_value (digit_glyph false n) ≡ n
hex_value_digit n small = grind (arith, nat_tests)

-- and is a letter or a digit
digit_spelled : (n : ℕ) → n < 16 → IsTrue (is_path_byte (digit_glyph false n))
digit_spelled n small = grind (arith, nat_tests)

-- the way back from one byte
unescaped_escape : (byte : ℕ) (xs : List ℕ) → byte < 256 → unescaped (escape byte ++ xs) ≡ byte ∷ unescaped xs
unescaped_escape byte xs fits =
    ⊎_elim
    (λ plain.
    let other : byte ≢ 95 = λ same. (let test : is_ascii_alphanumeric 95 ≡ true = ap is_ascii_alphanumeric (sym same) ∙ plain in cc) in
    let is : escape byte ≡ byte ∷ [] = rw plain refl in
    ap (λ l. unescaped (l ++ xs)) is ∙ unescaped_other byte xs other)
    (λ odd.
    let high = hex_value_digit (byte / 16) (omega arith) in
    let low = hex_value_digit (byte % 16) (omega arith) in
    let is : escape byte ≡ 95 ∷ digit_glyph false (byte / 16) ∷ digit_glyph false (byte % 16) ∷ [] = rw odd refl in
    let value : hex_value (digit_glyph false (byte / 16)) * 16 + hex_value (digit_glyph false (byte % 16)) ≡ byte = omega (arith, high, low) in
    ap (λ l. unescaped (l ++ xs)) is ∙ ap (λ n. n ∷ unescaped xs) value)
    (cases_Bool (is_ascii_alphanumeric byte))

-- the way back from a stem
pub unescaped_escaped : (stem : List ℕ) → All (λ byte. byte < 256) stem → unescaped (escaped stem) ≡ stem
unescaped_escaped [] fit = refl
unescaped_escaped (byte ∷ stem) fit =
    unescaped_escape byte (escaped stem) (fit 0 0 (omega arith)) ∙ ap (λ l. byte ∷ l) (unescaped_escaped stem (All-tail (λ b. b < 256) byte stem fit))

-- a stem's bytes fit, so the way back from its spelling finds it
pub read_back : (stem text items : List ℕ) → items ≡ unescaped text → IsEscapeOf stem text → items ≡ stem
read_back stem text items read is = read ∙ ap unescaped is.spelled ∙ unescaped_escaped stem (bytes_fit stem is.is_stem.text.utf8)

-- a stem is spelled in letters, digits and `_`
escape_spelled : (byte : ℕ) → byte < 256 → All IsPathByte (escape byte)
escape_spelled byte fits =
    ⊎_elim
    (λ plain.
    let is : escape byte ≡ byte ∷ [] = rw plain refl in
    let one : IsPathByte byte = rw plain refl in
    subst (λ l. All IsPathByte l) (sym is) (All-from_recursion IsPathByte (byte ∷ []) (one, tt)))
    (λ odd.
    let is : escape byte ≡ 95 ∷ digit_glyph false (byte / 16) ∷ digit_glyph false (byte % 16) ∷ [] = rw odd refl in
    let high = digit_spelled (byte / 16) (omega arith) in
    let low = digit_spelled (byte % 16) (omega arith) in
    subst (λ l. All IsPathByte l) (sym is) (All-from_recursion IsPathByte (95 ∷ digit_glyph false (byte / 16) ∷ digit_glyph false (byte % 16) ∷ []) (refl, (high, (low, tt)))))
    (cases_Bool (is_ascii_alphanumeric byte))

pub escaped_spelled : (stem : List ℕ) → All (λ byte. byte < 256) stem → All IsPathByte (escaped stem)
escaped_spelled [] fit = λ k d lt. absurd (omega arith)
escaped_spelled (byte ∷ stem) fit =
    All-append IsPathByte (escape byte) (escaped stem) (escape_spelled byte (All-head (λ b. b < 256) byte stem fit)) (escaped_spelled stem (All-tail (λ b. b < 256) byte stem fit))

-- such bytes are ASCII, and neither zero nor a slash
path_byte_plain : (byte : ℕ) → IsPathByte byte → IsPlain byte
path_byte_plain byte is = (grind (arith, nat_tests), grind (arith, nat_tests))

pub path_byte_no_slash : (byte : ℕ) → IsPathByte byte → byte ≢ 47
path_byte_no_slash byte is = λ slash. (let test : is_path_byte 47 ≡ true = ap is_path_byte (sym slash) ∙ is in cc)

pub path_bytes_plain : (bytes : List ℕ) → All IsPathByte bytes → All IsPlain bytes
path_bytes_plain bytes all = λ k d lt. path_byte_plain (get_or bytes k d) (all k d lt)

-- and so it is a text
pub IsText-escaped : (stem : List ℕ) → IsStem stem → IsText (escaped stem)
IsText-escaped stem is = IsText-plain (escaped stem) (path_bytes_plain (escaped stem) (escaped_spelled stem (bytes_fit stem is.text.utf8)))

-- no stem is refused
pub not_refused : (stem : List ℕ) → IsStem stem → IsNoStem stem → ⊥
not_refused stem is refused =
    ⊎_elim
    (λ empty. omega (arith, is.some, ap length empty))
    (λ other. ⊎_elim (λ long. omega (arith, is.fits)) (λ bytes. ⊎_elim is.no_slash is.text.no_zero bytes) other)
    refused
