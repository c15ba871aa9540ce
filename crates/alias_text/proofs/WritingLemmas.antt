-- The length of the text of aliases, and of its parts.
use Rattle.std.proofs.Common.{◌≡◌, ℕ, ◌<◌, ◌≤◌, ◌+◌, ◌*◌, List, [], ◌∷◌, ◌++◌, take, get_or, length, zero, suc, refl, sym, ◌∙◌, ap, arith, filter, ⊎_elim}
use Rattle.std.specs.Char.{is_ascii_alphanumeric}
use Rattle.std.specs.List.{flat_map}
use Rattle.std.proofs.lemmas.Bool.{cases_Bool}
use Rattle.std.proofs.lemmas.List.{length-append}
use Rattle.kr_names.specs.Escape.{escape, escaped}
use Rattle.alias_text.specs.Writing.{is_odd, line_of, text_of}

-- the parts of a text up to and including one of them are no longer than the text
pub part_fits : {T : Type 0} (f : T → List ℕ) (xs : List T) (i : ℕ) (d : T) → i < length xs
    → length (flat_map f (take i xs)) + length (f (get_or xs i d)) ≤ length (flat_map f xs)
part_fits f [] i d lt = absurd (omega arith)
part_fits f (x ∷ xs) zero d lt = omega (arith, length-append (f x) (flat_map f xs))
part_fits f (x ∷ xs) (suc i) d lt =
    omega (arith, length-append (f x) (flat_map f xs), length-append (f x) (flat_map f (take i xs)), part_fits f xs i d (omega arith))

-- a letter or a digit is itself, and every other byte becomes three
length-escape : (byte : ℕ) (bytes : List ℕ) → length (escape byte) + 2 * length (filter is_odd bytes) ≡ 1 + 2 * length (filter is_odd (byte ∷ bytes))
length-escape byte bytes = ⊎_elim (λ plain. rw plain (omega arith)) (λ odd. rw odd (omega arith)) (cases_Bool (is_ascii_alphanumeric byte))

pub length_escaped : (stem : List ℕ) → length stem + 2 * length (filter is_odd stem) ≡ length (escaped stem)
length_escaped [] = refl
length_escaped (byte ∷ stem) =
    omega (arith, length-append (escape byte) (escaped stem), length_escaped stem, length-escape byte stem)

-- a line with its ending, and the lines before it, are no longer than the whole text
pub line_fits : (aliases : List (List ℕ × List ℕ)) (i : ℕ) (alias : List ℕ × List ℕ) → i < length aliases → alias ≡ get_or aliases i alias
    → length (text_of (take i aliases)) + (length (line_of alias) + 1) ≤ length (text_of aliases)
unfolding text_of
line_fits aliases i alias lt is =
    let fits = part_fits (λ a. line_of a ++ 10 ∷ []) aliases i alias lt in
    let same : length (line_of (get_or aliases i alias) ++ 10 ∷ []) ≡ length (line_of alias) + 1 = ap (λ a. length (line_of a ++ 10 ∷ [])) (sym is) ∙ length-append (line_of alias) (10 ∷ []) in
    omega (arith, fits, same)
