-- The path of each name is an object path (D-Bus Specification, "Type System"), so a return can contain it, and a short one, so it
-- can emit a signal.
use Rattle.std.proofs.Common.{◌≡◌, ℕ, ◌*◌, ◌/◌, ◌%◌, ◌^◌, ◌<◌, ◌≤◌, ◌==◌, Bool, true, false, IsTrue, List, [], ◌∷◌, ◌++◌, length, get_or, codes, decimal, refl, sym, subst, ap, ◌∙◌, ⊎_elim, arith, length-append, append-nil}
use Rattle.std.specs.Char.{is_ascii_alphanumeric}
use Rattle.std.specs.Fmt.{digit_glyph}
use Rattle.std.specs.List.{All}
use Rattle.std.proofs.lemmas.Bool.{cases_Bool}
use Rattle.std.proofs.lemmas.Bool.Decides.{nat_tests}
use Rattle.std.proofs.lemmas.Fmt.{decimal_is_IsNumeral, decimal_nonempty, length-decimal-le}
use Rattle.std.proofs.lemmas.Str.Parse.{digit_at}
use Rattle.std.proofs.lemmas.List.Elements.{All-append, All-head, All-tail, All-from_get_or, All-from_recursion}
use Rattle.kr_base.specs.Stem.{IsStem}
use Rattle.kr_names.specs.declared.object_name.ObjectName.{ObjectName}
use Rattle.kr_names.specs.declared.object_name.ObjectName.TheVariants as name
use Rattle.kr_names.specs.Escape.{escape, escaped}
use Rattle.kr_names.specs.Path.{service, agent, collections, aliases, sessions, prompts, path_text, IsPathOf, IsName}
use Rattle.kr_names.proofs.TextLemmas.{bytes_fit}
use Rattle.kr_names.proofs.EscapeLemmas.{IsPathByte, escaped_spelled}
use Rattle.dbus_types.specs.Paths.{is_element_code, are_elements, is_object_path}
use Rattle.secret_calls.specs.Outs.{most_emitter, IsEmitter}

-- no code of an element is a slash
not_slash : (code : ℕ) → IsPathByte code → (code == 47) ≡ false
not_slash code is = grind (arith, nat_tests)

element_code : (code : ℕ) → IsPathByte code → is_element_code code ≡ true
element_code code is = grind (arith, nat_tests)

one_code : (begun : Bool) (code : ℕ) (rest : List ℕ) → IsPathByte code → are_elements begun (code ∷ rest) ≡ are_elements true rest
one_code begun code rest is = rw (not_slash code is, element_code code is) refl

-- an element continues to the end of its codes
many_codes : (begun : Bool) (code : ℕ) (codes rest : List ℕ) → All IsPathByte (code ∷ codes) → are_elements begun (code ∷ (codes ++ rest)) ≡ are_elements true rest
many_codes begun code [] rest all = one_code begun code rest (All-head IsPathByte code [] all)
many_codes begun code (next ∷ codes) rest all =
    one_code begun code (next ∷ (codes ++ rest)) (All-head IsPathByte code (next ∷ codes) all)
    ∙ many_codes true next codes rest (All-tail IsPathByte code (next ∷ codes) all)

element : (codes rest : List ℕ) → All IsPathByte codes → 0 < length codes → are_elements false (codes ++ rest) ≡ are_elements true rest
element [] rest all some = absurd (omega (arith, some))
element (code ∷ codes) rest all some = many_codes false code codes rest all

last_element : (codes : List ℕ) → All IsPathByte codes → 0 < length codes → are_elements false codes ≡ true
last_element codes all some = ap (are_elements false) (sym (append-nil codes)) ∙ element codes [] all some

-- ---- the elements of paths

escape_some : (byte : ℕ) → 0 < length (escape byte)
escape_some byte =
    ⊎_elim
    (λ plain. (let is : escape byte ≡ byte ∷ [] = rw plain refl in omega (arith, ap length is)))
    (λ odd. (let is : escape byte ≡ 95 ∷ digit_glyph false (byte / 16) ∷ digit_glyph false (byte % 16) ∷ [] = rw odd refl in omega (arith, ap length is)))
    (cases_Bool (is_ascii_alphanumeric byte))

escaped_some : (stem : List ℕ) → 0 < length stem → 0 < length (escaped stem)
escaped_some [] some = absurd (omega (arith, some))
escaped_some (byte ∷ stem) some = omega (arith, escape_some byte, length-append (escape byte) (escaped stem))

stem_codes : (stem : List ℕ) → IsStem stem → All IsPathByte (escaped stem)
stem_codes stem is = escaped_spelled stem (bytes_fit stem is.text.utf8)

digit_code : (code : ℕ) → 48 ≤ code → code ≤ 57 → IsPathByte code
digit_code code low high = grind (arith, nat_tests)

number_codes : (n : ℕ) → n < 2 ^ 64 → All IsPathByte (decimal n)
number_codes n fits = All-from_get_or IsPathByte (decimal n) 0 (λ i lt. (let digit = digit_at (decimal n) i (decimal_is_IsNumeral n fits).0.1 lt in digit_code (get_or (decimal n) i 0) (omega (arith, digit.0)) (omega (arith, digit.1))))

-- a letter, followed by the codes of an element
lettered : (letter : ℕ) (codes : List ℕ) → IsPathByte letter → All IsPathByte codes → are_elements false (letter ∷ codes) ≡ true
lettered letter codes is all = last_element (letter ∷ codes) (All-append IsPathByte (letter ∷ []) codes (All-from_recursion IsPathByte (letter ∷ []) (is, tt)) all) (omega arith)

-- ---- names

is_path : (name : ObjectName) → IsName name → is_object_path (path_text name) ≡ true
unfolding service agent collections aliases sessions prompts
is_path name.Nothing is = refl
is_path name.Service is = refl
is_path name.Agent is = refl
is_path (name.Collection stem) is = last_element (escaped stem) (stem_codes stem is) (escaped_some stem is.some)
is_path (name.Item stem item) is =
    element (escaped stem) (47 ∷ decimal item.0) (stem_codes stem is.0) (escaped_some stem is.0.some)
    ∙ last_element (decimal item.0) (number_codes item.0 (omega (arith, is.1))) (decimal_nonempty item.0 (omega (arith, is.1)))
is_path (name.Alias alias) is = last_element alias is.bytes is.some
is_path (name.Session session) is = lettered 115 (decimal session.0) refl (number_codes session.0 is.1)
is_path (name.Prompt prompt) is = lettered 112 (decimal prompt.0) refl (number_codes prompt.0 is.1)

-- the path of a name is an object path
pub named_path : (name : ObjectName) (path : List ℕ) → IsPathOf name path → IsTrue (is_object_path path)
named_path name path is = ap is_object_path is.spelled ∙ is_path name is.named

-- ---- lengths

escape_few : (byte : ℕ) → length (escape byte) ≤ 3
escape_few byte =
    ⊎_elim
    (λ plain. (let is : escape byte ≡ byte ∷ [] = rw plain refl in omega (arith, ap length is)))
    (λ odd. (let is : escape byte ≡ 95 ∷ digit_glyph false (byte / 16) ∷ digit_glyph false (byte % 16) ∷ [] = rw odd refl in omega (arith, ap length is)))
    (cases_Bool (is_ascii_alphanumeric byte))

escaped_few : (stem : List ℕ) → length (escaped stem) ≤ 3 * length stem
escaped_few [] = omega arith
escaped_few (byte ∷ stem) = omega (arith, escape_few byte, escaped_few stem, length-append (escape byte) (escaped stem))

digits_few : (n : ℕ) → n < 2 ^ 64 → length (decimal n) ≤ 20
digits_few n fits = length-decimal-le 20 n (omega arith) (omega (arith, fits)) fits

path_few : (name : ObjectName) → IsName name → length (path_text name) ≤ most_emitter
unfolding service agent collections aliases sessions prompts
path_few name.Nothing is = omega arith
path_few name.Service is = omega arith
path_few name.Agent is = omega arith
path_few (name.Collection stem) is = omega (arith, is.fits, escaped_few stem, length-append collections (escaped stem))
path_few (name.Item stem item) is =
    omega (
      arith,
      is.0.fits,
      escaped_few stem,
      digits_few item.0 (omega (arith, is.1)),
      length-append collections (escaped stem ++ 47 ∷ decimal item.0),
      length-append (escaped stem) (47 ∷ decimal item.0),
    )
path_few (name.Alias alias) is = omega (arith, is.fits, length-append aliases alias)
path_few (name.Session session) is = omega (arith, digits_few session.0 is.1, length-append sessions (decimal session.0))
path_few (name.Prompt prompt) is = omega (arith, digits_few prompt.0 is.1, length-append prompts (decimal prompt.0))

-- the path of a name is short enough for an object that emits signals
pub named_emitter : (name : ObjectName) (path : List ℕ) → IsPathOf name path → IsEmitter path
named_emitter name path is = record {
  formed = named_path name path is;
  short = subst (λ (p : List ℕ). length p ≤ most_emitter) (sym is.spelled) (path_few name is.named);
}
