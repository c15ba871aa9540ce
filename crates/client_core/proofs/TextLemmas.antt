-- Texts, and the paths of names, are texts of their types.
use Rattle.std.proofs.Common.{◌≡◌, ℕ, ◌≤◌, ◌==◌, ◌&&◌, Bool, true, false, cond, List, [], ◌∷◌, nat_lt, nat_eq, length, refl, arith}
use Rattle.std.specs.List.{All, AllByRecursion, list_all, list_any}
use Rattle.std.proofs.lemmas.Bool.{eqb-true}
use Rattle.std.proofs.lemmas.Bool.Decides.{nat_tests}
use Rattle.std.proofs.lemmas.Map.Views.{Contains-from_any}
use Rattle.std.proofs.lemmas.Str.{is_utf8-from_IsUtf8}
use Rattle.std.proofs.lemmas.List.Sums.{AllPass-from_list_all}
use Rattle.std.proofs.lemmas.List.Elements.{All-from_recursion}
use Rattle.kr_base.specs.Text.{IsText}
use Rattle.kr_names.specs.declared.object_name.ObjectName.{ObjectName}
use Rattle.kr_names.specs.Path.{path_text, IsName}
use Rattle.kr_names.proofs.TextLemmas.{IsPlain, IsText-plain}
use Rattle.dbus_types.specs.declared.complete_type.BasicType.TheVariants as basics
use Rattle.dbus_types.specs.Paths.{is_element_code, are_elements, is_object_path}
use Rattle.dbus_marshal.specs.Limits.{array_limit}
use Rattle.dbus_marshal.specs.Wire.{is_text, IsTextOf, IsString}
use Rattle.secret_calls.proofs.PathLemmas.{named_path}

false_unless : (b : Bool) → (b ≡ true → ⊥) → b ≡ false
false_unless true never = absurd (never refl)
false_unless false never = refl

-- a text is a text
pub text_is : (bytes : List ℕ) → IsText bytes → is_text bytes ≡ true
text_is bytes is =
    let none : list_any (nat_eq 0) bytes ≡ false = false_unless (list_any (nat_eq 0) bytes) (λ e. is.no_zero (Contains-from_any (λ x y same. eqb-true x y same) 0 bytes e)) in
    rw (is_utf8-from_IsUtf8 bytes is.utf8, none) refl

-- bytes of ASCII other than zero are one
pub plain_text : (bytes : List ℕ) → All IsPlain bytes → is_text bytes ≡ true
plain_text bytes plain = text_is bytes (IsText-plain bytes plain)

pub literal_text : (bytes : List ℕ) → list_all (λ byte. nat_lt 0 byte && nat_lt byte 128) bytes ≡ true → is_text bytes ≡ true
literal_text bytes test =
    plain_text bytes (λ k d lt. (let passed = AllPass-from_list_all (λ byte. nat_lt 0 byte && nat_lt byte 128) bytes test k d lt in grind (arith, nat_tests)))

-- ---- the bytes of a path are plain

both : (a b : Bool) → (a && b) ≡ true → (a ≡ true) × (b ≡ true)
both true b e = (refl, e)
both false b e = absurd cc

plain_slash : (code : ℕ) → (code == 47) ≡ true → IsPlain code
plain_slash code e = let is : code ≡ 47 = eqb-true code 47 e in (omega (arith, is), omega (arith, is))

plain_code : (code : ℕ) → is_element_code code ≡ true → IsPlain code
plain_code code e = (grind (arith, nat_tests), grind (arith, nat_tests))

-- the first code of a path, with others after it
one_plain : (test begun : Bool) (code : ℕ) (codes : List ℕ) → (code == 47) ≡ test → ((b : Bool) → are_elements b codes ≡ true → AllByRecursion IsPlain codes)
    → cond test (begun && are_elements false codes) (is_element_code code && are_elements true codes) ≡ true → AllByRecursion IsPlain (code ∷ codes)
one_plain true begun code codes is more e = (plain_slash code is, more false (both begun (are_elements false codes) e).1)
one_plain false begun code codes is more e =
    let two = both (is_element_code code) (are_elements true codes) e in
    (plain_code code two.0, more true two.1)

elements_plain : (begun : Bool) (codes : List ℕ) → are_elements begun codes ≡ true → AllByRecursion IsPlain codes
elements_plain begun [] e = tt
elements_plain begun (code ∷ codes) e = one_plain (code == 47) begun code codes refl (λ b f. elements_plain b codes f) e

-- the codes after the first slash
rest_plain : (codes : List ℕ) → is_object_path (47 ∷ codes) ≡ true → AllByRecursion IsPlain codes
rest_plain [] e = tt
rest_plain (code ∷ codes) e = elements_plain false (code ∷ codes) e

path_codes : (test : Bool) (code : ℕ) (codes : List ℕ) → (code == 47) ≡ test → is_object_path (code ∷ codes) ≡ true → AllByRecursion IsPlain (code ∷ codes)
path_codes true code codes is e =
    (plain_slash code is, rest_plain codes (let same : code ≡ 47 = eqb-true code 47 is in rw same at e))
path_codes false code codes is e = absurd (let no : is_object_path (code ∷ codes) ≡ false = rw is refl in cc)

-- so a path is a text
path_text_is : (path : List ℕ) → is_object_path path ≡ true → is_text path ≡ true
path_text_is [] e = absurd cc
path_text_is (code ∷ codes) e = plain_text (code ∷ codes) (All-from_recursion IsPlain (code ∷ codes) (path_codes (code == 47) code codes refl e))

pub path_is : (path : List ℕ) → is_object_path path ≡ true → length path ≤ array_limit → IsTextOf basics.ObjectPath path
path_is path is few = ((path_text_is path is, omega (arith, few)), is)

-- and so is the path of a name
pub name_is : (name : ObjectName) → IsName name → is_object_path (path_text name) ≡ true
name_is name is = named_path name (path_text name) (record { named = is; spelled = refl })

pub string_is : (text : List ℕ) → IsText text → length text ≤ array_limit → IsString text
string_is text is few = (text_is text is, omega (arith, few))
