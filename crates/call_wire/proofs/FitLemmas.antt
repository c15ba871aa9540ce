-- The values of a body can be spelled: no text and no array in a short body is too long, and paths, secrets and texts have their
-- types.
use Rattle.std.proofs.Common.{◌≡◌, ℕ, suc, ◌≤◌, ◌==◌, ◌&&◌, nat_le, nat_eq, Bool, true, false, cond, IsTrue, List, [], ◌∷◌, ◌++◌, length, refl, arith, length-append}
use Rattle.std.specs.Int.{w32}
use Rattle.std.specs.Int as int
use Rattle.std.specs.List.{AllByRecursion, list_any}
use Rattle.std.proofs.lemmas.Bool.{eqb-true, le-leb}
use Rattle.std.proofs.lemmas.Bool.Decides.{nat_tests}
use Rattle.std.proofs.lemmas.List.Elements.{All-from_recursion}
use Rattle.std.proofs.lemmas.Map.Views.{Contains-from_any}
use Rattle.std.proofs.lemmas.Str.{is_utf8-from_IsUtf8}
use Rattle.kr_base.specs.Text.{IsText}
use Rattle.kr_names.proofs.TextLemmas.{IsPlain}
use Rattle.dbus_types.specs.declared.complete_type.BasicType.{BasicType}
use Rattle.dbus_types.specs.declared.complete_type.BasicType.TheVariants as basics
use Rattle.dbus_types.specs.declared.endian.Endian.TheVariants.{Little}
use Rattle.dbus_types.specs.Paths.{is_element_code, are_elements, is_object_path}
use Rattle.dbus_types.specs.Types.{Ty, text_of}
use Rattle.dbus_types.specs.ValueViews.{bit_of}
use Rattle.dbus_types.specs.Values.{Val, Vals, ty_of, tys_of}
use Rattle.dbus_marshal.specs.Limits.{array_limit}
use Rattle.dbus_marshal.specs.Wire.{width_of, alignment_of, padding, behind, start_of, zeros, number_bytes, is_text}
use Rattle.dbus_marshal.specs.Spelling.{text_spelled, first_at, spelled, all_spelled, is_short, are_short}
use Rattle.dbus_marshal.specs.Fitting.{Fits, AllFit, EachFits}
use Rattle.secret_calls.specs.declared.property.Attribute.{Attribute}
use Rattle.secret_calls.specs.declared.property.Property.{Property}
use Rattle.secret_calls.specs.declared.property.Property.TheVariants as property
use Rattle.secret_calls.specs.declared.property.PropertyValue.{PropertyValue}
use Rattle.secret_calls.specs.declared.property.PropertyValue.TheVariants as shown
use Rattle.secret_calls.specs.declared.property.ShownProperty.{ShownProperty}
use Rattle.secret_calls.specs.declared.secret.ReturnedSecret.{ReturnedSecret}
use Rattle.secret_calls.specs.declared.secret.ItemSecret.{ItemSecret}
use Rattle.secret_calls.specs.Outs.{session_path, path_values, secret_type, secret_values, property_text, property_value, attribute_values, shown_values, name_values, ArePaths, IsSecret, AreSecrets, AreAttributes, IsShown, AreShown}
use Rattle.call_wire.proofs.PlainLemmas.{false_unless, plain_literal, plain_text, path_plain, path_is}

-- ---- lengths

text_long : (b : BasicType) (text : List ℕ) (place : ℕ) → length text ≤ length (text_spelled Little b text place)
text_long b text place =
    let Z = zeros (padding (int.byte_len (width_of b)) place) in
    let N = number_bytes Little (width_of b) (length text) in
    omega (arith, length-append Z (N ++ (text ++ 0 ∷ [])), length-append N (text ++ 0 ∷ []), length-append text (0 ∷ []))

array_long : (a n z : ℕ) (elements : List ℕ) → length elements ≤ length (zeros a ++ (number_bytes Little w32 n ++ (zeros z ++ elements)))
array_long a n z elements =
    let N = number_bytes Little w32 n in
    omega (arith, length-append (zeros a) (N ++ (zeros z ++ elements)), length-append N (zeros z ++ elements), length-append (zeros z) elements)

abbrev mutual
  -- each text in the value has at most this many bytes
  pub Within : ℕ → Val → Type 0
  Within most (Val.number b n) = Unit {0}
  Within most (Val.text b text) = length text ≤ most
  Within most (Val.variant v) = Within most v
  Within most (Val.array t vs) = AllWithin most vs
  Within most (Val.bytes them) = Unit {0}
  Within most (Val.struct vs) = AllWithin most vs
  Within most (Val.entry key v) = Within most key × Within most v

  -- each text in a list of values has
  pub AllWithin : ℕ → Vals → Type 0
  AllWithin most Vals.end = Unit {0}
  AllWithin most (Vals.more v vs) = Within most v × AllWithin most vs

mutual
  within : (most : ℕ) (v : Val) (place : ℕ) → length (spelled Little v place) ≤ most → Within most v
  within most (Val.number b n) place few = tt
  within most (Val.text b text) place few = omega (arith, text_long b text place, few)
  within most (Val.variant v) place few =
      let S = text_spelled Little basics.Signature (text_of (ty_of v)) place in
      within most v (behind place (length S)) (omega (arith, length-append S (spelled Little v (behind place (length S))), few))
  within most (Val.array t vs) place few =
      let E = all_spelled Little vs (first_at (alignment_of t) place) in
      all_within most vs (first_at (alignment_of t) place) (omega (arith, array_long (padding 4 place) (length E) (padding (alignment_of t) (behind (start_of 4 place) 4)) E, few))
  within most (Val.bytes them) place few = tt
  within most (Val.struct vs) place few =
      let E = all_spelled Little vs (start_of 8 place) in
      all_within most vs (start_of 8 place) (omega (arith, length-append (zeros (padding 8 place)) E, few))
  within most (Val.entry key v) place few =
      let K = spelled Little key (start_of 8 place) in
      let V = spelled Little v (behind (start_of 8 place) (length K)) in (
        within most key (start_of 8 place) (omega (arith, length-append (zeros (padding 8 place)) (K ++ V), length-append K V, few)),
        within most v (behind (start_of 8 place) (length K)) (omega (arith, length-append (zeros (padding 8 place)) (K ++ V), length-append K V, few)),
      )

  pub all_within : (most : ℕ) (vs : Vals) (place : ℕ) → length (all_spelled Little vs place) ≤ most → AllWithin most vs
  all_within most Vals.end place few = tt
  all_within most (Vals.more v vs) place few =
      let F = spelled Little v place in
      let R = all_spelled Little vs (behind place (length F)) in
      (within most v place (omega (arith, length-append F R, few)), all_within most vs (behind place (length F)) (omega (arith, length-append F R, few)))

both_true : (a b : Bool) → a ≡ true → b ≡ true → (a && b) ≡ true
both_true true b p q = q
both_true false b p q = p

mutual
  short : (v : Val) (place : ℕ) → length (spelled Little v place) ≤ array_limit → is_short Little v place ≡ true
  short (Val.number b n) place few = refl
  short (Val.text b text) place few = refl
  short (Val.variant v) place few =
      let S = text_spelled Little basics.Signature (text_of (ty_of v)) place in
      short v (behind place (length S)) (omega (arith, length-append S (spelled Little v (behind place (length S))), few))
  short (Val.array t vs) place few =
      let first = first_at (alignment_of t) place in
      let E = all_spelled Little vs first in
      let fewer : length E ≤ array_limit = omega (arith, array_long (padding 4 place) (length E) (padding (alignment_of t) (behind (start_of 4 place) 4)) E, few) in
      both_true (are_short Little vs first) (nat_le (length E) array_limit) (all_short vs first fewer) (le-leb (length E) array_limit fewer)
  short (Val.bytes them) place few =
      le-leb (length them) array_limit (omega (arith, array_long (padding 4 place) (length them) (padding 1 (behind (start_of 4 place) 4)) them, few))
  short (Val.struct vs) place few =
      all_short vs (start_of 8 place) (omega (arith, length-append (zeros (padding 8 place)) (all_spelled Little vs (start_of 8 place)), few))
  short (Val.entry key v) place few =
      let K = spelled Little key (start_of 8 place) in
      let there = behind (start_of 8 place) (length K) in
      let V = spelled Little v there in
      both_true (is_short Little key (start_of 8 place)) (is_short Little v there)
      (short key (start_of 8 place) (omega (arith, length-append (zeros (padding 8 place)) (K ++ V), length-append K V, few)))
      (short v there (omega (arith, length-append (zeros (padding 8 place)) (K ++ V), length-append K V, few)))

  -- no array is too long in values that are short together
  pub all_short : (vs : Vals) (place : ℕ) → length (all_spelled Little vs place) ≤ array_limit → are_short Little vs place ≡ true
  all_short Vals.end place few = refl
  all_short (Vals.more v vs) place few =
      let F = spelled Little v place in
      let R = all_spelled Little vs (behind place (length F)) in
      both_true (is_short Little v place) (are_short Little vs (behind place (length F))) (short v place (omega (arith, length-append F R, few)))
      (all_short vs (behind place (length F)) (omega (arith, length-append F R, few)))

-- ---- texts

pub text_is : (bytes : List ℕ) → IsText bytes → is_text bytes ≡ true
text_is bytes is =
    let none : list_any (nat_eq 0) bytes ≡ false = false_unless (list_any (nat_eq 0) bytes) (λ e. is.no_zero (Contains-from_any (λ x y same. eqb-true x y same) 0 bytes e)) in
    rw (is_utf8-from_IsUtf8 bytes is.utf8, none) refl

both : (a b : Bool) → (a && b) ≡ true → (a ≡ true) × (b ≡ true)
both true b e = (refl, e)
both false b e = absurd cc

plain_slash : (code : ℕ) → (code == 47) ≡ true → IsPlain code
plain_slash code e = let is : code ≡ 47 = eqb-true code 47 e in (omega (arith, is), omega (arith, is))

plain_code : (code : ℕ) → is_element_code code ≡ true → IsPlain code
plain_code code e = (grind (arith, nat_tests), grind (arith, nat_tests))

-- the first code of a path, with others after it
one_plain : (test begun : Bool) (code : ℕ) (codes : List ℕ) → (code == 47) ≡ test → ((b : Bool) → are_elements b codes ≡ true → AllByRecursion IsPlain codes)
    → cond test (begun && are_elements false codes) (is_element_code code && are_elements true codes) ≡ true → AllByRecursion IsPlain (code ∷ codes)
one_plain true begun code codes is more e = (plain_slash code is, more false (both begun (are_elements false codes) e).1)
one_plain false begun code codes is more e =
    let two = both (is_element_code code) (are_elements true codes) e in
    (plain_code code two.0, more true two.1)

elements_plain : (begun : Bool) (codes : List ℕ) → are_elements begun codes ≡ true → AllByRecursion IsPlain codes
elements_plain begun [] e = tt
elements_plain begun (code ∷ codes) e = one_plain (code == 47) begun code codes refl (λ b f. elements_plain b codes f) e

-- the codes after the first slash
rest_plain : (codes : List ℕ) → is_object_path (47 ∷ codes) ≡ true → AllByRecursion IsPlain codes
rest_plain [] e = tt
rest_plain (code ∷ codes) e = elements_plain false (code ∷ codes) e

path_codes : (test : Bool) (code : ℕ) (codes : List ℕ) → (code == 47) ≡ test → is_object_path (code ∷ codes) ≡ true → AllByRecursion IsPlain (code ∷ codes)
path_codes true code codes is e =
    (plain_slash code is, rest_plain codes (let same : code ≡ 47 = eqb-true code 47 is in rw same at e))
path_codes false code codes is e = absurd (let no : is_object_path (code ∷ codes) ≡ false = rw is refl in cc)

-- a path is a text
pub path_text : (path : List ℕ) → is_object_path path ≡ true → is_text path ≡ true
path_text [] e = absurd cc
path_text (code ∷ codes) e = plain_text (code ∷ codes) (All-from_recursion IsPlain (code ∷ codes) (path_codes (code == 47) code codes refl e))

-- ---- values have their types

pub path_fits : (depth : ℕ) (path : List ℕ) → IsTrue (is_object_path path) → length path ≤ array_limit → Fits depth (Ty.basic basics.ObjectPath) (Val.text basics.ObjectPath path)
path_fits depth path is few = (refl, ((path_text path is, omega (arith, few)), is))

pub paths_fit : (depth : ℕ) (paths : List (List ℕ)) → ArePaths paths → AllWithin array_limit (path_values paths) → EachFits depth (Ty.basic basics.ObjectPath) (path_values paths)
paths_fit depth [] are few = tt
paths_fit depth (path ∷ paths) are few = (path_fits depth path are.0 few.0, paths_fit depth paths are.1 few.1)

-- the fields of a secret
abbrev fields_of : ReturnedSecret → Vals
fields_of secret =
    Vals.more (Val.text basics.ObjectPath (session_path secret.session.0)) (Vals.more (Val.bytes [])
    (Vals.more (Val.bytes secret.value) (Vals.more (Val.text basics.String secret.content) Vals.end)))

pub fields_fit : (fewer : ℕ) (secret : ReturnedSecret) → IsSecret secret → AllWithin array_limit (fields_of secret) → AllFit (suc fewer) (tys_of (fields_of secret)) (fields_of secret)
fields_fit fewer secret is few = (
  (refl, ((plain_text (session_path secret.session.0) (path_plain secret.session.0 is.session), omega (arith, few.0)), path_is secret.session.0 is.session)),
  ((refl, tt), ((refl, is.value), ((refl, (text_is secret.content is.content, omega (arith, few.1.1.1.0))), tt))),
)

pub secrets_fit : (secrets : List ItemSecret) → AreSecrets secrets → AllWithin array_limit (secret_values secrets) → EachFits 63 (Ty.entry basics.ObjectPath secret_type) (secret_values secrets)
secrets_fit [] are few = tt
secrets_fit (one ∷ secrets) are few =
    ((path_fits 62 one.item are.0 few.0.0, fields_fit 60 one.secret are.1 few.0.1), secrets_fit secrets are.2 few.1)

-- ---- properties

-- the text of a property or an attribute
pub string_fits : (depth : ℕ) (text : List ℕ) → IsText text → length text ≤ array_limit → Fits depth (Ty.basic basics.String) (Val.text basics.String text)
string_fits depth text is few = (refl, (text_is text is, omega (arith, few)))

pub bit_fits : (depth : ℕ) (truth : Bool) → Fits depth (Ty.basic basics.Boolean) (Val.number basics.Boolean (bit_of truth))
bit_fits depth true = (refl, omega arith)
bit_fits depth false = (refl, omega arith)

attributes_fit : (depth : ℕ) (attributes : List Attribute) → AreAttributes attributes → AllWithin array_limit (attribute_values attributes)
    → EachFits (suc (suc depth)) (Ty.entry basics.String (Ty.basic basics.String)) (attribute_values attributes)
attributes_fit depth [] are few = tt
attributes_fit depth (one ∷ attributes) are few =
    ((string_fits (suc depth) one.name are.0 few.0.0, string_fits (suc depth) one.value are.1 few.0.1), attributes_fit depth attributes are.2 few.1)

-- the value of a property, as a variant
pub shown_fits : (depth : ℕ) (value : PropertyValue) → IsShown value → Within array_limit (property_value value)
    → Fits (suc (suc (suc (suc depth)))) Ty.variant (Val.variant (property_value value))
shown_fits depth (shown.Objects objects) is few = (refl, (refl, paths_fit (suc (suc depth)) objects is few, refl))
shown_fits depth (shown.Text text) is few = (refl, string_fits (suc (suc (suc depth))) text is few)
shown_fits depth (shown.Attributes attributes) is few = (refl, (refl, attributes_fit depth attributes is few, refl))
shown_fits depth (shown.Truth truth) is few = (refl, bit_fits (suc (suc (suc depth))) truth)
shown_fits depth (shown.Moment seconds) is few = (refl, (refl, is))

-- the name of a property
name_fits : (depth : ℕ) (it : Property) → Fits depth (Ty.basic basics.String) (Val.text basics.String (property_text it))
name_fits depth property.Collections = (refl, (plain_text (property_text property.Collections) (plain_literal (property_text property.Collections) refl), omega arith))
name_fits depth it = (refl, (plain_text (property_text it) (plain_literal (property_text it) refl), omega arith))

-- properties with their values
pub properties_fit : (properties : List ShownProperty) → AreShown properties → AllWithin array_limit (shown_values properties)
    → EachFits 63 (Ty.entry basics.String Ty.variant) (shown_values properties)
properties_fit [] are few = tt
properties_fit (one ∷ properties) are few = ((name_fits 62 one.property, shown_fits 58 one.value are.0 few.0.1), properties_fit properties are.1 few.1)

-- the names of properties
pub names_fit : (depth : ℕ) (names : List Property) → EachFits depth (Ty.basic basics.String) (name_values names)
names_fit depth [] = tt
names_fit depth (one ∷ names) = (name_fits depth one, names_fit depth names)
