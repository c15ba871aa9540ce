-- What the readers of arguments return for each value.
use Rattle.std.proofs.Common.{◌≡◌, ℕ, ◌&&◌, Bool, true, false, List, [], ◌∷◌, ◌++◌, Option, Some, None, option_map, option_and_then, length, drop, get_or, Box, Global, refl, sym, ap, ◌∙◌, suc, arith, append_assoc, ◌+◌, ◌<◌}
use Rattle.std.proofs.Math.Seq.{drop-cons}
use Rattle.std.specs.Option.{option_or}
use Rattle.kr_base.specs.declared.text.Text.{Text}
use Rattle.kr_base.specs.declared.bytes.Bytes.{Bytes as Octets}
use Rattle.dbus_types.specs.declared.complete_type.BasicType.{BasicType}
use Rattle.dbus_types.specs.declared.complete_type.BasicType.TheVariants as basics
use Rattle.dbus_types.specs.declared.object_path.ObjectPath.{ObjectPath as Path}
use Rattle.dbus_types.specs.declared.value.DictEntry.{DictEntry as Entry}
use Rattle.dbus_types.specs.declared.value.Value.{Value, Boolean, Uint32, Uint64, String, ObjectPath, Bytes, Struct', Pair', DictEntry, DictEntry'}
use Rattle.dbus_types.specs.Types.{Ty}
use Rattle.dbus_types.specs.Values.{Val, Vals}
use Rattle.dbus_types.specs.Known.{is_variant}
use Rattle.dbus_types.specs.ValueViews.{value_as, value_of, each_as, bit_of, FieldsAre}
use Rattle.dbus_framing.specs.Headers.{where_is, path_in, string_in, parts_in}
use Rattle.call_arguments.specs.declared.values.ElementType.{ElementType}
use Rattle.call_arguments.specs.declared.values.ElementType.TheVariants as element
use Rattle.call_arguments.specs.Arguments.{truth_in, long_in, word_in, bytes_in, entry_in, type_of_element, is_string, is_path_type, is_text_type, is_text_pair, is_property, is_element, elements_in, all_in, property, value_named}

-- no other value in an array of paths is a path
pub no_path_there : (value : Value) → ((path : Box Path Global) → value ≡ ObjectPath path → ⊥) → None ≡ path_in (value_as (Ty.basic basics.ObjectPath) value)
no_path_there (ObjectPath path) other = absurd (other path refl)
no_path_there _ other = refl

-- in a dict, no other value is a string, and no other key is
pub no_string_there : (value : Value) → ((text : Box Text Global) → value ≡ String text → ⊥) → None ≡ string_in (value_as (Ty.basic basics.String) value)
no_string_there (String text) other = absurd (other text refl)
no_string_there _ other = refl

pub no_string_key : (t : Ty) (value : Value) → ((text : Box Text Global) → value ≡ String text → ⊥) → None ≡ string_in (value_as (Ty.entry basics.String t) value)
no_string_key t (String text) other = absurd (other text refl)
no_string_key t _ other = refl

-- no other value is an entry
pub no_entry : (t : Ty) (value : Value) → ((entry : Box Entry Global) → value ≡ DictEntry entry → ⊥) → None ≡ entry_in (value_as (Ty.entry basics.String t) value)
no_entry t (DictEntry' place key held) other = absurd (other _ refl)
no_entry t _ other = refl

-- no other value is a Boolean, a long number or one of 32 bits, none is a byte array, and none is a struct
pub no_truth : (value : Value) → ((truth : Bool) → value ≡ Boolean truth → ⊥) → None ≡ truth_in (value_of value)
no_truth (Boolean truth) other = absurd (other truth refl)
no_truth _ other = refl

pub truth_is : (truth : Bool) → Some truth ≡ truth_in (Val.number basics.Boolean (bit_of truth))
truth_is true = refl
truth_is false = refl

pub no_long : (value : Value) → ((number : ℕ) → value ≡ Uint64 number → ⊥) → None ≡ long_in (value_of value)
no_long (Uint64 number) other = absurd (other number refl)
no_long _ other = refl

pub no_word : (value : Value) → ((number : ℕ) → value ≡ Uint32 number → ⊥) → None ≡ word_in (value_of value)
no_word (Uint32 number) other = absurd (other number refl)
no_word _ other = refl

pub no_bytes : (value : Value) → ((bytes : Box Octets Global) → value ≡ Bytes bytes → ⊥) → None ≡ bytes_in (value_of value)
no_bytes (Bytes bytes) other = absurd (other bytes refl)
no_bytes _ other = refl

no_parts : (value : Value) → FieldsAre value None → None ≡ parts_in (value_of value)
no_parts (Struct' place shape row) none = absurd (none refl)
no_parts (Pair' place shape row) none = absurd (none refl)
no_parts _ none = refl

pub fused : {A B C : Type 0} (f : A → B) (g : B → C) (o : Option A) → option_map (λ x. g (f x)) o ≡ option_map g (option_map f o)
fused f g None = refl
fused f g (Some x) = refl

-- the parts of a struct are its fields
pub parts_are : (value : Value) (fields : Option (List Value)) → FieldsAre value fields → option_map (λ parts. each_as Ty.variant parts) fields ≡ parts_in (value_of value)
parts_are value None none = no_parts value none
parts_are value (Some fields) are = sym (ap parts_in (are.1 Ty.variant))

-- ---- types of elements

pub not_string : (b : BasicType) → (b ≡ basics.String → ⊥) → false ≡ is_string b
not_string basics.String other = absurd (other refl)
not_string _ other = refl

string_is : (b : BasicType) → is_string b ≡ true → b ≡ basics.String
string_is basics.String e = refl
string_is _ e = absurd cc

path_type_is : (t : Ty) → is_path_type t ≡ true → t ≡ Ty.basic basics.ObjectPath
path_type_is (Ty.basic basics.ObjectPath) e = refl
path_type_is _ e = absurd cc

text_type_is : (t : Ty) → is_text_type t ≡ true → t ≡ Ty.basic basics.String
text_type_is (Ty.basic b) e = ap Ty.basic (string_is b e)
text_type_is _ e = absurd cc

variant_is : (t : Ty) → is_variant t ≡ true → t ≡ Ty.variant
variant_is Ty.variant e = refl
variant_is _ e = absurd cc

both : (a b : Bool) → (a && b) ≡ true → (a ≡ true) × (b ≡ true)
both true b e = (refl, e)
both false b e = absurd cc

entry_is : (key : BasicType) (t u : Ty) → is_string key ≡ true → t ≡ u → Ty.entry key t ≡ Ty.entry basics.String u
entry_is key t u is same = ap (λ k. Ty.entry k t) (string_is key is) ∙ ap (Ty.entry basics.String) same

pair_is : (t : Ty) → is_text_pair t ≡ true → t ≡ Ty.entry basics.String (Ty.basic basics.String)
pair_is (Ty.entry key held) e = let two = both (is_string key) (is_text_type held) e in entry_is key held (Ty.basic basics.String) two.0 (text_type_is held two.1)
pair_is _ e = absurd cc

property_is : (t : Ty) → is_property t ≡ true → t ≡ Ty.entry basics.String Ty.variant
property_is (Ty.entry key held) e = let two = both (is_string key) (is_variant held) e in entry_is key held Ty.variant two.0 (variant_is held two.1)
property_is _ e = absurd cc

element_is : (wanted : ElementType) (t : Ty) → is_element wanted t ≡ true → t ≡ type_of_element wanted
element_is element.Path t e = path_type_is t e
element_is element.Text t e = text_type_is t e
element_is element.TextPair t e = pair_is t e
element_is element.Property t e = property_is t e

-- the elements of an array have the wanted type if the array says so
pub elements_are : (wanted : ElementType) (t : Ty) (values : List Value) → is_element wanted t ≡ true → Some (each_as (type_of_element wanted) values) ≡ elements_in wanted (Val.array t (each_as t values))
elements_are wanted t values e =
    ap (λ u. Some (each_as u values)) (sym (element_is wanted t e)) ∙ ap (λ (b : Bool). where_is b (each_as t values)) (sym e)

pub elements_other : (wanted : ElementType) (t : Ty) (values : List Value) → is_element wanted t ≡ false → None ≡ elements_in wanted (Val.array t (each_as t values))
elements_other wanted t values e = ap (λ (b : Bool). where_is b (each_as t values)) (sym e)

-- no wanted type is a variant
pub no_variants : (wanted : ElementType) (values : Vals) → None ≡ elements_in wanted (Val.array Ty.variant values)
no_variants element.Path values = refl
no_variants element.Text values = refl
no_variants element.TextPair values = refl
no_variants element.Property values = refl

-- ---- values read one after another

-- what was read so far, followed by what the other values are read as
abbrev pub followed : {A : Type 0} → List A → Option (List A) → Option (List A)
followed made more = option_map (λ them. made ++ them) more

followed-one : {A : Type 0} (made : List A) (one : A) (more : Option (List A)) → followed made (option_map (λ them. one ∷ them) more) ≡ followed (made ++ one ∷ []) more
followed-one made one None = refl
followed-one made one (Some more) = ap Some (sym (append_assoc made (one ∷ []) more))

each_from : (t : Ty) (values : List Value) (i : ℕ) (each : Value) → i < length values → each ≡ get_or values i each → each_as t (drop i values) ≡ Vals.more (value_as t each) (each_as t (drop (i + 1) values))
each_from t values i each within is =
    let next : suc i ≡ i + 1 = omega arith in
    ap (each_as t) (drop-cons values i each within ∙ ap (λ (v : Value). v ∷ drop (suc i) values) (sym is) ∙ ap (λ k. each ∷ drop k values) next)

-- one more value was read
pub all_next : {A : Type 0} (read : Val → Option A) (t : Ty) (values : List Value) (i : ℕ) (each : Value) (made : List A) (one : A) → i < length values → each ≡ get_or values i each → Some one ≡ read (value_as t each)
    → followed (made ++ one ∷ []) (all_in read (each_as t (drop (i + 1) values))) ≡ followed made (all_in read (each_as t (drop i values)))
all_next read t values i each made one within is got =
    let more = all_in read (each_as t (drop (i + 1) values)) in
    sym (followed-one made one more)
    ∙ ap (λ (o : Option _). followed made (option_and_then (λ x. option_map (λ them. x ∷ them) more) o)) got
    ∙ ap (λ vs. followed made (all_in read vs)) (sym (each_from t values i each within is))

-- a value couldn't be read
pub all_stops : {A : Type 0} (read : Val → Option A) (t : Ty) (values : List Value) (i : ℕ) (each : Value) (made : List A) → i < length values → each ≡ get_or values i each → None ≡ read (value_as t each)
    → None ≡ followed made (all_in read (each_as t (drop i values)))
all_stops read t values i each made within is none =
    let more = all_in read (each_as t (drop (i + 1) values)) in
    ap (λ (o : Option _). followed made (option_and_then (λ x. option_map (λ them. x ∷ them) more) o)) none
    ∙ ap (λ vs. followed made (all_in read vs)) (sym (each_from t values i each within is))

-- ---- properties

or_assoc : {A : Type 0} (a b c : Option A) → option_or (option_or a b) c ≡ option_or a (option_or b c)
or_assoc None b c = refl
or_assoc (Some x) b c = refl

-- one more entry was examined
pub property_next : (wanted : List ℕ) (t : Ty) (values : List Value) (i : ℕ) (each : Value) (found more : Option Val) → i < length values → each ≡ get_or values i each
    → more ≡ option_or (value_named wanted (value_as t each)) found
    → option_or (property wanted (each_as t (drop (i + 1) values))) more ≡ option_or (property wanted (each_as t (drop i values))) found
property_next wanted t values i each found more within is so =
    let later = property wanted (each_as t (drop (i + 1) values)) in
    ap (option_or later) so ∙ sym (or_assoc later (value_named wanted (value_as t each)) found)
    ∙ ap (λ vs. option_or (property wanted vs) found) (sym (each_from t values i each within is))
