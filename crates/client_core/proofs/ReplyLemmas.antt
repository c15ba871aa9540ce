-- What the readers of replies return for each value.
use Rattle.std.proofs.Common.{◌≡◌, ℕ, ◌+◌, ◌<◌, ◌&&◌, Bool, true, false, List, [], ◌∷◌, ◌++◌, Option, Some, None, option_map, option_and_then, length, drop, get_or, Box, Global, refl, sym, ap, ◌∙◌, suc, arith, append_assoc}
use Rattle.std.proofs.Math.Seq.{drop-cons}
use Rattle.kr_base.specs.declared.bytes.Bytes.{Bytes as Octets}
use Rattle.dbus_types.specs.declared.complete_type.BasicType.{BasicType}
use Rattle.dbus_types.specs.declared.complete_type.BasicType.TheVariants as basics
use Rattle.dbus_types.specs.declared.value.Value.{Value, Bytes, Struct', Pair'}
use Rattle.dbus_types.specs.Types.{Ty, Tys}
use Rattle.dbus_types.specs.Values.{Val, Vals}
use Rattle.dbus_types.specs.ValueViews.{value_as, each_as, all_as, FieldsAre}
use Rattle.dbus_framing.specs.Headers.{where_is, parts_in}
use Rattle.secret_calls.specs.Outs.{secret_type}
use Rattle.call_arguments.specs.Arguments.{bytes_in, four_of, all_in, is_string, is_path_type, is_text_type}
use Rattle.client_core.specs.Replies.{secret_types, secret_entry, is_byte_type, is_bytes_type, are_secret_types, is_secret_type, is_path, is_secret_entry, secret_entries}

-- no other value is a byte array
pub no_bytes_there : (value : Value) → ((bytes : Box Octets Global) → value ≡ Bytes bytes → ⊥) → None ≡ bytes_in (value_as (Ty.array (Ty.basic basics.Byte)) value)
no_bytes_there (Bytes bytes) other = absurd (other bytes refl)
no_bytes_there _ other = refl

-- the four parts of a secret in an array are its fields
pub no_fields_there : (value : Value) → FieldsAre value None → None ≡ option_and_then four_of (parts_in (value_as secret_type value))
no_fields_there (Struct' place shape row) none = absurd (none refl)
no_fields_there (Pair' place shape row) none = absurd (none refl)
no_fields_there _ none = refl

pub fields_are : (value : Value) (fields : List Value) → FieldsAre value (Some fields) → four_of (all_as secret_types fields) ≡ option_and_then four_of (parts_in (value_as secret_type value))
fields_are value fields are = sym (ap (λ (v : Val). option_and_then four_of (parts_in v)) (are.1 secret_type))

-- ---- types

both : (a b : Bool) → (a && b) ≡ true → (a ≡ true) × (b ≡ true)
both true b e = (refl, e)
both false b e = absurd cc

path_is : (b : BasicType) → is_path b ≡ true → b ≡ basics.ObjectPath
path_is basics.ObjectPath e = refl
path_is _ e = absurd cc

string_is : (b : BasicType) → is_string b ≡ true → b ≡ basics.String
string_is basics.String e = refl
string_is _ e = absurd cc

path_type_is : (t : Ty) → is_path_type t ≡ true → t ≡ Ty.basic basics.ObjectPath
path_type_is (Ty.basic basics.ObjectPath) e = refl
path_type_is _ e = absurd cc

text_type_is : (t : Ty) → is_text_type t ≡ true → t ≡ Ty.basic basics.String
text_type_is (Ty.basic b) e = ap Ty.basic (string_is b e)
text_type_is _ e = absurd cc

byte_type_is : (t : Ty) → is_byte_type t ≡ true → t ≡ Ty.basic basics.Byte
byte_type_is (Ty.basic basics.Byte) e = refl
byte_type_is _ e = absurd cc

bytes_type_is : (t : Ty) → is_bytes_type t ≡ true → t ≡ Ty.array (Ty.basic basics.Byte)
bytes_type_is (Ty.array t) e = ap Ty.array (byte_type_is t e)
bytes_type_is _ e = absurd cc

secret_types_are : (types : Tys) → are_secret_types types ≡ true → types ≡ secret_types
secret_types_are (Tys.more a (Tys.more b (Tys.more c (Tys.more d Tys.end)))) e =
    let first = both (is_path_type a) (is_bytes_type b && (is_bytes_type c && is_text_type d)) e in
    let second = both (is_bytes_type b) (is_bytes_type c && is_text_type d) first.1 in
    let third = both (is_bytes_type c) (is_text_type d) second.1 in
    let byte_array = Ty.array (Ty.basic basics.Byte) in
    ap (λ (t : Ty). Tys.more t (Tys.more b (Tys.more c (Tys.more d Tys.end)))) (path_type_is a first.0)
    ∙ ap (λ (t : Ty). Tys.more (Ty.basic basics.ObjectPath) (Tys.more t (Tys.more c (Tys.more d Tys.end)))) (bytes_type_is b second.0)
    ∙ ap (λ (t : Ty). Tys.more (Ty.basic basics.ObjectPath) (Tys.more byte_array (Tys.more t (Tys.more d Tys.end)))) (bytes_type_is c third.0)
    ∙ ap (λ (t : Ty). Tys.more (Ty.basic basics.ObjectPath) (Tys.more byte_array (Tys.more byte_array (Tys.more t Tys.end)))) (text_type_is d third.1)
secret_types_are Tys.end e = absurd cc
secret_types_are (Tys.more a Tys.end) e = absurd cc
secret_types_are (Tys.more a (Tys.more b Tys.end)) e = absurd cc
secret_types_are (Tys.more a (Tys.more b (Tys.more c Tys.end))) e = absurd cc
secret_types_are (Tys.more a (Tys.more b (Tys.more c (Tys.more d (Tys.more f ts))))) e = absurd cc

secret_type_is : (t : Ty) → is_secret_type t ≡ true → t ≡ secret_type
secret_type_is (Ty.struct types) e = ap Ty.struct (secret_types_are types e)
secret_type_is _ e = absurd cc

entry_is : (t : Ty) → is_secret_entry t ≡ true → t ≡ secret_entry
entry_is (Ty.entry key held) e =
    let two = both (is_path key) (is_secret_type held) e in
    ap (λ k. Ty.entry k held) (path_is key two.0) ∙ ap (Ty.entry basics.ObjectPath) (secret_type_is held two.1)
entry_is _ e = absurd cc

-- the elements of an array are entries with secrets if the array says so
pub entries_are : (t : Ty) (values : List Value) → is_secret_entry t ≡ true → Some (each_as secret_entry values) ≡ secret_entries (Val.array t (each_as t values))
entries_are t values e = ap (λ u. Some (each_as u values)) (sym (entry_is t e)) ∙ ap (λ (b : Bool). where_is b (each_as t values)) (sym e)

pub entries_other : (t : Ty) (values : List Value) → is_secret_entry t ≡ false → None ≡ secret_entries (Val.array t (each_as t values))
entries_other t values e = ap (λ (b : Bool). where_is b (each_as t values)) (sym e)

-- ---- values read one after another

-- what was read so far, followed by what the other values are read as
abbrev pub followed : {A : Type 0} → List A → Option (List A) → Option (List A)
followed made more = option_map (λ them. made ++ them) more

followed-one : {A : Type 0} (made : List A) (one : A) (more : Option (List A)) → followed made (option_map (λ them. one ∷ them) more) ≡ followed (made ++ one ∷ []) more
followed-one made one None = refl
followed-one made one (Some more) = ap Some (sym (append_assoc made (one ∷ []) more))

each_from : (t : Ty) (values : List Value) (i : ℕ) (each : Value) → i < length values → each ≡ get_or values i each → each_as t (drop i values) ≡ Vals.more (value_as t each) (each_as t (drop (i + 1) values))
each_from t values i each within is =
    let next : suc i ≡ i + 1 = omega arith in
    ap (each_as t) (drop-cons values i each within ∙ ap (λ (v : Value). v ∷ drop (suc i) values) (sym is) ∙ ap (λ k. each ∷ drop k values) next)

-- one more value was read
pub all_next : {A : Type 0} (read : Val → Option A) (t : Ty) (values : List Value) (i : ℕ) (each : Value) (made : List A) (one : A) → i < length values → each ≡ get_or values i each → Some one ≡ read (value_as t each)
    → followed (made ++ one ∷ []) (all_in read (each_as t (drop (i + 1) values))) ≡ followed made (all_in read (each_as t (drop i values)))
all_next read t values i each made one within is got =
    let more = all_in read (each_as t (drop (i + 1) values)) in
    sym (followed-one made one more)
    ∙ ap (λ (o : Option _). followed made (option_and_then (λ x. option_map (λ them. x ∷ them) more) o)) got
    ∙ ap (λ vs. followed made (all_in read vs)) (sym (each_from t values i each within is))

-- a value couldn't be read
pub all_stops : {A : Type 0} (read : Val → Option A) (t : Ty) (values : List Value) (i : ℕ) (each : Value) (made : List A) → i < length values → each ≡ get_or values i each → None ≡ read (value_as t each)
    → None ≡ followed made (all_in read (each_as t (drop i values)))
all_stops read t values i each made within is none =
    let more = all_in read (each_as t (drop (i + 1) values)) in
    ap (λ (o : Option _). followed made (option_and_then (λ x. option_map (λ them. x ∷ them) more) o)) none
    ∙ ap (λ vs. followed made (all_in read vs)) (sym (each_from t values i each within is))
