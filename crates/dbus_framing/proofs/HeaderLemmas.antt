-- Which value a header field has, and which type.
use Rattle.std.proofs.Common.{◌≡◌, ℕ, ◌&&◌, Bool, true, false, List, Option, Some, None, Box, Global, refl, sym, ap, ◌∙◌}
use Rattle.kr_base.specs.declared.text.Text.{Text}
use Rattle.dbus_types.specs.declared.complete_type.BasicType.TheVariants as basics
use Rattle.dbus_types.specs.declared.object_path.ObjectPath.{ObjectPath as Path}
use Rattle.dbus_types.specs.declared.signature.Signature.{Signature as Types}
use Rattle.dbus_types.specs.declared.value.Value.{Value, Byte, Uint32, String, ObjectPath, Signature, Variant, Variant'}
use Rattle.dbus_types.specs.Types.{Ty, Tys}
use Rattle.dbus_types.specs.ValueViews.{value_as, value_of, each_as, lone_in}
use Rattle.dbus_types.specs.Known.{is_variant, fields_in}
use Rattle.dbus_marshal.specs.Wire.{is_byte}
use Rattle.dbus_framing.specs.Headers.{where_is, path_in, string_in, number_in, code_in, held_in, types_in_value, field_type, is_field_type}

-- no other value is a path
pub no_path : (value : Value) → ((path : Box Path Global) → value ≡ ObjectPath path → ⊥) → None ≡ path_in (value_of value)
no_path (ObjectPath path) other = absurd (other path refl)
no_path _ other = refl

-- nor a string
pub no_string : (value : Value) → ((text : Box Text Global) → value ≡ String text → ⊥) → None ≡ string_in (value_of value)
no_string (String text) other = absurd (other text refl)
no_string _ other = refl

-- nor a signature
pub no_signature : (value : Value) → ((types : Box Types Global) → value ≡ Signature types → ⊥) → None ≡ types_in_value (value_of value)
no_signature (Signature types) other = absurd (other types refl)
no_signature _ other = refl

-- nor a number of type `u`
pub no_number : (value : Value) → ((number : ℕ) → value ≡ Uint32 number → ⊥) → None ≡ number_in (value_of value)
no_number (Uint32 number) other = absurd (other number refl)
no_number _ other = refl

-- nor the code of a header field
pub no_code : (value : Value) → ((code : ℕ) → value ≡ Byte code → ⊥) → None ≡ code_in (value_as (Ty.basic basics.Byte) value)
no_code (Byte code) other = absurd (other code refl)
no_code _ other = refl

-- nor has a value inside
pub no_held : (value : Value) → ((held : Box Value Global) → value ≡ Variant held → ⊥) → None ≡ held_in (value_of value)
no_held (Variant' place held) other = absurd (other _ refl)
no_held _ other = refl

not_byte : (t : Ty) (ts : Tys) → is_byte t ≡ false → is_field_type (Ty.struct (Tys.more t ts)) ≡ false
not_byte (Ty.basic basics.Byte) ts e = absurd cc
not_byte (Ty.basic basics.Boolean) ts e = refl
not_byte (Ty.basic basics.Int16) ts e = refl
not_byte (Ty.basic basics.Uint16) ts e = refl
not_byte (Ty.basic basics.Int32) ts e = refl
not_byte (Ty.basic basics.Uint32) ts e = refl
not_byte (Ty.basic basics.Int64) ts e = refl
not_byte (Ty.basic basics.Uint64) ts e = refl
not_byte (Ty.basic basics.Double) ts e = refl
not_byte (Ty.basic basics.UnixFd) ts e = refl
not_byte (Ty.basic basics.String) ts e = refl
not_byte (Ty.basic basics.ObjectPath) ts e = refl
not_byte (Ty.basic basics.Signature) ts e = refl
not_byte Ty.variant ts e = refl
not_byte (Ty.array t) ts e = refl
not_byte (Ty.struct us) ts e = refl
not_byte (Ty.entry key t) ts e = refl

is_byte_type : (t : Ty) → is_byte t ≡ true → t ≡ Ty.basic basics.Byte
is_byte_type (Ty.basic basics.Byte) e = refl
is_byte_type (Ty.basic basics.Boolean) e = absurd cc
is_byte_type (Ty.basic basics.Int16) e = absurd cc
is_byte_type (Ty.basic basics.Uint16) e = absurd cc
is_byte_type (Ty.basic basics.Int32) e = absurd cc
is_byte_type (Ty.basic basics.Uint32) e = absurd cc
is_byte_type (Ty.basic basics.Int64) e = absurd cc
is_byte_type (Ty.basic basics.Uint64) e = absurd cc
is_byte_type (Ty.basic basics.Double) e = absurd cc
is_byte_type (Ty.basic basics.UnixFd) e = absurd cc
is_byte_type (Ty.basic basics.String) e = absurd cc
is_byte_type (Ty.basic basics.ObjectPath) e = absurd cc
is_byte_type (Ty.basic basics.Signature) e = absurd cc
is_byte_type Ty.variant e = absurd cc
is_byte_type (Ty.array t) e = absurd cc
is_byte_type (Ty.struct us) e = absurd cc
is_byte_type (Ty.entry key t) e = absurd cc

byte_then : (ts : Tys) → lone_in true ts ≡ None → is_field_type (Ty.struct (Tys.more (Ty.basic basics.Byte) ts)) ≡ false
byte_then Tys.end e = refl
byte_then (Tys.more t Tys.end) e = absurd cc
byte_then (Tys.more (Ty.basic b) (Tys.more u ts)) e = refl
byte_then (Tys.more Ty.variant (Tys.more u ts)) e = refl
byte_then (Tys.more (Ty.array t) (Tys.more u ts)) e = refl
byte_then (Tys.more (Ty.struct us) (Tys.more u ts)) e = refl
byte_then (Tys.more (Ty.entry key t) (Tys.more u ts)) e = refl

byte_and : (u : Ty) → is_variant u ≡ is_field_type (Ty.struct (Tys.more (Ty.basic basics.Byte) (Tys.more u Tys.end)))
byte_and (Ty.basic b) = refl
byte_and Ty.variant = refl
byte_and (Ty.array t) = refl
byte_and (Ty.struct us) = refl
byte_and (Ty.entry key t) = refl

not_two_by : (test : Bool) (t : Ty) (ts : Tys) → is_byte t ≡ test → lone_in true ts ≡ None → false ≡ is_field_type (Ty.struct (Tys.more t ts))
not_two_by false t ts e none = sym (not_byte t ts e)
not_two_by true t ts e none = sym (ap (λ (u : Ty). is_field_type (Ty.struct (Tys.more u ts))) (is_byte_type t e) ∙ byte_then ts none)

-- a field has two types
pub not_two : (t : Ty) (ts all : Tys) → all ≡ Tys.more t ts → None ≡ lone_in true ts → false ≡ is_field_type (Ty.struct all)
not_two t ts all parts none = not_two_by (is_byte t) t ts refl (sym none) ∙ ap (λ (us : Tys). is_field_type (Ty.struct us)) (sym parts)

lone_more : (ts : Tys) (u : Ty) → Some u ≡ lone_in true ts → ts ≡ Tys.more u Tys.end
lone_more Tys.end u e = absurd cc
lone_more (Tys.more t Tys.end) u e = let same : t ≡ u = cc in ap (λ (w : Ty). Tys.more w Tys.end) same
lone_more (Tys.more t (Tys.more w ts)) u e = absurd cc

two_by : (test : Bool) (t u : Ty) → is_byte t ≡ test → (test && is_variant u) ≡ is_field_type (Ty.struct (Tys.more t (Tys.more u Tys.end)))
two_by false t u e = sym (not_byte t (Tys.more u Tys.end) e)
two_by true t u e = byte_and u ∙ ap (λ (w : Ty). is_field_type (Ty.struct (Tys.more w (Tys.more u Tys.end)))) (sym (is_byte_type t e))

pub two : (t u : Ty) (ts all : Tys) → all ≡ Tys.more t ts → Some u ≡ lone_in true ts → (is_byte t && is_variant u) ≡ is_field_type (Ty.struct all)
two t u ts all parts lone = two_by (is_byte t) t u refl ∙ ap (λ (us : Tys). is_field_type (Ty.struct (Tys.more t us))) (sym (lone_more ts u lone)) ∙ ap (λ (us : Tys). is_field_type (Ty.struct us)) (sym parts)

-- whether a struct has the types of a field
pub struct_test : (t : Ty) (ts : Tys) → Some ts ≡ fields_in t → is_field_type (Ty.struct ts) ≡ is_field_type t
struct_test (Ty.struct us) ts e = let same : us ≡ ts = cc in ap (λ (ws : Tys). is_field_type (Ty.struct ws)) (sym same)
struct_test (Ty.basic b) ts e = absurd cc
struct_test Ty.variant ts e = absurd cc
struct_test (Ty.array t) ts e = absurd cc
struct_test (Ty.entry key t) ts e = absurd cc

pub no_struct : (t : Ty) → None ≡ fields_in t → false ≡ is_field_type t
no_struct (Ty.struct us) e = absurd cc
no_struct (Ty.basic b) e = refl
no_struct Ty.variant e = refl
no_struct (Ty.array t) e = refl
no_struct (Ty.entry key t) e = refl

variant_is : (u : Ty) → is_field_type (Ty.struct (Tys.more (Ty.basic basics.Byte) (Tys.more u Tys.end))) ≡ true → u ≡ Ty.variant
variant_is (Ty.basic b) e = absurd cc
variant_is Ty.variant e = refl
variant_is (Ty.array t) e = absurd cc
variant_is (Ty.struct us) e = absurd cc
variant_is (Ty.entry key t) e = absurd cc

byte_parts : (ts : Tys) → is_field_type (Ty.struct (Tys.more (Ty.basic basics.Byte) ts)) ≡ true → ts ≡ Tys.more Ty.variant Tys.end
byte_parts Tys.end e = absurd cc
byte_parts (Tys.more t Tys.end) e = ap (λ (u : Ty). Tys.more u Tys.end) (variant_is t e)
byte_parts (Tys.more (Ty.basic b) (Tys.more u ts)) e = absurd cc
byte_parts (Tys.more Ty.variant (Tys.more u ts)) e = absurd cc
byte_parts (Tys.more (Ty.array t) (Tys.more u ts)) e = absurd cc
byte_parts (Tys.more (Ty.struct us) (Tys.more u ts)) e = absurd cc
byte_parts (Tys.more (Ty.entry key t) (Tys.more u ts)) e = absurd cc

parts_by : (test : Bool) (t : Ty) (ts : Tys) → is_byte t ≡ test → is_field_type (Ty.struct (Tys.more t ts)) ≡ true → Ty.struct (Tys.more t ts) ≡ field_type
parts_by false t ts byte e = let no = not_byte t ts byte in absurd cc
parts_by true t ts byte e =
    let same = is_byte_type t byte in
    let rest = byte_parts ts (ap (λ (u : Ty). is_field_type (Ty.struct (Tys.more u ts))) (sym same) ∙ e) in
    ap (λ (u : Ty). Ty.struct (Tys.more u ts)) same ∙ ap (λ (us : Tys). Ty.struct (Tys.more (Ty.basic basics.Byte) us)) rest

is_field : (t : Ty) → is_field_type t ≡ true → t ≡ field_type
is_field (Ty.struct Tys.end) e = absurd cc
is_field (Ty.struct (Tys.more t ts)) e = parts_by (is_byte t) t ts refl e
is_field (Ty.basic b) e = absurd cc
is_field Ty.variant e = absurd cc
is_field (Ty.array t) e = absurd cc
is_field (Ty.entry key t) e = absurd cc

-- the elements of an array of fields
pub field_elements : (t : Ty) (vs : List Value) → is_field_type t ≡ true → Some (each_as field_type vs) ≡ where_is (is_field_type t) (each_as t vs)
field_elements t vs e = ap (λ (u : Ty). Some (each_as u vs)) (sym (is_field t e)) ∙ ap (λ (b : Bool). where_is b (each_as t vs)) (sym e)
