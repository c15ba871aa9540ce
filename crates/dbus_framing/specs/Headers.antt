-- D-Bus Specification, "Message Format", "Header Fields": which fields a header has, and what they contain.
use Rattle.std.specs.Prelude.{ℕ, ◌==◌, Bool, true, false, List, Option, Some, None, is_some, ◌&&◌, option_map, option_and_then, if◌then◌else◌}
use Rattle.dbus_types.specs.declared.complete_type.BasicType.TheVariants as basics
use Rattle.dbus_types.specs.Types.{Ty, Tys}
use Rattle.dbus_types.specs.Signatures.{signature_at}
use Rattle.dbus_types.specs.Values.{Val, Vals}
use Rattle.std.specs.Result.{result_ok}
use Rattle.dbus_framing.specs.declared.header.FieldKind.{FieldKind}
use Rattle.dbus_framing.specs.declared.header.FieldKind.TheVariants as kinds
use Rattle.dbus_framing.specs.Names.{is_member_name, is_interface_name}

-- the values of a header's fields, if it has them
pub record Fields : Type 0 where
  pub path : Option (List ℕ)
  pub interface : Option (List ℕ)
  pub member : Option (List ℕ)
  pub error_name : Option (List ℕ)
  pub reply_serial : Option ℕ
  pub destination : Option (List ℕ)
  pub sender : Option (List ℕ)
  pub signature : Option Tys
  pub unix_fds : Option ℕ

-- a header that has no field
abbrev pub no_fields : Fields
no_fields = record {
  path = None;
  interface = None;
  member = None;
  error_name = None;
  reply_serial = None;
  destination = None;
  sender = None;
  signature = None;
  unix_fds = None;
}

-- the field that a code stands for; code 0 is invalid, and any other code is ignored
abbrev pub kind_of : ℕ → FieldKind
kind_of code =
    if code == 0 then kinds.Invalid else
    if code == 1 then kinds.Path else
    if code == 2 then kinds.Interface else
    if code == 3 then kinds.Member else
    if code == 4 then kinds.ErrorName else
    if code == 5 then kinds.ReplySerial else
    if code == 6 then kinds.Destination else
    if code == 7 then kinds.Sender else
    if code == 8 then kinds.Signature else
    if code == 9 then kinds.UnixFds else kinds.Unknown

-- the value, if the test is true
abbrev pub where_is : {A : Type 0} → Bool → A → Option A
where_is true value = Some value
where_is false value = None

-- the path in a value of type `o`
abbrev pub path_in : Val → Option (List ℕ)
path_in (Val.text basics.ObjectPath bytes) = Some bytes
path_in _ = None

-- the text in a value of type `s`
abbrev pub string_in : Val → Option (List ℕ)
string_in (Val.text basics.String bytes) = Some bytes
string_in _ = None

-- the number in a value of type `u`
abbrev pub number_in : Val → Option ℕ
number_in (Val.number basics.Uint32 number) = Some number
number_in _ = None

-- the types that a value of type `g` lists
abbrev pub types_in_value : Val → Option Tys
types_in_value (Val.text basics.Signature bytes) = result_ok (signature_at bytes)
types_in_value _ = None

-- an interface name or an error name
abbrev pub interface_in : Val → Option (List ℕ)
interface_in value = option_and_then (λ bytes. where_is (is_interface_name bytes) bytes) (string_in value)

-- a member name
abbrev pub member_in : Val → Option (List ℕ)
member_in value = option_and_then (λ bytes. where_is (is_member_name bytes) bytes) (string_in value)

-- a reply serial, which isn't 0
abbrev pub serial_in : Val → Option ℕ
serial_in value = option_and_then (λ number. if number == 0 then None else Some number) (number_in value)

-- the value of a field, or None if the field had one before
abbrev pub once : {A : Type 0} → Option A → Option A → Option A
once None value = value
once (Some before) value = None

-- The fields with one more. A known field has the right type and a valid name, path or serial, and occurs once.
abbrev pub with_field : Fields → FieldKind → Val → Option Fields
with_field fields kinds.Invalid value = None
with_field fields kinds.Path value = option_map (λ it. record fields { path = Some it }) (once fields.path (path_in value))
with_field fields kinds.Interface value = option_map (λ it. record fields { interface = Some it }) (once fields.interface (interface_in value))
with_field fields kinds.Member value = option_map (λ it. record fields { member = Some it }) (once fields.member (member_in value))
with_field fields kinds.ErrorName value = option_map (λ it. record fields { error_name = Some it }) (once fields.error_name (interface_in value))
with_field fields kinds.ReplySerial value = option_map (λ it. record fields { reply_serial = Some it }) (once fields.reply_serial (serial_in value))
with_field fields kinds.Destination value = option_map (λ it. record fields { destination = Some it }) (once fields.destination (string_in value))
with_field fields kinds.Sender value = option_map (λ it. record fields { sender = Some it }) (once fields.sender (string_in value))
with_field fields kinds.Signature value = option_map (λ it. record fields { signature = Some it }) (once fields.signature (types_in_value value))
with_field fields kinds.UnixFds value = option_map (λ it. record fields { unix_fds = Some it }) (once fields.unix_fds (number_in value))
with_field fields kinds.Unknown value = Some fields

-- the fields of a struct
abbrev pub parts_in : Val → Option Vals
parts_in (Val.struct parts) = Some parts
parts_in _ = None

-- the number of a value of type `y`
abbrev pub code_in : Val → Option ℕ
code_in (Val.number basics.Byte code) = Some code
code_in _ = None

-- the value inside a variant
abbrev pub held_in : Val → Option Val
held_in (Val.variant value) = Some value
held_in _ = None

-- the only two values, if there are exactly two
abbrev pub two_of : Vals → Option (Val × Val)
two_of (Vals.more first (Vals.more second Vals.end)) = Some (first, second)
two_of _ = None

-- the code and the value of a pair, `yv`
abbrev pub coded_in : Val × Val → Option (ℕ × Val)
coded_in pair = option_and_then (λ code. option_map (λ value. (code, value)) (held_in pair.1)) (code_in pair.0)

-- the two parts of a struct of two
abbrev pub pair_in : Val → Option (Val × Val)
pair_in value = option_and_then two_of (parts_in value)

-- the code and the value of a field, `(yv)`
abbrev pub field_in : Val → Option (ℕ × Val)
field_in field = option_and_then coded_in (pair_in field)

-- the fields with one more, which is given as `(yv)`
abbrev pub with_value : Fields → Val → Option Fields
with_value fields value = option_and_then (λ field. with_field fields (kind_of field.0) field.1) (field_in value)

-- the fields with those in an array, one after the other
abbrev pub with_values : Fields → Vals → Option Fields
with_values fields Vals.end = Some fields
with_values fields (Vals.more value values) = option_and_then (λ next. with_values next values) (with_value fields value)

-- the only value, if there is exactly one
abbrev pub one_of : Vals → Option Val
one_of (Vals.more value Vals.end) = Some value
one_of _ = None

-- the types of a field's code and its value
abbrev pub field_parts : Tys
field_parts = Tys.more (Ty.basic basics.Byte) (Tys.more Ty.variant Tys.end)

-- the type of a field, `(yv)`
abbrev pub field_type : Ty
field_type = Ty.struct field_parts

-- whether the type is that of a field
abbrev pub is_field_type : Ty → Bool
is_field_type (Ty.struct (Tys.more (Ty.basic basics.Byte) (Tys.more Ty.variant Tys.end))) = true
is_field_type _ = false

-- the elements of an array of fields
abbrev pub structs_in : Val → Option Vals
structs_in (Val.array element elements) = where_is (is_field_type element) elements
structs_in _ = None

-- the header whose field array was read as these values
abbrev pub fields_in : Vals → Option Fields
fields_in values = option_and_then (λ array. option_and_then (with_values no_fields) (structs_in array)) (one_of values)

-- Which fields a message of each type must have: a call PATH and MEMBER, a return REPLY_SERIAL, an error ERROR_NAME
-- and REPLY_SERIAL, a signal PATH, INTERFACE and MEMBER.
abbrev pub has_needed : ℕ → Fields → Bool
has_needed kind fields =
    if kind == 1 then is_some fields.path && is_some fields.member else
    if kind == 2 then is_some fields.reply_serial else
    if kind == 3 then is_some fields.error_name && is_some fields.reply_serial else
    if kind == 4 then is_some fields.path && (is_some fields.interface && is_some fields.member) else true
