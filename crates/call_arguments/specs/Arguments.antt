-- How the arguments of calls are read: what their values contain (D-Bus Specification, "Type System"), and what that means to the
-- service (Secret Service API draft 0.2, "Attributes" and "Secrets"). Each reading is None if a value isn't of the expected type.
use Rattle.std.specs.Prelude.{ℕ, ◌==◌, not, ◌&&◌, Bool, true, false, List, [], ◌∷◌, map, Option, Some, None, Result, Err, option_map, option_and_then, unwrap_or}
use Rattle.std.specs.Option.{option_or}
use Rattle.std.specs.Str.{bytes_eq}
use Rattle.kr_base.specs.declared.ids.PromptId.{PromptId}
use Rattle.kr_base.specs.declared.ids.SessionId.{SessionId}
use Rattle.kr_base.specs.declared.attributes.AttrValue.{AttrValue}
use Rattle.kr_base.specs.declared.attributes.AttrValue.TheVariants as value
use Rattle.kr_base.specs.Attributes.{gathered}
use Rattle.kr_names.specs.declared.object_name.ObjectName.{ObjectName}
use Rattle.kr_names.specs.declared.object_name.ObjectName.TheVariants as name
use Rattle.kr_names.specs.Naming.{is_alias, name_of_path}
use Rattle.dbus_types.specs.declared.complete_type.BasicType.{BasicType}
use Rattle.dbus_types.specs.declared.complete_type.BasicType.TheVariants as basics
use Rattle.dbus_types.specs.Known.{is_variant}
use Rattle.dbus_types.specs.Types.{Ty}
use Rattle.dbus_types.specs.Values.{Val, Vals}
use Rattle.dbus_framing.specs.Headers.{where_is, path_in, string_in, held_in, parts_in}
use Rattle.secret_calls.specs.declared.secret.Secret.{Secret}
use Rattle.secret_calls.specs.declared.call.Call.{Call}
use Rattle.secret_calls.specs.declared.call.CallFault.{CallFault}
use Rattle.secret_calls.specs.declared.call.CallFault.TheVariants as fault
use Rattle.call_arguments.specs.declared.values.ElementType.{ElementType}
use Rattle.call_arguments.specs.declared.values.ElementType.TheVariants as element

-- the call of a method without arguments, if there is no value
abbrev pub without_arguments : Result Call CallFault → Vals → Result Call CallFault
without_arguments call Vals.end = call
without_arguments call (Vals.more value values) = Err fault.InvalidArgs

-- ---- what values contain

-- whether a value of type `b` is true
abbrev pub truth_in : Val → Option Bool
truth_in (Val.number basics.Boolean bit) = Some (not (bit == 0))
truth_in _ = None

-- the number in a value of type `t`
abbrev pub long_in : Val → Option ℕ
long_in (Val.number basics.Uint64 number) = Some number
long_in _ = None

-- the number in a value of type `u`
abbrev pub word_in : Val → Option ℕ
word_in (Val.number basics.Uint32 number) = Some number
word_in _ = None

-- the bytes in a value of type `ay`
abbrev pub bytes_in : Val → Option (List ℕ)
bytes_in (Val.bytes bytes) = Some bytes
bytes_in _ = None

-- the key and the value of an entry
abbrev pub entry_in : Val → Option (Val × Val)
entry_in (Val.entry key held) = Some (key, held)
entry_in _ = None

-- the values, if there are exactly three
abbrev pub three_of : Vals → Option (Val × Val × Val)
three_of (Vals.more first (Vals.more second (Vals.more third Vals.end))) = Some (first, second, third)
three_of _ = None

-- the values, if there are exactly four
abbrev pub four_of : Vals → Option (Val × Val × Val × Val)
four_of (Vals.more first (Vals.more second (Vals.more third (Vals.more fourth Vals.end)))) = Some (first, second, third, fourth)
four_of _ = None

-- the values, if there are exactly five
abbrev pub five_of : Vals → Option (Val × Val × Val × Val × Val)
five_of (Vals.more first (Vals.more second (Vals.more third (Vals.more fourth (Vals.more fifth Vals.end))))) = Some (first, second, third, fourth, fifth)
five_of _ = None

-- the type of elements of this kind: `o`, `s`, `{ss}` or `{sv}`
abbrev pub type_of_element : ElementType → Ty
type_of_element element.Path = Ty.basic basics.ObjectPath
type_of_element element.Text = Ty.basic basics.String
type_of_element element.TextPair = Ty.entry basics.String (Ty.basic basics.String)
type_of_element element.Property = Ty.entry basics.String Ty.variant

-- whether a basic type is `s`
abbrev pub is_string : BasicType → Bool
is_string basics.String = true
is_string other = false

-- whether a type is `o`
abbrev pub is_path_type : Ty → Bool
is_path_type (Ty.basic basics.ObjectPath) = true
is_path_type other = false

-- whether a type is `s`
abbrev pub is_text_type : Ty → Bool
is_text_type (Ty.basic basic) = is_string basic
is_text_type other = false

-- whether a type is `{ss}`
abbrev pub is_text_pair : Ty → Bool
is_text_pair (Ty.entry key held) = is_string key && is_text_type held
is_text_pair other = false

-- whether a type is `{sv}`
abbrev pub is_property : Ty → Bool
is_property (Ty.entry key held) = is_string key && is_variant held
is_property other = false

-- whether a type is that of elements of this kind
abbrev pub is_element : ElementType → Ty → Bool
is_element element.Path t = is_path_type t
is_element element.Text t = is_text_type t
is_element element.TextPair t = is_text_pair t
is_element element.Property t = is_property t

-- the elements of an array, if they are of this kind
abbrev pub elements_in : ElementType → Val → Option Vals
elements_in wanted (Val.array t elements) = where_is (is_element wanted t) elements
elements_in wanted _ = None

-- what the values are read as, if each of them can be read
abbrev pub all_in : {A : Type 0} → (Val → Option A) → Vals → Option (List A)
all_in read Vals.end = Some []
all_in read (Vals.more value values) = option_and_then (λ one. option_map (λ more. one ∷ more) (all_in read values)) (read value)

-- ---- objects, sessions and prompts

-- The object that a path names, whether or not it exists. A path of another form names nothing (docs/SERVICE.md, "Names and
-- paths").
abbrev pub named : List ℕ → ObjectName
named path = unwrap_or (name_of_path path) name.Nothing

-- the object that a value of type `o` names
abbrev pub object_in : Val → Option ObjectName
object_in value = option_map named (path_in value)

-- the objects that an array of paths names, in order
abbrev pub objects_in : Val → Option (List ObjectName)
objects_in value = option_and_then (all_in object_in) (elements_in element.Path value)

-- the session that a path names, if it names one
abbrev pub session_of_name : Option ObjectName → Option SessionId
session_of_name (Some (name.Session session)) = Some session
session_of_name _ = None

-- the session that has this path
abbrev pub session_named : List ℕ → Option SessionId
session_named path = session_of_name (name_of_path path)

-- the session that a value of type `o` names; Some None if the path isn't a session's
abbrev pub session_in : Val → Option (Option SessionId)
session_in value = option_map session_named (path_in value)

-- the prompt that a name is that of, if it is a prompt's
abbrev pub prompt_of_name : Option ObjectName → Option PromptId
prompt_of_name (Some (name.Prompt prompt)) = Some prompt
prompt_of_name _ = None

-- the prompt that has this path
abbrev pub prompt_named : List ℕ → Option PromptId
prompt_named path = prompt_of_name (name_of_path path)

-- the prompt that a value of type `o` names; Some None if the path isn't a prompt's
abbrev pub prompt_in : Val → Option (Option PromptId)
prompt_in value = option_map prompt_named (path_in value)

-- The name that a value of type `o` is the path of; Some None if it isn't a path of the service. Unlike in a list of objects,
-- `/` and such a path are distinguished.
abbrev pub name_in : Val → Option (Option ObjectName)
name_in value = option_map name_of_path (path_in value)

-- ---- aliases

-- the text as the name of an alias that is to be set
abbrev pub alias_named : List ℕ → Option (List ℕ)
alias_named text = where_is (is_alias text) text

-- the name of an alias in a value of type `s`
abbrev pub alias_in : Val → Option (List ℕ)
alias_in value = option_and_then alias_named (string_in value)

-- the same, or Some None for the empty text, which is no alias
abbrev pub wanted_alias : List ℕ → Option (Option (List ℕ))
wanted_alias [] = Some None
wanted_alias (code ∷ codes) = option_map Some (alias_named (code ∷ codes))

-- the same in a value of type `s`
abbrev pub wanted_alias_in : Val → Option (Option (List ℕ))
wanted_alias_in value = option_and_then wanted_alias (string_in value)

-- ---- attributes, `a{ss}`

-- the texts of an entry `{ss}`
abbrev pub texts_of_pair : Val × Val → Option (List ℕ × List ℕ)
texts_of_pair pair = option_and_then (λ key. option_map (λ text. (key, text)) (string_in pair.1)) (string_in pair.0)

-- the texts of a value `{ss}`
abbrev pub text_pair_in : Val → Option (List ℕ × List ℕ)
text_pair_in value = option_and_then texts_of_pair (entry_in value)

-- the attributes given as pairs of texts; of two with one name the later counts
abbrev pub attributes_of : List (List ℕ × List ℕ) → List (List ℕ × AttrValue)
attributes_of pairs = gathered (map (λ p. (p.0, value.Text p.1)) pairs)

-- the attributes given as entries `{ss}`
abbrev pub attributes_among : Vals → Option (List (List ℕ × AttrValue))
attributes_among elements = option_map attributes_of (all_in text_pair_in elements)

-- the attributes in a value of type `a{ss}`
abbrev pub attributes_in : Val → Option (List (List ℕ × AttrValue))
attributes_in value = option_and_then attributes_among (elements_in element.TextPair value)

-- ---- properties, `a{sv}`

-- the value of an entry of a dict, if its key is this name
abbrev pub value_for : List ℕ → Val × Val → Option Val
value_for wanted pair = option_and_then (λ key. option_and_then (λ held. where_is (bytes_eq key wanted) held) (held_in pair.1)) (string_in pair.0)

-- the same for a value `{sv}`
abbrev pub value_named : List ℕ → Val → Option Val
value_named wanted value = option_and_then (value_for wanted) (entry_in value)

-- the value of the property with this name; of two entries with one key the later counts
abbrev pub property : List ℕ → Vals → Option Val
property wanted Vals.end = None
property wanted (Vals.more first rest) = option_or (property wanted rest) (value_named wanted first)

-- the label in the value of a property, which is empty if the property is missing
abbrev pub label_in : Option Val → Option (List ℕ)
label_in None = Some []
label_in (Some value) = string_in value

-- ---- secrets, `(oayays)`

-- the session's path, the value and the content type; the parameters are dropped
abbrev pub kept_parts : Val × Val × Val × Val → Option (List ℕ × List ℕ × List ℕ)
kept_parts fields =
    option_and_then (λ path. option_and_then (λ parameters. option_and_then (λ bytes. option_map (λ content. (path, bytes, content))
    (string_in fields.3)) (bytes_in fields.2)) (bytes_in fields.1)) (path_in fields.0)

-- the same for a struct
abbrev pub secret_parts_in : Val → Option (List ℕ × List ℕ × List ℕ)
secret_parts_in value = option_and_then kept_parts (option_and_then four_of (parts_in value))

-- the secret with these parts
abbrev pub secret_of : List ℕ × List ℕ × List ℕ → Secret
secret_of parts = record { session = session_named parts.0; value = parts.1; content = parts.2 }

-- the secret in a value of type `(oayays)`
abbrev pub secret_in : Val → Option Secret
secret_in value = option_map secret_of (secret_parts_in value)
