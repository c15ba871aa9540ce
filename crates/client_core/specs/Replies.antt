-- How what the service sends is read as the answer to a call: D-Bus Specification, "Message Format"; Secret Service API draft
-- 0.2, the interfaces' methods. It is the way back from `Rattle.secret_calls.specs.Outs.sent`.
use Rattle.std.specs.Prelude.{ℕ, ◌==◌, ◌&&◌, Bool, true, false, List, [], ◌∷◌, ◌<◌, Option, Some, None, IfSome, Result, Err, codes, ok_or, option_map, option_and_then, if◌then◌else◌}
use Rattle.std.specs.List.{AllByRecursion, find}
use Rattle.std.specs.Option.{option_or}
use Rattle.std.specs.Str.{bytes_eq}
use Rattle.kr_base.specs.declared.ids.PromptId.{PromptId}
use Rattle.kr_base.specs.declared.ids.SessionId.{SessionId}
use Rattle.dbus_types.specs.declared.complete_type.BasicType.{BasicType}
use Rattle.dbus_types.specs.declared.complete_type.BasicType.TheVariants as basics
use Rattle.dbus_types.specs.Types.{Ty, Tys}
use Rattle.dbus_types.specs.Values.{Val, Vals}
use Rattle.dbus_framing.specs.Headers.{where_is, path_in, string_in, held_in, parts_in, one_of, two_of}
use Rattle.dbus_framing.specs.Messages.{Parts}
use Rattle.secret_calls.specs.declared.secret.ReturnedSecret.{ReturnedSecret}
use Rattle.secret_calls.specs.declared.secret.ItemSecret.{ItemSecret}
use Rattle.secret_calls.specs.declared.call.Call.{Call}
use Rattle.secret_calls.specs.declared.call.Call.TheVariants as call
use Rattle.secret_calls.specs.declared.out.Body.{Body}
use Rattle.secret_calls.specs.declared.out.Body.TheVariants as body
use Rattle.secret_calls.specs.declared.property.Attribute.{Attribute}
use Rattle.secret_calls.specs.declared.property.Property.{Property}
use Rattle.secret_calls.specs.declared.property.Property.TheVariants as property
use Rattle.secret_calls.specs.declared.property.PropertyValue.{PropertyValue}
use Rattle.secret_calls.specs.declared.property.PropertyValue.TheVariants as shown
use Rattle.secret_calls.specs.declared.property.ShownProperty.{ShownProperty}
use Rattle.secret_calls.specs.Outs.{secret_type, property_text}
use Rattle.call_arguments.specs.declared.values.ElementType.TheVariants as element
use Rattle.call_arguments.specs.Arguments.{bytes_in, four_of, elements_in, all_in, entry_in, truth_in, long_in, text_pair_in, session_named, prompt_named, is_path_type, is_text_type}
use Rattle.client_core.specs.declared.reply.Shape.{Shape}
use Rattle.client_core.specs.declared.reply.Shape.TheVariants as shape
use Rattle.client_core.specs.declared.reply.Reply.{Reply}
use Rattle.client_core.specs.declared.reply.Reply.TheVariants as reply
use Rattle.client_core.specs.declared.reply.ReplyFault.{ReplyFault}
use Rattle.client_core.specs.declared.reply.ReplyFault.TheVariants as fault

-- ---- what a call returns

-- the shape of what a call returns
abbrev pub shape_of : Call → Shape
shape_of (call.OpenSession algorithm) = shape.Session
shape_of (call.CreateCollection label alias) = shape.ObjectAndPrompt
shape_of (call.SearchItems wanted) = shape.Found
shape_of (call.Unlock objects) = shape.ObjectsAndPrompt
shape_of (call.Lock objects) = shape.ObjectsAndPrompt
shape_of (call.GetSecrets items session) = shape.Secrets
shape_of (call.ReadAlias name) = shape.Object
shape_of (call.SearchCollection collection wanted) = shape.Objects
shape_of (call.CreateItem collection label attributes secret replace) = shape.ObjectAndPrompt
shape_of (call.DeleteCollection collection) = shape.Object
shape_of (call.ChangePassword collection) = shape.Object
shape_of (call.DeleteItem stem item) = shape.Object
shape_of (call.GetSecret stem item session) = shape.Secret
shape_of (call.Get object property) = shape.Property
shape_of (call.GetAll object properties) = shape.Properties
shape_of _ = shape.Empty

-- the shape of a body
abbrev pub shape_in : Body → Shape
shape_in body.Empty = shape.Empty
shape_in (body.Session session) = shape.Session
shape_in (body.Found unlocked locked) = shape.Found
shape_in (body.ObjectsAndPrompt objects prompt) = shape.ObjectsAndPrompt
shape_in (body.Objects objects) = shape.Objects
shape_in (body.ObjectAndPrompt object prompt) = shape.ObjectAndPrompt
shape_in (body.Object object) = shape.Object
shape_in (body.Secret secret) = shape.Secret
shape_in (body.Secrets secrets) = shape.Secrets
shape_in (body.Property value) = shape.Property
shape_in (body.Properties properties) = shape.Properties

-- ---- what values contain

-- the session that a value of type `o` is the path of
abbrev pub session_at : Val → Option SessionId
session_at value = option_and_then session_named (path_in value)

-- the prompt with this path, or that no prompt is needed, if the path is `/`
abbrev pub prompt_of : List ℕ → Option (Option PromptId)
prompt_of path = if bytes_eq path (codes "/") then Some None else option_map Some (prompt_named path)

-- the same for a value of type `o`
abbrev pub prompt_at : Val → Option (Option PromptId)
prompt_at value = option_and_then prompt_of (path_in value)

-- the paths in a value of type `ao`
abbrev pub paths_in : Val → Option (List (List ℕ))
paths_in value = option_and_then (all_in path_in) (elements_in element.Path value)

-- the text of a variant
abbrev pub text_held : Val → Option (List ℕ)
text_held value = option_and_then string_in (held_in value)

-- the path of the session, the parameters, the value and the content type in the four fields of a secret
abbrev pub secret_parts : Val × Val × Val × Val → Option (List ℕ × List ℕ × List ℕ × List ℕ)
secret_parts fields =
    option_and_then (λ path. option_and_then (λ parameters. option_and_then (λ value. option_map (λ content. (path, parameters, value, content))
    (string_in fields.3)) (bytes_in fields.2)) (bytes_in fields.1)) (path_in fields.0)

-- the secret with these parts: `plain` has no parameters
abbrev pub secret_from : List ℕ × List ℕ × List ℕ × List ℕ → Option ReturnedSecret
secret_from parts =
    option_and_then (λ session. where_is (bytes_eq parts.1 []) (record { session = session; value = parts.2; content = parts.3 })) (session_named parts.0)

-- the secret in a value of type `(oayays)`
abbrev pub secret_at : Val → Option ReturnedSecret
secret_at value = option_and_then secret_from (option_and_then secret_parts (option_and_then four_of (parts_in value)))

-- ---- bodies

-- OpenSession returns the output of `plain`, which is the empty text, and the session
abbrev pub session_body : Vals → Option Body
session_body values = option_and_then (λ two. option_and_then (λ output. option_and_then (λ session. where_is (bytes_eq output []) (body.Session session)) (session_at two.1)) (text_held two.0)) (two_of values)

-- SearchItems of the service returns the items in unlocked collections, and those in locked ones
abbrev pub found_body : Vals → Option Body
found_body values = option_and_then (λ two. option_and_then (λ unlocked. option_map (λ locked. body.Found unlocked locked) (paths_in two.1)) (paths_in two.0)) (two_of values)

-- Lock and Unlock return objects and a prompt
abbrev pub objects_and_prompt_body : Vals → Option Body
objects_and_prompt_body values = option_and_then (λ two. option_and_then (λ objects. option_map (λ prompt. body.ObjectsAndPrompt objects prompt) (prompt_at two.1)) (paths_in two.0)) (two_of values)

-- SearchItems of a collection returns items
abbrev pub objects_body : Vals → Option Body
objects_body values = option_map (λ objects. body.Objects objects) (option_and_then paths_in (one_of values))

-- CreateItem and CreateCollection return an object and a prompt
abbrev pub object_and_prompt_body : Vals → Option Body
object_and_prompt_body values = option_and_then (λ two. option_and_then (λ object. option_map (λ prompt. body.ObjectAndPrompt object prompt) (prompt_at two.1)) (path_in two.0)) (two_of values)

-- ReadAlias returns a collection, and Delete a prompt, as a path
abbrev pub object_body : Vals → Option Body
object_body values = option_map (λ object. body.Object object) (option_and_then path_in (one_of values))

-- GetSecret returns a secret
abbrev pub secret_body : Vals → Option Body
secret_body values = option_map (λ secret. body.Secret secret) (option_and_then secret_at (one_of values))

-- the other methods return nothing
abbrev pub empty_body : Vals → Option Body
empty_body Vals.end = Some body.Empty
empty_body (Vals.more value values) = None

-- ---- items with their secrets

-- whether a type is `y`
abbrev pub is_byte_type : Ty → Bool
is_byte_type (Ty.basic basics.Byte) = true
is_byte_type other = false

-- whether a type is `ay`
abbrev pub is_bytes_type : Ty → Bool
is_bytes_type (Ty.array t) = is_byte_type t
is_bytes_type other = false

-- the types, if there are exactly four
abbrev pub four_types : Tys → Option (Ty × Ty × Ty × Ty)
four_types (Tys.more first (Tys.more second (Tys.more third (Tys.more fourth Tys.end)))) = Some (first, second, third, fourth)
four_types _ = None

-- whether there are four types, and these are `o`, `ay`, `ay` and `s`
abbrev pub are_parts : Option (Ty × Ty × Ty × Ty) → Bool
are_parts None = false
are_parts (Some four) = is_path_type four.0 && (is_bytes_type four.1 && (is_bytes_type four.2 && is_text_type four.3))

-- whether types are `oayays`
abbrev pub are_secret_types : Tys → Bool
are_secret_types types = are_parts (four_types types)

-- whether a type is `(oayays)`
abbrev pub is_secret_type : Ty → Bool
is_secret_type (Ty.struct types) = are_secret_types types
is_secret_type other = false

-- whether a basic type is `o`
abbrev pub is_path : BasicType → Bool
is_path basics.ObjectPath = true
is_path other = false

-- whether a type is `{o(oayays)}`
abbrev pub is_secret_entry : Ty → Bool
is_secret_entry (Ty.entry key held) = is_path key && is_secret_type held
is_secret_entry other = false

-- the types of a secret's fields
abbrev pub secret_types : Tys
secret_types =
    Tys.more (Ty.basic basics.ObjectPath) (Tys.more (Ty.array (Ty.basic basics.Byte))
    (Tys.more (Ty.array (Ty.basic basics.Byte)) (Tys.more (Ty.basic basics.String) Tys.end)))

-- the type of an item with its secret
abbrev pub secret_entry : Ty
secret_entry = Ty.entry basics.ObjectPath secret_type

-- the entries of a value of type `a{o(oayays)}`
abbrev pub secret_entries : Val → Option Vals
secret_entries (Val.array t elements) = where_is (is_secret_entry t) elements
secret_entries _ = None

-- the item and the secret of this key and this value
abbrev pub item_secret_of : Val × Val → Option ItemSecret
item_secret_of pair = option_and_then (λ item. option_map (λ secret. record { item = item; secret = secret }) (secret_at pair.1)) (path_in pair.0)

-- the item and the secret in an entry
abbrev pub item_secret_at : Val → Option ItemSecret
item_secret_at value = option_and_then item_secret_of (entry_in value)

-- the items and the secrets in a value of type `a{o(oayays)}`
abbrev pub item_secrets_in : Val → Option (List ItemSecret)
item_secrets_in value = option_and_then (all_in item_secret_at) (secret_entries value)

-- GetSecrets returns items with their secrets
abbrev pub secrets_body : Vals → Option Body
secrets_body values = option_map (λ secrets. body.Secrets secrets) (option_and_then item_secrets_in (one_of values))

-- ---- properties

-- the properties
abbrev pub all_properties : List Property
all_properties =
    property.Collections ∷ property.Items ∷ property.Label ∷ property.Attributes ∷ property.Locked ∷ property.Created ∷ property.Modified ∷ []

-- whether a property has this name
abbrev pub is_called : List ℕ → Property → Bool
is_called name it = bytes_eq name (property_text it)

-- the property of this name
abbrev pub property_named : List ℕ → Option Property
property_named name = find (is_called name) all_properties

-- an attribute, as an entry of a dict of texts
abbrev pub attribute_in : Val → Option Attribute
attribute_in value = option_map (λ pair. record { name = pair.0; value = pair.1 }) (text_pair_in value)

-- the attributes in a value of type `a{ss}`
abbrev pub attributes_in : Val → Option (List Attribute)
attributes_in value = option_and_then (all_in attribute_in) (elements_in element.TextPair value)

-- the value of a property, by its type
abbrev pub shown_in : Val → Option PropertyValue
shown_in value =
    option_or (option_map (λ text. shown.Text text) (string_in value)) (option_or (option_map (λ truth. shown.Truth truth) (truth_in value))
    (option_or (option_map (λ seconds. shown.Moment seconds) (long_in value)) (option_or (option_map (λ objects. shown.Objects objects) (paths_in value))
    (option_map (λ attributes. shown.Attributes attributes) (attributes_in value)))))

-- the same in a variant
abbrev pub shown_held : Val → Option PropertyValue
shown_held value = option_and_then shown_in (held_in value)

-- the property of this name and of this value
abbrev pub property_of : Val × Val → Option ShownProperty
property_of pair =
    option_and_then (λ it. option_map (λ value. record { property = it; value = value }) (shown_held pair.1)) (option_and_then property_named (string_in pair.0))

-- the property and its value in an entry
abbrev pub property_at : Val → Option ShownProperty
property_at value = option_and_then property_of (entry_in value)

-- the properties in a value of type `a{sv}`
abbrev pub properties_in : Val → Option (List ShownProperty)
properties_in value = option_and_then (all_in property_at) (elements_in element.Property value)

-- Get returns the value of a property
abbrev pub property_body : Vals → Option Body
property_body values = option_map (λ value. body.Property value) (option_and_then shown_held (one_of values))

-- GetAll returns properties with their values
abbrev pub properties_body : Vals → Option Body
properties_body values = option_map (λ properties. body.Properties properties) (option_and_then properties_in (one_of values))

-- ---- replies

-- the body of this shape that the values are
abbrev pub body_in : Shape → Vals → Option Body
body_in shape.Empty = empty_body
body_in shape.Session = session_body
body_in shape.Found = found_body
body_in shape.ObjectsAndPrompt = objects_and_prompt_body
body_in shape.Objects = objects_body
body_in shape.ObjectAndPrompt = object_and_prompt_body
body_in shape.Object = object_body
body_in shape.Secret = secret_body
body_in shape.Secrets = secrets_body
body_in shape.Property = property_body
body_in shape.Properties = properties_body

-- the message answers the call with this serial
abbrev pub answers : ℕ → Option ℕ → Bool
answers serial None = false
answers serial (Some number) = number == serial

-- what a METHOD_RETURN is read as
abbrev pub returned : Option Body → Result Reply ReplyFault
returned body = ok_or (option_map (λ it. reply.Return it) body) fault.WrongShape

-- what an ERROR is read as
abbrev pub failed : Option (List ℕ) → Result Reply ReplyFault
failed name = ok_or (option_map (λ it. reply.Error it) name) fault.NotAReply

-- What a message is read as that may answer a call that returns this shape and was sent with this serial: a return with a body of
-- that shape, or an error with its name.
abbrev pub reply_in : Shape → ℕ → Parts → Result Reply ReplyFault
reply_in shape serial parts =
    if answers serial parts.reply_serial
    then (if parts.kind == 2 then returned (body_in shape parts.body) else if parts.kind == 3 then failed parts.error_name else Err fault.NotAReply)
    else Err fault.NotAReply

-- ---- what the service sends

-- The body's session and its prompt have numbers other than 0: only these have paths (docs/SERVICE.md, "Names and paths").
abbrev pub HasNumbers : Body → Type 0
HasNumbers (body.Session session) = 0 < session.0
HasNumbers (body.ObjectsAndPrompt objects prompt) = IfSome prompt (λ it. 0 < it.0)
HasNumbers (body.ObjectAndPrompt object prompt) = IfSome prompt (λ it. 0 < it.0)
HasNumbers (body.Secret secret) = 0 < secret.session.0
HasNumbers (body.Secrets secrets) = AllByRecursion (λ (one : ItemSecret). 0 < one.secret.session.0) secrets
HasNumbers _ = Unit {0}
