-- The arguments of the calls that a client makes: Secret Service API draft 0.2, the interfaces' methods, "Attributes" and
-- "Secrets"; for the agent, docs/SERVICE.md, "Interfaces".
use Rattle.std.specs.Prelude.{ℕ, List, [], ◌∷◌, map, Option, Some, None, codes}
use Rattle.kr_base.specs.declared.attributes.AttrValue.{AttrValue}
use Rattle.kr_base.specs.declared.attributes.AttrValue.TheVariants as value
use Rattle.kr_base.specs.declared.ids.PromptId.{PromptId}
use Rattle.kr_base.specs.declared.ids.SessionId.{SessionId}
use Rattle.kr_names.specs.declared.object_name.ObjectName.{ObjectName}
use Rattle.kr_names.specs.declared.object_name.ObjectName.TheVariants as name
use Rattle.kr_names.specs.Path.{path_text}
use Rattle.dbus_types.specs.declared.complete_type.BasicType.TheVariants as basics
use Rattle.dbus_types.specs.Types.{Ty}
use Rattle.dbus_types.specs.Values.{Val, Vals}
use Rattle.dbus_types.specs.ValueViews.{bit_of}
use Rattle.secret_calls.specs.declared.secret.Secret.{Secret}
use Rattle.secret_calls.specs.declared.call.Call.{Call}
use Rattle.secret_calls.specs.declared.call.Call.TheVariants as call
use Rattle.secret_calls.specs.declared.property.Property.TheVariants as property
use Rattle.secret_calls.specs.Outs.{session_path, prompt_path, paths_value, property_text}
use Rattle.call_wire.specs.declared.interfaces.Interface.{Interface}
use Rattle.call_wire.specs.declared.interfaces.Interface.TheVariants as interface
use Rattle.call_wire.specs.Interfaces.{interface_name}
use Rattle.call_wire.specs.Service as service
use Rattle.call_wire.specs.Collection as collection

-- the path of no object
abbrev pub nothing_path : List ℕ
nothing_path = codes "/"

-- a path that isn't one of the service, for an object that isn't one of the service
abbrev pub strange_path : List ℕ
strange_path = codes "/none"

-- a text
abbrev pub text_value : List ℕ → Val
text_value text = Val.text basics.String text

-- a path
abbrev pub path_value : List ℕ → Val
path_value path = Val.text basics.ObjectPath path

-- the path of a session, or that of no object
abbrev pub session_text : Option SessionId → List ℕ
session_text None = nothing_path
session_text (Some session) = session_path session.0

-- the path of a prompt, or that of no object
abbrev pub prompt_text : Option PromptId → List ℕ
prompt_text None = nothing_path
prompt_text (Some prompt) = prompt_path prompt.0

-- the path of an object that is given to an alias
abbrev pub object_text : Option ObjectName → List ℕ
object_text None = strange_path
object_text (Some name) = path_text name

-- the text of an attribute's value; a call has no others
abbrev pub attribute_text : AttrValue → List ℕ
attribute_text (value.Text text) = text
attribute_text (value.Number number) = []

-- attributes, as the entries of a dict
abbrev pub attribute_values : List (List ℕ × AttrValue) → Vals
attribute_values [] = Vals.end
attribute_values (pair ∷ pairs) = Vals.more (Val.entry (text_value pair.0) (text_value (attribute_text pair.1))) (attribute_values pairs)

-- attributes, `a{ss}`
abbrev pub attributes_value : List (List ℕ × AttrValue) → Val
attributes_value attributes = Val.array (Ty.entry basics.String (Ty.basic basics.String)) (attribute_values attributes)

-- a property, `{sv}`
abbrev pub property_value : List ℕ → Val → Val
property_value name held = Val.entry (text_value name) (Val.variant held)

-- the properties of a new collection, `a{sv}`
abbrev pub collection_properties : List ℕ → Val
collection_properties label = Val.array (Ty.entry basics.String Ty.variant) (Vals.more (property_value service.label_name (text_value label)) Vals.end)

-- the properties of a new item, `a{sv}`
abbrev pub item_properties : List ℕ → List (List ℕ × AttrValue) → Val
item_properties label attributes =
    Val.array (Ty.entry basics.String Ty.variant) (Vals.more (property_value collection.label_name (text_value label))
    (Vals.more (property_value collection.attributes_name (attributes_value attributes)) Vals.end))

-- a secret, `(oayays)`: its session's path, no parameters, its value, its content type
abbrev pub given_secret : Secret → Val
given_secret secret =
    Val.struct (Vals.more (path_value (session_text secret.session)) (Vals.more (Val.bytes [])
    (Vals.more (Val.bytes secret.value) (Vals.more (text_value secret.content) Vals.end))))

-- the alias of a new collection, which is empty if it gets none
abbrev pub alias_text : Option (List ℕ) → List ℕ
alias_text None = []
alias_text (Some alias) = alias

-- the interface that has the properties of an object, if it has any
abbrev pub own_interface : ObjectName → Interface
own_interface name.Nothing = interface.Peer
own_interface name.Service = interface.Service
own_interface name.Agent = interface.Agent
own_interface (name.Collection stem) = interface.Collection
own_interface (name.Alias alias) = interface.Collection
own_interface (name.Item stem item) = interface.Item
own_interface (name.Session session) = interface.Session
own_interface (name.Prompt prompt) = interface.Prompt

-- a value that a property is set to, after the names of its interface and of itself
abbrev pub set_values : List ℕ → List ℕ → Val → Vals
set_values interface name held = Vals.more (text_value interface) (Vals.more (text_value name) (Vals.more (Val.variant held) Vals.end))

-- the first path, or that of no object
abbrev pub first_path : List (List ℕ) → List ℕ
first_path [] = nothing_path
first_path (path ∷ paths) = path

-- the paths of the objects among a call's arguments
abbrev pub paths_among : Call → List (List ℕ)
paths_among (call.Unlock objects) = map path_text objects
paths_among (call.Lock objects) = map path_text objects
paths_among (call.GetSecrets items session) = map path_text items
paths_among (call.SetAlias alias object) = object_text object ∷ []
paths_among call = []

-- the arguments of a call, given these paths of the objects among them
abbrev pub arguments_with : Call → List (List ℕ) → Vals
arguments_with (call.OpenSession algorithm) paths = Vals.more (text_value algorithm) (Vals.more (Val.variant (text_value [])) Vals.end)
arguments_with (call.CreateCollection label alias) paths = Vals.more (collection_properties label) (Vals.more (text_value (alias_text alias)) Vals.end)
arguments_with (call.SearchItems wanted) paths = Vals.more (attributes_value wanted) Vals.end
arguments_with (call.Unlock objects) paths = Vals.more (paths_value paths) Vals.end
arguments_with (call.Lock objects) paths = Vals.more (paths_value paths) Vals.end
arguments_with (call.GetSecrets items session) paths = Vals.more (paths_value paths) (Vals.more (path_value (session_text session)) Vals.end)
arguments_with (call.ReadAlias name) paths = Vals.more (text_value name) Vals.end
arguments_with (call.SetAlias alias object) paths = Vals.more (text_value alias) (Vals.more (path_value (first_path paths)) Vals.end)
arguments_with (call.SearchCollection collection wanted) paths = Vals.more (attributes_value wanted) Vals.end
arguments_with (call.CreateItem collection label attributes secret replace) paths =
    Vals.more (item_properties label attributes) (Vals.more (given_secret secret) (Vals.more (Val.number basics.Boolean (bit_of replace)) Vals.end))
arguments_with (call.GetSecret stem item session) paths = Vals.more (path_value (session_text session)) Vals.end
arguments_with (call.SetSecret stem item secret) paths = Vals.more (given_secret secret) Vals.end
arguments_with (call.Get object property) paths =
    Vals.more (text_value (interface_name (own_interface object))) (Vals.more (text_value (property_text property)) Vals.end)
arguments_with (call.GetAll object properties) paths = Vals.more (text_value (interface_name (own_interface object))) Vals.end
arguments_with (call.SetCollectionLabel collection label) paths =
    set_values (interface_name interface.Collection) (property_text property.Label) (text_value label)
arguments_with (call.SetItemLabel stem item label) paths =
    set_values (interface_name interface.Item) (property_text property.Label) (text_value label)
arguments_with (call.SetAttributes stem item attributes) paths =
    set_values (interface_name interface.Item) (property_text property.Attributes) (attributes_value attributes)
arguments_with (call.Prompt prompt) paths = Vals.more (text_value []) Vals.end
arguments_with (call.Answer prompt round password) paths =
    Vals.more (path_value (prompt_text prompt)) (Vals.more (Val.number basics.Uint64 round) (Vals.more (Val.bytes password) Vals.end))
arguments_with (call.Refuse prompt round) paths = Vals.more (path_value (prompt_text prompt)) (Vals.more (Val.number basics.Uint64 round) Vals.end)
arguments_with call paths = Vals.end

-- the arguments of a call
abbrev pub arguments_of : Call → Vals
arguments_of call = arguments_with call (paths_among call)
