-- What the service sends, and how it is spelled: D-Bus Specification, "Message Format"; Secret Service API draft
-- 0.2, the interfaces' methods and errors.
use Rattle.std.specs.Prelude.{ℕ, ◌^◌, ◌<◌, ◌≤◌, nat_le, IsTrue, List, [], ◌∷◌, ◌++◌, length, Option, Some, None, IfSome, codes, decimal, if◌then◌else◌}
use Rattle.kr_base.specs.declared.ids.PromptId.{PromptId}
use Rattle.kr_base.specs.Text.{IsText}
use Rattle.secret_calls.specs.declared.changed.ChangedObject.{ChangedObject}
use Rattle.secret_calls.specs.declared.changed.ChangedObject.TheVariants as changed
use Rattle.secret_calls.specs.declared.property.Attribute.{Attribute}
use Rattle.secret_calls.specs.declared.property.Property.{Property}
use Rattle.secret_calls.specs.declared.property.Property.TheVariants as property
use Rattle.secret_calls.specs.declared.property.PropertyValue.{PropertyValue}
use Rattle.secret_calls.specs.declared.property.PropertyValue.TheVariants as shown
use Rattle.secret_calls.specs.declared.property.ShownProperty.{ShownProperty}
use Rattle.secret_calls.specs.declared.secret.ReturnedSecret.{ReturnedSecret}
use Rattle.secret_calls.specs.declared.secret.ItemSecret.{ItemSecret}
use Rattle.secret_calls.specs.declared.out.Body.{Body}
use Rattle.secret_calls.specs.declared.out.Body.TheVariants as body
use Rattle.secret_calls.specs.declared.out.ErrorName.{ErrorName}
use Rattle.secret_calls.specs.declared.out.ErrorName.TheVariants as name
use Rattle.secret_calls.specs.declared.out.Out.{Out}
use Rattle.secret_calls.specs.declared.out.Out.TheVariants as out
use Rattle.secret_calls.specs.declared.signal.AskKind.{AskKind}
use Rattle.secret_calls.specs.declared.signal.AskKind.TheVariants as kind
use Rattle.secret_calls.specs.declared.signal.Completion.{Completion}
use Rattle.secret_calls.specs.declared.signal.Completion.TheVariants as completion
use Rattle.secret_calls.specs.declared.signal.Signal.{Signal}
use Rattle.secret_calls.specs.declared.signal.Signal.TheVariants as signal
use Rattle.dbus_types.specs.declared.complete_type.BasicType.TheVariants as basics
use Rattle.dbus_types.specs.declared.endian.Endian.TheVariants.{Little}
use Rattle.dbus_types.specs.Paths.{is_object_path}
use Rattle.dbus_types.specs.Types.{Ty, Tys}
use Rattle.dbus_types.specs.Values.{Val, Vals}
use Rattle.dbus_types.specs.ValueViews.{bit_of}
use Rattle.dbus_marshal.specs.Limits.{array_limit}
use Rattle.dbus_marshal.specs.Wire.{AreBytes}
use Rattle.dbus_marshal.specs.Spelling.{all_spelled}
use Rattle.dbus_sending.specs.Sent.{SentHeader, Sent, bare_header, spelled_message}

-- an error's name
abbrev pub error_text : ErrorName → List ℕ
error_text name.NotSupported = codes "org.freedesktop.DBus.Error.NotSupported"
error_text name.UnknownObject = codes "org.freedesktop.DBus.Error.UnknownObject"
error_text name.UnknownInterface = codes "org.freedesktop.DBus.Error.UnknownInterface"
error_text name.UnknownMethod = codes "org.freedesktop.DBus.Error.UnknownMethod"
error_text name.UnknownProperty = codes "org.freedesktop.DBus.Error.UnknownProperty"
error_text name.PropertyReadOnly = codes "org.freedesktop.DBus.Error.PropertyReadOnly"
error_text name.InvalidArgs = codes "org.freedesktop.DBus.Error.InvalidArgs"
error_text name.LimitsExceeded = codes "org.freedesktop.DBus.Error.LimitsExceeded"
error_text name.IOError = codes "org.freedesktop.DBus.Error.IOError"
error_text name.AccessDenied = codes "org.freedesktop.DBus.Error.AccessDenied"
error_text name.IsLocked = codes "org.freedesktop.Secret.Error.IsLocked"
error_text name.NoSession = codes "org.freedesktop.Secret.Error.NoSession"
error_text name.NoSuchObject = codes "org.freedesktop.Secret.Error.NoSuchObject"
error_text name.AgentTaken = codes "org.keyringd.Error.AgentTaken"
error_text name.OldRound = codes "org.keyringd.Error.OldRound"

-- the object path of the session with this number
abbrev pub session_path : ℕ → List ℕ
session_path number = codes "/org/freedesktop/secrets/session/s" ++ decimal number

-- the object path of the prompt with this number
abbrev pub prompt_path : ℕ → List ℕ
prompt_path number = codes "/org/freedesktop/secrets/prompt/p" ++ decimal number

-- the path that a call returns for its prompt: that of no object if none is needed
abbrev pub prompt_text : Option PromptId → List ℕ
prompt_text None = codes "/"
prompt_text (Some prompt) = prompt_path prompt.0

-- the same as a value
abbrev pub prompt_value : Option PromptId → Val
prompt_value prompt = Val.text basics.ObjectPath (prompt_text prompt)

-- paths, as the elements of an array
abbrev pub path_values : List (List ℕ) → Vals
path_values [] = Vals.end
path_values (path ∷ paths) = Vals.more (Val.text basics.ObjectPath path) (path_values paths)

-- an array of paths
abbrev pub paths_value : List (List ℕ) → Val
paths_value paths = Val.array (Ty.basic basics.ObjectPath) (path_values paths)

-- A secret, `(oayays)` (Secret Service API, "Secrets"): its session's path, no parameters, its value, its content type.
abbrev pub secret_value : ReturnedSecret → Val
secret_value secret =
    Val.struct (Vals.more (Val.text basics.ObjectPath (session_path secret.session.0)) (Vals.more (Val.bytes [])
    (Vals.more (Val.bytes secret.value) (Vals.more (Val.text basics.String secret.content) Vals.end))))

-- its type
abbrev pub secret_type : Ty
secret_type =
    Ty.struct (Tys.more (Ty.basic basics.ObjectPath) (Tys.more (Ty.array (Ty.basic basics.Byte))
    (Tys.more (Ty.array (Ty.basic basics.Byte)) (Tys.more (Ty.basic basics.String) Tys.end))))

-- items with their secrets, as the entries of a dict
abbrev pub secret_values : List ItemSecret → Vals
secret_values [] = Vals.end
secret_values (one ∷ secrets) = Vals.more (Val.entry (Val.text basics.ObjectPath one.item) (secret_value one.secret)) (secret_values secrets)

-- a dict of items with their secrets
abbrev pub secrets_value : List ItemSecret → Val
secrets_value secrets = Val.array (Ty.entry basics.ObjectPath secret_type) (secret_values secrets)

-- the name of a property
abbrev pub property_text : Property → List ℕ
property_text property.Collections = codes "Collections"
property_text property.Items = codes "Items"
property_text property.Label = codes "Label"
property_text property.Attributes = codes "Attributes"
property_text property.Locked = codes "Locked"
property_text property.Created = codes "Created"
property_text property.Modified = codes "Modified"

-- an attribute, as an entry of a dict
abbrev pub attribute_value : Attribute → Val
attribute_value one = Val.entry (Val.text basics.String one.name) (Val.text basics.String one.value)

-- attributes, as the entries of a dict
abbrev pub attribute_values : List Attribute → Vals
attribute_values [] = Vals.end
attribute_values (one ∷ attributes) = Vals.more (attribute_value one) (attribute_values attributes)

-- a dict of attributes
abbrev pub attributes_value : List Attribute → Val
attributes_value attributes = Val.array (Ty.entry basics.String (Ty.basic basics.String)) (attribute_values attributes)

-- the value of a property
abbrev pub property_value : PropertyValue → Val
property_value (shown.Objects objects) = paths_value objects
property_value (shown.Text text) = Val.text basics.String text
property_value (shown.Attributes attributes) = attributes_value attributes
property_value (shown.Truth truth) = Val.number basics.Boolean (bit_of truth)
property_value (shown.Moment seconds) = Val.number basics.Uint64 seconds

-- a property with its value, as an entry of a dict
abbrev pub shown_value : ShownProperty → Val
shown_value one = Val.entry (Val.text basics.String (property_text one.property)) (Val.variant (property_value one.value))

-- properties with their values, as the entries of a dict
abbrev pub shown_values : List ShownProperty → Vals
shown_values [] = Vals.end
shown_values (one ∷ properties) = Vals.more (shown_value one) (shown_values properties)

-- a dict of properties with their values
abbrev pub properties_value : List ShownProperty → Val
properties_value properties = Val.array (Ty.entry basics.String Ty.variant) (shown_values properties)

-- the names of properties, as the elements of an array
abbrev pub name_values : List Property → Vals
name_values [] = Vals.end
name_values (one ∷ properties) = Vals.more (Val.text basics.String (property_text one)) (name_values properties)

-- an array of the names of properties
abbrev pub names_value : List Property → Val
names_value properties = Val.array (Ty.basic basics.String) (name_values properties)

-- A body's values. OpenSession returns the output of `plain`, which is the empty text, and the session's path. The others are the
-- values that their methods return.
abbrev pub values_of : Body → Vals
values_of body.Empty = Vals.end
values_of (body.Session session) =
    Vals.more (Val.variant (Val.text basics.String [])) (Vals.more (Val.text basics.ObjectPath (session_path session.0)) Vals.end)
values_of (body.Found unlocked locked) = Vals.more (paths_value unlocked) (Vals.more (paths_value locked) Vals.end)
values_of (body.ObjectsAndPrompt objects prompt) = Vals.more (paths_value objects) (Vals.more (prompt_value prompt) Vals.end)
values_of (body.Objects objects) = Vals.more (paths_value objects) Vals.end
values_of (body.ObjectAndPrompt object prompt) = Vals.more (Val.text basics.ObjectPath object) (Vals.more (prompt_value prompt) Vals.end)
values_of (body.Object object) = Vals.more (Val.text basics.ObjectPath object) Vals.end
values_of (body.Secret secret) = Vals.more (secret_value secret) Vals.end
values_of (body.Secrets secrets) = Vals.more (secrets_value secrets) Vals.end
values_of (body.Property value) = Vals.more (Val.variant (property_value value)) Vals.end
values_of (body.Properties properties) = Vals.more (properties_value properties) Vals.end

-- a body's bytes
abbrev pub spelled_body : Body → List ℕ
spelled_body body = all_spelled Little (values_of body) 0

-- ---- signals

-- what a password is asked for
abbrev pub kind_text : AskKind → List ℕ
kind_text kind.Unlock = codes "unlock"
kind_text kind.Create = codes "create"
kind_text kind.Change = codes "change"

-- the most bytes of a label in Ask
abbrev pub most_label : ℕ
most_label = 1024

-- the label that Ask contains: the empty text in place of a longer one
abbrev pub shown_label : List ℕ → List ℕ
shown_label label = if nat_le (length label) most_label then label else []

-- what a prompt completes with: the objects that it unlocked, or the collection that it created or whose password it changed
abbrev pub completion_value : Completion → Val
completion_value (completion.Objects objects) = paths_value objects
completion_value (completion.Object object) = Val.text basics.ObjectPath object

-- the path of the service (Secret Service API, "The Secret Service")
abbrev pub service_path : List ℕ
service_path = codes "/org/freedesktop/secrets"

-- the path of an object whose properties changed
abbrev pub changed_path : ChangedObject → List ℕ
changed_path changed.Service = service_path
changed_path (changed.Collection collection) = collection
changed_path (changed.Item item) = item

-- the interface that has the properties
abbrev pub changed_interface : ChangedObject → List ℕ
changed_interface changed.Service = codes "org.freedesktop.Secret.Service"
changed_interface (changed.Collection collection) = codes "org.freedesktop.Secret.Collection"
changed_interface (changed.Item item) = codes "org.freedesktop.Secret.Item"

-- A signal's values. Ask has the prompt, the round, what the password is for, the label, and how many answers were wrong.
-- Completed has whether the prompt was dismissed, and what it completes with. The signals of a collection or an item have its path.
-- PropertiesChanged (D-Bus Specification, "Standard Interfaces") has the interface, the properties with their new values, and the
-- names of those whose values it doesn't contain.
abbrev pub signal_values : Signal → Vals
signal_values (signal.Ask prompt round kind label wrong) =
    Vals.more (Val.text basics.ObjectPath (prompt_path prompt.0)) (Vals.more (Val.number basics.Uint64 round) (Vals.more (Val.text basics.String (kind_text kind))
    (Vals.more (Val.text basics.String label) (Vals.more (Val.number basics.Uint32 wrong) Vals.end))))
signal_values (signal.Completed prompt dismissed completion) =
    Vals.more (Val.number basics.Boolean (bit_of dismissed)) (Vals.more (Val.variant (completion_value completion)) Vals.end)
signal_values (signal.CollectionCreated collection) = Vals.more (Val.text basics.ObjectPath collection) Vals.end
signal_values (signal.CollectionDeleted collection) = Vals.more (Val.text basics.ObjectPath collection) Vals.end
signal_values (signal.CollectionChanged collection) = Vals.more (Val.text basics.ObjectPath collection) Vals.end
signal_values (signal.ItemCreated collection item) = Vals.more (Val.text basics.ObjectPath item) Vals.end
signal_values (signal.ItemDeleted collection item) = Vals.more (Val.text basics.ObjectPath item) Vals.end
signal_values (signal.ItemChanged collection item) = Vals.more (Val.text basics.ObjectPath item) Vals.end
signal_values (signal.PropertiesChanged object changed invalidated) =
    Vals.more (Val.text basics.String (changed_interface object)) (Vals.more (properties_value changed) (Vals.more (names_value invalidated) Vals.end))

-- The object that emits a signal: the agent's, the prompt, the service for its collections, a collection for its items, or the
-- object whose properties changed.
abbrev pub emitter : Signal → List ℕ
emitter (signal.Ask prompt round kind label wrong) = codes "/org/freedesktop/secrets/agent"
emitter (signal.Completed prompt dismissed completion) = prompt_path prompt.0
emitter (signal.CollectionCreated collection) = service_path
emitter (signal.CollectionDeleted collection) = service_path
emitter (signal.CollectionChanged collection) = service_path
emitter (signal.ItemCreated collection item) = collection
emitter (signal.ItemDeleted collection item) = collection
emitter (signal.ItemChanged collection item) = collection
emitter (signal.PropertiesChanged object changed invalidated) = changed_path object

-- its interface
abbrev pub interface_of : Signal → List ℕ
interface_of (signal.Ask prompt round kind label wrong) = codes "org.keyringd.Agent1"
interface_of (signal.Completed prompt dismissed completion) = codes "org.freedesktop.Secret.Prompt"
interface_of (signal.CollectionCreated collection) = codes "org.freedesktop.Secret.Service"
interface_of (signal.CollectionDeleted collection) = codes "org.freedesktop.Secret.Service"
interface_of (signal.CollectionChanged collection) = codes "org.freedesktop.Secret.Service"
interface_of (signal.ItemCreated collection item) = codes "org.freedesktop.Secret.Collection"
interface_of (signal.ItemDeleted collection item) = codes "org.freedesktop.Secret.Collection"
interface_of (signal.ItemChanged collection item) = codes "org.freedesktop.Secret.Collection"
interface_of (signal.PropertiesChanged object changed invalidated) = codes "org.freedesktop.DBus.Properties"

-- its name
abbrev pub signal_name : Signal → List ℕ
signal_name (signal.Ask prompt round kind label wrong) = codes "Ask"
signal_name (signal.Completed prompt dismissed completion) = codes "Completed"
signal_name (signal.CollectionCreated collection) = codes "CollectionCreated"
signal_name (signal.CollectionDeleted collection) = codes "CollectionDeleted"
signal_name (signal.CollectionChanged collection) = codes "CollectionChanged"
signal_name (signal.ItemCreated collection item) = codes "ItemCreated"
signal_name (signal.ItemDeleted collection item) = codes "ItemDeleted"
signal_name (signal.ItemChanged collection item) = codes "ItemChanged"
signal_name (signal.PropertiesChanged object changed invalidated) = codes "PropertiesChanged"

-- ---- messages

-- The header of an output: a METHOD_RETURN, or an ERROR with its name, each with the serial of the call that it answers, or
-- a SIGNAL with the object that emits it, its interface and its name. Each has the flag NO_REPLY_EXPECTED.
abbrev pub header_of : Out → ℕ → SentHeader
header_of (out.Return to body) serial = record (bare_header 2 1 serial) { reply_serial = Some to.number }
header_of (out.Error to name) serial = record (bare_header 3 1 serial) { error_name = Some (error_text name); reply_serial = Some to.number }
header_of (out.Signal signal) serial =
    record (bare_header 4 1 serial) { path = Some (emitter signal); interface = Some (interface_of signal); member = Some (signal_name signal) }

-- the values of an output: an error has none
abbrev pub values_sent : Out → Vals
values_sent (out.Return to body) = values_of body
values_sent (out.Error to name) = Vals.end
values_sent (out.Signal signal) = signal_values signal

-- the message of an output, with this serial
abbrev pub sent : Out → ℕ → Sent
sent out serial = record { header = header_of out serial; body = values_sent out }

-- its bytes
abbrev pub spelled : Out → ℕ → List ℕ
spelled out serial = spelled_message (sent out serial)

-- ---- what can be sent

-- each of them is an object path
abbrev pub ArePaths : List (List ℕ) → Type 0
ArePaths [] = Unit {0}
ArePaths (path ∷ paths) = IsTrue (is_object_path path) × ArePaths paths

-- the parts of a secret have their types: the session's number has 64 bits, the value is bytes, the content type is a text
pub record IsSecret (secret : ReturnedSecret) : Type 0 where
  pub session : secret.session.0 < 2 ^ 64
  pub value : AreBytes secret.value
  pub content : IsText secret.content

-- each item has an object path, and the parts of its secret have their types
abbrev pub AreSecrets : List ItemSecret → Type 0
AreSecrets [] = Unit {0}
AreSecrets (one ∷ secrets) = IsTrue (is_object_path one.item) × IsSecret one.secret × AreSecrets secrets

-- the number of a prompt, if there is one, has 64 bits
abbrev pub IsPrompt : Option PromptId → Type 0
IsPrompt prompt = IfSome prompt (λ it. it.0 < 2 ^ 64)

-- the names and the values of attributes are texts
abbrev pub AreAttributes : List Attribute → Type 0
AreAttributes [] = Unit {0}
AreAttributes (one ∷ attributes) = IsText one.name × IsText one.value × AreAttributes attributes

-- The value of a property has its type: objects have object paths, and a moment is a number of 64 bits.
abbrev pub IsShown : PropertyValue → Type 0
IsShown (shown.Objects objects) = ArePaths objects
IsShown (shown.Text text) = IsText text
IsShown (shown.Attributes attributes) = AreAttributes attributes
IsShown (shown.Truth truth) = Unit {0}
IsShown (shown.Moment seconds) = seconds < 2 ^ 64

-- the value of each property has
abbrev pub AreShown : List ShownProperty → Type 0
AreShown [] = Unit {0}
AreShown (one ∷ properties) = IsShown one.value × AreShown properties

-- A body's values have their types: sessions and prompts have numbers of 64 bits, paths are object paths, content types are
-- texts.
abbrev pub AreTyped : Body → Type 0
AreTyped body.Empty = Unit {0}
AreTyped (body.Session session) = session.0 < 2 ^ 64
AreTyped (body.Found unlocked locked) = ArePaths unlocked × ArePaths locked
AreTyped (body.ObjectsAndPrompt objects prompt) = ArePaths objects × IsPrompt prompt
AreTyped (body.Objects objects) = ArePaths objects
AreTyped (body.ObjectAndPrompt object prompt) = IsTrue (is_object_path object) × IsPrompt prompt
AreTyped (body.Object object) = IsTrue (is_object_path object)
AreTyped (body.Secret secret) = IsSecret secret
AreTyped (body.Secrets secrets) = AreSecrets secrets
AreTyped (body.Property value) = IsShown value
AreTyped (body.Properties properties) = AreShown properties

-- what a prompt completes with are object paths
abbrev pub IsResult : Completion → Type 0
IsResult (completion.Objects objects) = ArePaths objects
IsResult (completion.Object object) = IsTrue (is_object_path object)

-- the most bytes that the path of a collection or an item that emits a signal may have
abbrev pub most_emitter : ℕ
most_emitter = 1024

-- the path of an object that emits a signal: an object path that isn't longer
pub record IsEmitter (path : List ℕ) : Type 0 where
  pub formed : IsTrue (is_object_path path)
  pub short : length path ≤ most_emitter

-- the path of the object whose properties changed is
abbrev pub IsChanged : ChangedObject → Type 0
IsChanged changed.Service = Unit {0}
IsChanged (changed.Collection collection) = IsEmitter collection
IsChanged (changed.Item item) = IsEmitter item

-- A signal's values have their types: the prompt and the round are numbers of 64 bits, the count is one of 32, the label is a
-- text, the result is object paths, and so are collections and items, of which those that emit a signal have short paths; and the
-- values of properties have the types of these.
abbrev pub IsSignal : Signal → Type 0
IsSignal (signal.Ask prompt round kind label wrong) = (prompt.0 < 2 ^ 64) × (round < 2 ^ 64) × IsText label × (wrong < 2 ^ 32)
IsSignal (signal.Completed prompt dismissed completion) = (prompt.0 < 2 ^ 64) × IsResult completion
IsSignal (signal.CollectionCreated collection) = IsTrue (is_object_path collection)
IsSignal (signal.CollectionDeleted collection) = IsTrue (is_object_path collection)
IsSignal (signal.CollectionChanged collection) = IsTrue (is_object_path collection)
IsSignal (signal.ItemCreated collection item) = IsEmitter collection × IsTrue (is_object_path item)
IsSignal (signal.ItemDeleted collection item) = IsEmitter collection × IsTrue (is_object_path item)
IsSignal (signal.ItemChanged collection item) = IsEmitter collection × IsTrue (is_object_path item)
IsSignal (signal.PropertiesChanged object changed invalidated) = IsChanged object × AreShown changed

-- the values of an output have their types
abbrev pub IsTyped : Out → Type 0
IsTyped (out.Return to body) = AreTyped body
IsTyped (out.Error to name) = Unit {0}
IsTyped (out.Signal signal) = IsSignal signal

-- An output can be spelled as a message: its values have their types, and they have no more bytes than an array may have
-- (D-Bus Specification, "Marshaling"), so no array and no text in it is too long. Its type already says that the serial
-- which it answers isn't 0.
pub record HasSpelling (out : Out) : Type 0 where
  pub typed : IsTyped out
  pub short : length (all_spelled Little (values_sent out) 0) ≤ array_limit

-- the most bytes that an output may have, which is also the most that may wait for a connection
abbrev pub most_waiting : ℕ
most_waiting = 8912896
