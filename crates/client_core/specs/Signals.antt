-- How the signals of the service are read: D-Bus Specification, "Message Format" and "Standard Interfaces"; Secret Service API
-- draft 0.2, the interfaces' signals; for the agent, docs/SERVICE.md, "Signals". It is the way back from
-- `Rattle.secret_calls.specs.Outs.sent`.
use Rattle.std.specs.Prelude.{ℕ, ◌==◌, ◌&&◌, ◌<◌, Bool, List, [], ◌∷◌, Option, Some, None, codes, option_map, option_and_then, if◌then◌else◌}
use Rattle.std.specs.List.{find}
use Rattle.std.specs.Option.{option_or}
use Rattle.std.specs.Str.{bytes_eq}
use Rattle.kr_base.specs.declared.ids.PromptId.{PromptId}
use Rattle.dbus_types.specs.Values.{Val, Vals}
use Rattle.dbus_framing.specs.Headers.{where_is, path_in, string_in, held_in, one_of, two_of}
use Rattle.dbus_framing.specs.Messages.{Parts}
use Rattle.secret_calls.specs.declared.changed.ChangedObject.{ChangedObject}
use Rattle.secret_calls.specs.declared.changed.ChangedObject.TheVariants as changed
use Rattle.secret_calls.specs.declared.property.Property.{Property}
use Rattle.secret_calls.specs.declared.signal.AskKind.{AskKind}
use Rattle.secret_calls.specs.declared.signal.AskKind.TheVariants as purpose
use Rattle.secret_calls.specs.declared.signal.Completion.{Completion}
use Rattle.secret_calls.specs.declared.signal.Completion.TheVariants as completion
use Rattle.secret_calls.specs.declared.signal.Signal.{Signal}
use Rattle.secret_calls.specs.declared.signal.Signal.TheVariants as signal
use Rattle.secret_calls.specs.Outs.{kind_text, service_path}
use Rattle.call_arguments.specs.declared.values.ElementType.TheVariants as element
use Rattle.call_arguments.specs.Arguments.{three_of, five_of, elements_in, all_in, truth_in, word_in, long_in, prompt_named}
use Rattle.client_core.specs.declared.signals.SignalKind.{SignalKind}
use Rattle.client_core.specs.declared.signals.SignalKind.TheVariants as kind
use Rattle.client_core.specs.Replies.{paths_in, property_named, properties_in}

-- ---- which signal it is

-- the kinds of signals
abbrev pub all_kinds : List SignalKind
all_kinds =
    kind.Ask ∷ kind.Completed ∷ kind.CollectionCreated ∷ kind.CollectionDeleted ∷ kind.CollectionChanged ∷ kind.ItemCreated ∷ kind.ItemDeleted ∷ kind.ItemChanged
    ∷ kind.PropertiesChanged ∷ []

-- the interface of a kind of signal
abbrev pub kind_interface : SignalKind → List ℕ
kind_interface kind.Ask = codes "org.keyringd.Agent1"
kind_interface kind.Completed = codes "org.freedesktop.Secret.Prompt"
kind_interface kind.CollectionCreated = codes "org.freedesktop.Secret.Service"
kind_interface kind.CollectionDeleted = codes "org.freedesktop.Secret.Service"
kind_interface kind.CollectionChanged = codes "org.freedesktop.Secret.Service"
kind_interface kind.ItemCreated = codes "org.freedesktop.Secret.Collection"
kind_interface kind.ItemDeleted = codes "org.freedesktop.Secret.Collection"
kind_interface kind.ItemChanged = codes "org.freedesktop.Secret.Collection"
kind_interface kind.PropertiesChanged = codes "org.freedesktop.DBus.Properties"

-- its name
abbrev pub kind_name : SignalKind → List ℕ
kind_name kind.Ask = codes "Ask"
kind_name kind.Completed = codes "Completed"
kind_name kind.CollectionCreated = codes "CollectionCreated"
kind_name kind.CollectionDeleted = codes "CollectionDeleted"
kind_name kind.CollectionChanged = codes "CollectionChanged"
kind_name kind.ItemCreated = codes "ItemCreated"
kind_name kind.ItemDeleted = codes "ItemDeleted"
kind_name kind.ItemChanged = codes "ItemChanged"
kind_name kind.PropertiesChanged = codes "PropertiesChanged"

-- whether signals of the kind have this interface and this name
abbrev pub is_kind : List ℕ → List ℕ → SignalKind → Bool
is_kind interface name it = bytes_eq interface (kind_interface it) && bytes_eq name (kind_name it)

-- the kind with this interface and this name
abbrev pub kind_of : Option (List ℕ) → Option (List ℕ) → Option SignalKind
kind_of (Some interface) (Some name) = find (is_kind interface name) all_kinds
kind_of interface name = None

-- ---- what it contains

-- the path of the agent's object, which emits Ask
abbrev pub agent_path : List ℕ
agent_path = codes "/org/freedesktop/secrets/agent"

-- the prompt that a value of type `o` is the path of
abbrev pub prompt_there : Val → Option PromptId
prompt_there value = option_and_then prompt_named (path_in value)

-- what a password is asked for, by its word
abbrev pub purpose_named : List ℕ → Option AskKind
purpose_named word =
    if bytes_eq word (kind_text purpose.Unlock) then Some purpose.Unlock else
    if bytes_eq word (kind_text purpose.Create) then Some purpose.Create else
    if bytes_eq word (kind_text purpose.Change) then Some purpose.Change else None

-- the same for a value of type `s`
abbrev pub purpose_in : Val → Option AskKind
purpose_in value = option_and_then purpose_named (string_in value)

-- Ask with these five values
abbrev pub asked_with : Val × Val × Val × Val × Val → Option Signal
asked_with five =
    option_and_then (λ prompt. option_and_then (λ round. option_and_then (λ purpose. option_and_then (λ label. option_map (λ wrong. signal.Ask prompt round purpose label wrong)
    (word_in five.4)) (string_in five.3)) (purpose_in five.2)) (long_in five.1)) (prompt_there five.0)

-- Ask, which the agent's object emits
abbrev pub ask_signal : List ℕ → Vals → Option Signal
ask_signal path values = if bytes_eq path agent_path then option_and_then asked_with (five_of values) else None

-- what a prompt completes with: paths, or a path
abbrev pub result_in : Val → Option Completion
result_in value = option_or (option_map (λ objects. completion.Objects objects) (paths_in value)) (option_map (λ object. completion.Object object) (path_in value))

-- the same in a variant
abbrev pub result_held : Val → Option Completion
result_held value = option_and_then result_in (held_in value)

-- Completed of this prompt, with these two values
abbrev pub completed_with : PromptId → Val × Val → Option Signal
completed_with prompt two =
    option_and_then (λ dismissed. option_map (λ result. signal.Completed prompt dismissed result) (result_held two.1)) (truth_in two.0)

-- Completed, which the prompt emits
abbrev pub completed_signal : List ℕ → Vals → Option Signal
completed_signal path values = option_and_then (λ prompt. option_and_then (completed_with prompt) (two_of values)) (prompt_named path)

-- the path that is the only value
abbrev pub object_in : Vals → Option (List ℕ)
object_in values = option_and_then path_in (one_of values)

-- the collection of a signal that the service emits
abbrev pub collection_in : List ℕ → Vals → Option (List ℕ)
collection_in path values = if bytes_eq path service_path then object_in values else None

-- the collection that emits a signal, and its item
abbrev pub item_in : List ℕ → Vals → Option (List ℕ × List ℕ)
item_in path values = option_map (λ item. (path, item)) (object_in values)

-- the object that emits PropertiesChanged for properties of this interface
abbrev pub changed_object : List ℕ → List ℕ → Option ChangedObject
changed_object path interface =
    if bytes_eq interface (codes "org.freedesktop.Secret.Service") then where_is (bytes_eq path service_path) changed.Service else
    if bytes_eq interface (codes "org.freedesktop.Secret.Collection") then Some (changed.Collection path) else
    if bytes_eq interface (codes "org.freedesktop.Secret.Item") then Some (changed.Item path) else None

-- the property that a value of type `s` names
abbrev pub name_at : Val → Option Property
name_at value = option_and_then property_named (string_in value)

-- the properties that a value of type `as` names
abbrev pub names_in : Val → Option (List Property)
names_in value = option_and_then (all_in name_at) (elements_in element.Text value)

-- PropertiesChanged with these three values
abbrev pub changed_with : List ℕ → Val × Val × Val → Option Signal
changed_with path three =
    option_and_then (λ object. option_and_then (λ properties. option_map (λ names. signal.PropertiesChanged object properties names)
    (names_in three.2)) (properties_in three.1)) (option_and_then (changed_object path) (string_in three.0))

-- PropertiesChanged, which the object emits
abbrev pub changed_signal : List ℕ → Vals → Option Signal
changed_signal path values = option_and_then (changed_with path) (three_of values)

-- the signal of this kind that an object with this path emits with these values
abbrev pub signal_by : SignalKind → List ℕ → Vals → Option Signal
signal_by kind.Ask path values = ask_signal path values
signal_by kind.Completed path values = completed_signal path values
signal_by kind.CollectionCreated path values = option_map (λ collection. signal.CollectionCreated collection) (collection_in path values)
signal_by kind.CollectionDeleted path values = option_map (λ collection. signal.CollectionDeleted collection) (collection_in path values)
signal_by kind.CollectionChanged path values = option_map (λ collection. signal.CollectionChanged collection) (collection_in path values)
signal_by kind.ItemCreated path values = option_map (λ two. signal.ItemCreated two.0 two.1) (item_in path values)
signal_by kind.ItemDeleted path values = option_map (λ two. signal.ItemDeleted two.0 two.1) (item_in path values)
signal_by kind.ItemChanged path values = option_map (λ two. signal.ItemChanged two.0 two.1) (item_in path values)
signal_by kind.PropertiesChanged path values = changed_signal path values

-- the signal with this path, this interface, this name and these values
abbrev pub signal_at : Option (List ℕ) → Option (List ℕ) → Option (List ℕ) → Vals → Option Signal
signal_at path interface name values =
    option_and_then (λ it. option_and_then (λ emitter. signal_by it emitter values) path) (kind_of interface name)

-- What a message is read as: a SIGNAL that is one of the service.
abbrev pub signal_in : Parts → Option Signal
signal_in parts = if parts.kind == 4 then signal_at parts.path parts.interface parts.member parts.body else None

-- ---- what the service sends

-- The signal's prompt, if it has one, has a number other than 0: only such a prompt has a path (docs/SERVICE.md, "Names and paths").
abbrev pub HasNumber : Signal → Type 0
HasNumber (signal.Ask prompt round purpose label wrong) = 0 < prompt.0
HasNumber (signal.Completed prompt dismissed result) = 0 < prompt.0
HasNumber _ = Unit {0}
