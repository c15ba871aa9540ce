-- The message of a call, and what it says: D-Bus Specification, "Message Format"; Secret Service API draft 0.2, the
-- interfaces' methods.
use Rattle.std.specs.Prelude.{ℕ, List, Some, codes}
use Rattle.kr_names.specs.declared.object_name.ObjectName.{ObjectName}
use Rattle.kr_names.specs.declared.object_name.ObjectName.TheVariants as name
use Rattle.kr_names.specs.Path.{path_text}
use Rattle.dbus_framing.specs.Messages.{Parts}
use Rattle.dbus_sending.specs.Sent.{SentHeader, Sent, bare_header, spelled_message, said_by}
use Rattle.secret_calls.specs.declared.call.Call.{Call}
use Rattle.secret_calls.specs.declared.call.Call.TheVariants as call
use Rattle.call_wire.specs.declared.interfaces.Interface.{Interface}
use Rattle.call_wire.specs.declared.interfaces.Interface.TheVariants as interface
use Rattle.call_wire.specs.Interfaces.{interface_name}
use Rattle.client_core.specs.Arguments.{arguments_of, arguments_with}

-- the object that a call is made on; every object answers Ping
abbrev pub object_of : Call → ObjectName
object_of (call.CloseSession session) = name.Session session
object_of (call.SearchCollection collection wanted) = collection
object_of (call.CreateItem collection label attributes secret replace) = collection
object_of (call.DeleteCollection collection) = collection
object_of (call.ChangePassword collection) = collection
object_of (call.DeleteItem stem item) = name.Item stem item
object_of (call.GetSecret stem item session) = name.Item stem item
object_of (call.SetSecret stem item secret) = name.Item stem item
object_of (call.Get object property) = object
object_of (call.GetAll object properties) = object
object_of (call.SetCollectionLabel collection label) = collection
object_of (call.SetItemLabel stem item label) = name.Item stem item
object_of (call.SetAttributes stem item attributes) = name.Item stem item
object_of (call.Prompt prompt) = name.Prompt prompt
object_of (call.Dismiss prompt) = name.Prompt prompt
object_of call.Register = name.Agent
object_of call.Unregister = name.Agent
object_of (call.Answer prompt round password) = name.Agent
object_of (call.Refuse prompt round) = name.Agent
object_of call = name.Service

-- the interface of its method
abbrev pub interface_of : Call → Interface
interface_of call.Ping = interface.Peer
interface_of (call.CloseSession session) = interface.Session
interface_of (call.SearchCollection collection wanted) = interface.Collection
interface_of (call.CreateItem collection label attributes secret replace) = interface.Collection
interface_of (call.DeleteCollection collection) = interface.Collection
interface_of (call.ChangePassword collection) = interface.Keyring
interface_of (call.DeleteItem stem item) = interface.Item
interface_of (call.GetSecret stem item session) = interface.Item
interface_of (call.SetSecret stem item secret) = interface.Item
interface_of (call.Get object property) = interface.Properties
interface_of (call.GetAll object properties) = interface.Properties
interface_of (call.SetCollectionLabel collection label) = interface.Properties
interface_of (call.SetItemLabel stem item label) = interface.Properties
interface_of (call.SetAttributes stem item attributes) = interface.Properties
interface_of (call.Prompt prompt) = interface.Prompt
interface_of (call.Dismiss prompt) = interface.Prompt
interface_of call.Register = interface.Agent
interface_of call.Unregister = interface.Agent
interface_of (call.Answer prompt round password) = interface.Agent
interface_of (call.Refuse prompt round) = interface.Agent
interface_of call = interface.Service

-- the name of its method
abbrev pub method_name : Call → List ℕ
method_name call.Ping = codes "Ping"
method_name (call.OpenSession algorithm) = codes "OpenSession"
method_name (call.CloseSession session) = codes "Close"
method_name (call.CreateCollection label alias) = codes "CreateCollection"
method_name (call.SearchItems wanted) = codes "SearchItems"
method_name (call.Unlock objects) = codes "Unlock"
method_name (call.Lock objects) = codes "Lock"
method_name (call.GetSecrets items session) = codes "GetSecrets"
method_name (call.ReadAlias name) = codes "ReadAlias"
method_name (call.SetAlias alias object) = codes "SetAlias"
method_name (call.SearchCollection collection wanted) = codes "SearchItems"
method_name (call.CreateItem collection label attributes secret replace) = codes "CreateItem"
method_name (call.DeleteCollection collection) = codes "Delete"
method_name (call.ChangePassword collection) = codes "ChangePassword"
method_name (call.DeleteItem stem item) = codes "Delete"
method_name (call.GetSecret stem item session) = codes "GetSecret"
method_name (call.SetSecret stem item secret) = codes "SetSecret"
method_name (call.Get object property) = codes "Get"
method_name (call.GetAll object properties) = codes "GetAll"
method_name (call.SetCollectionLabel collection label) = codes "Set"
method_name (call.SetItemLabel stem item label) = codes "Set"
method_name (call.SetAttributes stem item attributes) = codes "Set"
method_name (call.Prompt prompt) = codes "Prompt"
method_name (call.Dismiss prompt) = codes "Dismiss"
method_name call.Register = codes "Register"
method_name call.Unregister = codes "Unregister"
method_name (call.Answer prompt round password) = codes "Answer"
method_name (call.Refuse prompt round) = codes "Refuse"

-- the header: a METHOD_CALL that wants a reply
abbrev pub header_with : Call → List ℕ → ℕ → SentHeader
header_with call path serial =
    record (bare_header 1 0 serial) { path = Some path; interface = Some (interface_name (interface_of call)); member = Some (method_name call) }

-- the message, given the paths of its object and of those among its arguments
abbrev pub sent_with : Call → List ℕ → List (List ℕ) → ℕ → Sent
sent_with call path paths serial = record { header = header_with call path serial; body = arguments_with call paths }

-- the message of a call, with this serial
abbrev pub sent : Call → ℕ → Sent
sent call serial = record { header = header_with call (path_text (object_of call)) serial; body = arguments_of call }

-- its bytes
abbrev pub spelled : Call → ℕ → List ℕ
spelled call serial = spelled_message (sent call serial)

-- what it says
abbrev pub said : Call → ℕ → Parts
said call serial = said_by (sent call serial)

-- the most bytes that a message to the service may have
abbrev pub most_bytes : ℕ
most_bytes = 1048576
