-- The interfaces, and which objects have them: D-Bus Specification, "Standard Interfaces"; Secret Service API draft 0.2, the
-- interfaces; for Keyring1 and the agent, docs/SERVICE.md, "Interfaces".
use Rattle.std.specs.Prelude.{ℕ, Bool, true, false, List, [], ◌∷◌, Option, Some, None, codes}
use Rattle.std.specs.List.{filter, find}
use Rattle.std.specs.Str.{bytes_eq}
use Rattle.kr_names.specs.declared.object_name.ObjectName.{ObjectName}
use Rattle.kr_names.specs.declared.object_name.ObjectName.TheVariants as name
use Rattle.call_wire.specs.declared.interfaces.Interface.{Interface}
use Rattle.call_wire.specs.declared.interfaces.Interface.TheVariants as interface
use Rattle.call_wire.specs.Agent as agent
use Rattle.call_wire.specs.Collection as collection
use Rattle.call_wire.specs.Item as item
use Rattle.call_wire.specs.Keyring as keyring
use Rattle.call_wire.specs.Peer as peer
use Rattle.call_wire.specs.Prompt as prompt
use Rattle.call_wire.specs.Service as service
use Rattle.call_wire.specs.Session as session

-- the interface by which properties are read and set (D-Bus Specification, "Standard Interfaces")
abbrev pub properties_interface : List ℕ
properties_interface = codes "org.freedesktop.DBus.Properties"

-- The interfaces, in the order in which a member is looked for: those that every object has come last.
unfoldable pub interfaces : List Interface
interfaces =
    interface.Service ∷ interface.Collection ∷ interface.Keyring ∷ interface.Item ∷ interface.Session ∷ interface.Prompt ∷ interface.Agent ∷ interface.Properties ∷ interface.Peer ∷ []

-- the name of an interface
abbrev pub interface_name : Interface → List ℕ
interface_name interface.Service = service.interface
interface_name interface.Collection = collection.interface
interface_name interface.Keyring = keyring.interface
interface_name interface.Item = item.interface
interface_name interface.Session = session.interface
interface_name interface.Prompt = prompt.interface
interface_name interface.Agent = agent.interface
interface_name interface.Properties = properties_interface
interface_name interface.Peer = peer.interface

-- An object has the interface of its kind, and Properties; a collection also has Keyring1. Ping is answered on every path, so Peer is there even if there is no object.
abbrev pub is_on : Interface → Option ObjectName → Bool
is_on interface.Service (Some name.Service) = true
is_on interface.Collection (Some (name.Collection stem)) = true
is_on interface.Collection (Some (name.Alias alias)) = true
is_on interface.Keyring (Some (name.Collection stem)) = true
is_on interface.Keyring (Some (name.Alias alias)) = true
is_on interface.Item (Some (name.Item stem item)) = true
is_on interface.Session (Some (name.Session session)) = true
is_on interface.Prompt (Some (name.Prompt prompt)) = true
is_on interface.Agent (Some name.Agent) = true
is_on interface.Properties None = false
is_on interface.Properties (Some name.Nothing) = false
is_on interface.Properties (Some object) = true
is_on interface.Peer object = true
is_on it object = false

-- the interfaces of an object, in order
abbrev pub interfaces_of : Option ObjectName → List Interface
interfaces_of object = filter (λ it. is_on it object) interfaces

-- a call means the interface that it names, or any if it names none
abbrev pub means : Option (List ℕ) → Interface → Bool
means None it = true
means (Some said) it = bytes_eq said (interface_name it)

-- the interface of this name, if the object has it
abbrev pub interface_named : Option ObjectName → List ℕ → Option Interface
interface_named object named = find (means (Some named)) (interfaces_of object)
