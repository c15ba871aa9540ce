-- The members that are implemented, which objects have them, and how their arguments are read: D-Bus Specification, "Standard
-- Interfaces"; Secret Service API draft 0.2, the interfaces' methods; for Keyring1 and the agent, docs/SERVICE.md, "Interfaces".
use Rattle.std.specs.Prelude.{ℕ, ◌&&◌, Bool, false, List, [], ◌∷◌, Option, Some, None, Result, Ok, codes}
use Rattle.std.specs.List.{find}
use Rattle.std.specs.Str.{bytes_eq}
use Rattle.dbus_types.specs.Values.{Vals}
use Rattle.kr_names.specs.declared.object_name.ObjectName.{ObjectName}
use Rattle.secret_calls.specs.declared.call.Call.{Call}
use Rattle.secret_calls.specs.declared.call.Call.TheVariants as call
use Rattle.secret_calls.specs.declared.call.CallFault.{CallFault}
use Rattle.call_wire.specs.declared.interfaces.Interface.{Interface}
use Rattle.call_wire.specs.declared.interfaces.Interface.TheVariants as interface
use Rattle.call_wire.specs.declared.members.Method.{Method}
use Rattle.call_wire.specs.declared.members.Method.TheVariants as method
use Rattle.call_wire.specs.declared.members.Row.{Row}
use Rattle.call_wire.specs.Agent as agent
use Rattle.call_wire.specs.Collection as collection
use Rattle.call_wire.specs.Item as item
use Rattle.call_wire.specs.Interfaces.{is_on, means}
use Rattle.call_wire.specs.Keyring as keyring
use Rattle.call_wire.specs.Prompt as prompt
use Rattle.call_wire.specs.Properties as properties
use Rattle.call_wire.specs.Service as service
use Rattle.call_wire.specs.Session as session

-- a member: its interface, its name, the signature of its arguments, and the method that reads them
pub record Member : Type 0 where
  pub interface : Interface
  pub name : List ℕ
  pub arguments : List ℕ
  pub method : Method

-- the member in a row of the program's table
abbrev pub seen : Row → Member
seen row = record { interface = row.interface; name = row.name.now; arguments = row.arguments.now; method = row.method }

-- The members, in the order in which they are looked up: those of one interface are next to each other, and the interfaces
-- that every object has come last.
unfoldable pub members : List Member
members =
    record { interface = interface.Service; name = codes "OpenSession"; arguments = codes "sv"; method = method.OpenSession } ∷
    record { interface = interface.Service; name = codes "CreateCollection"; arguments = codes "a{sv}s"; method = method.CreateCollection } ∷
    record { interface = interface.Service; name = codes "SearchItems"; arguments = codes "a{ss}"; method = method.SearchItems } ∷
    record { interface = interface.Service; name = codes "Unlock"; arguments = codes "ao"; method = method.Unlock } ∷
    record { interface = interface.Service; name = codes "Lock"; arguments = codes "ao"; method = method.Lock } ∷
    record { interface = interface.Service; name = codes "GetSecrets"; arguments = codes "aoo"; method = method.GetSecrets } ∷
    record { interface = interface.Service; name = codes "ReadAlias"; arguments = codes "s"; method = method.ReadAlias } ∷
    record { interface = interface.Service; name = codes "SetAlias"; arguments = codes "so"; method = method.SetAlias } ∷
    record { interface = interface.Collection; name = codes "SearchItems"; arguments = codes "a{ss}"; method = method.SearchCollection } ∷
    record { interface = interface.Collection; name = codes "CreateItem"; arguments = codes "a{sv}(oayays)b"; method = method.CreateItem } ∷
    record { interface = interface.Collection; name = codes "Delete"; arguments = []; method = method.DeleteCollection } ∷
    record { interface = interface.Keyring; name = codes "ChangePassword"; arguments = []; method = method.ChangePassword } ∷
    record { interface = interface.Item; name = codes "Delete"; arguments = []; method = method.DeleteItem } ∷
    record { interface = interface.Item; name = codes "GetSecret"; arguments = codes "o"; method = method.GetSecret } ∷
    record { interface = interface.Item; name = codes "SetSecret"; arguments = codes "(oayays)"; method = method.SetSecret } ∷
    record { interface = interface.Session; name = codes "Close"; arguments = []; method = method.CloseSession } ∷
    record { interface = interface.Prompt; name = codes "Prompt"; arguments = codes "s"; method = method.Prompt } ∷
    record { interface = interface.Prompt; name = codes "Dismiss"; arguments = []; method = method.Dismiss } ∷
    record { interface = interface.Agent; name = codes "Register"; arguments = []; method = method.Register } ∷
    record { interface = interface.Agent; name = codes "Unregister"; arguments = []; method = method.Unregister } ∷
    record { interface = interface.Agent; name = codes "Answer"; arguments = codes "otay"; method = method.Answer } ∷
    record { interface = interface.Agent; name = codes "Refuse"; arguments = codes "ot"; method = method.Refuse } ∷
    record { interface = interface.Properties; name = codes "Get"; arguments = codes "ss"; method = method.Get } ∷
    record { interface = interface.Properties; name = codes "GetAll"; arguments = codes "s"; method = method.GetAll } ∷
    record { interface = interface.Properties; name = codes "Set"; arguments = codes "ssv"; method = method.Set } ∷
    record { interface = interface.Peer; name = codes "Ping"; arguments = []; method = method.Ping } ∷ []

-- the header field has this text
abbrev pub says : Option (List ℕ) → List ℕ → Bool
says None text = false
says (Some said) text = bytes_eq said text

-- a call on the object that names this interface and this member is a call of the member
abbrev pub is_called : Option ObjectName → Option (List ℕ) → Option (List ℕ) → Member → Bool
is_called object interface name member = is_on member.interface object && (means interface member.interface && says name member.name)

-- the first such member
abbrev pub member_in : Option ObjectName → Option (List ℕ) → Option (List ℕ) → Option Member
member_in object interface name = find (is_called object interface name) members

-- The call of a method on this object with these values, or the fault that they have. Their signature is that of the method's row, so a call
-- without arguments has no values to be read.
abbrev pub call_with : Method → Option ObjectName → Vals → Result Call CallFault
call_with method.OpenSession object values = service.open_session values
call_with method.CreateCollection object values = service.create_collection values
call_with method.SearchItems object values = service.search_items values
call_with method.Unlock object values = service.unlock values
call_with method.Lock object values = service.lock values
call_with method.GetSecrets object values = service.get_secrets values
call_with method.ReadAlias object values = service.read_alias values
call_with method.SetAlias object values = service.set_alias values
call_with method.SearchCollection object values = collection.search_items object values
call_with method.CreateItem object values = collection.create_item object values
call_with method.DeleteCollection object values = collection.delete object values
call_with method.ChangePassword object values = keyring.change_password object values
call_with method.DeleteItem object values = item.delete object values
call_with method.GetSecret object values = item.get_secret object values
call_with method.SetSecret object values = item.set_secret object values
call_with method.CloseSession object values = session.close object values
call_with method.Prompt object values = prompt.prompt object values
call_with method.Dismiss object values = prompt.dismiss object values
call_with method.Register object values = Ok call.Register
call_with method.Unregister object values = Ok call.Unregister
call_with method.Answer object values = agent.answer values
call_with method.Refuse object values = agent.refuse values
call_with method.Get object values = properties.get object values
call_with method.GetAll object values = properties.get_all object values
call_with method.Set object values = properties.set object values
call_with method.Ping object values = Ok call.Ping
