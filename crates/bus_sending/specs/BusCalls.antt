-- The calls of the bus itself (D-Bus Specification, "Message Bus Messages"), and how they are sent.
use Rattle.std.specs.Prelude.{ℕ, List, Some, codes}
use Rattle.dbus_types.specs.declared.complete_type.BasicType.TheVariants as basics
use Rattle.dbus_types.specs.Values.{Val, Vals}
use Rattle.dbus_sending.specs.Sent.{Sent, bare_header, spelled_message}
use Rattle.bus_sending.specs.declared.calls.BusCall.{BusCall}
use Rattle.bus_sending.specs.declared.calls.BusCall.TheVariants as call

-- the name of the bus, which is also its interface, and its object
unfoldable pub bus : List ℕ
bus = codes "org.freedesktop.DBus"

unfoldable pub bus_path : List ℕ
bus_path = codes "/org/freedesktop/DBus"

-- the name of the service (Secret Service API, "The Secret Service")
unfoldable pub service : List ℕ
service = codes "org.freedesktop.secrets"

-- the rule of the signals that say which names have no owner any more ("Match Rules")
unfoldable pub rule : List ℕ
rule = codes "type='signal',sender='org.freedesktop.DBus',path='/org/freedesktop/DBus',interface='org.freedesktop.DBus',member='NameOwnerChanged',arg2=''"

-- the method
abbrev pub member_of : BusCall → List ℕ
member_of call.Hello = codes "Hello"
member_of call.WatchOwners = codes "AddMatch"
member_of call.OwnName = codes "RequestName"
member_of (call.AskUser sender) = codes "GetConnectionUnixUser"
member_of (call.StartService name) = codes "StartServiceByName"

-- a name and a number
abbrev pub named : List ℕ → ℕ → Vals
named name number = Vals.more (Val.text basics.String name) (Vals.more (Val.number basics.Uint32 number) Vals.end)

-- the arguments: RequestName has the flag DO_NOT_QUEUE, which is 4, and no other; StartServiceByName has no flag
abbrev pub arguments_of : BusCall → Vals
arguments_of call.Hello = Vals.end
arguments_of call.WatchOwners = Vals.more (Val.text basics.String rule) Vals.end
arguments_of call.OwnName = named service 4
arguments_of (call.AskUser sender) = Vals.more (Val.text basics.String sender.now) Vals.end
arguments_of (call.StartService name) = named name.now 0

-- the message of a call, with this serial: a METHOD_CALL without flags, to the bus
abbrev pub sent_call : BusCall → ℕ → Sent
sent_call it serial = record {
  header = record (bare_header 1 0 serial) { path = Some bus_path; interface = Some bus; member = Some (member_of it); destination = Some bus };
  body = arguments_of it;
}

-- its bytes
unfoldable pub spelled_call : BusCall → ℕ → List ℕ
spelled_call it serial = spelled_message (sent_call it serial)
