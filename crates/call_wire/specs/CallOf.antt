-- Which call of the service a message is, or why it isn't one: D-Bus Specification, "Message Format" and "Standard
-- Interfaces"; Secret Service API draft 0.2, the interfaces' methods.
use Rattle.std.specs.Prelude.{◌≡◌, ℕ, ◌%◌, ◌==◌, Bool, if◌then◌else◌, List, Option, Some, None, Result, Err, option_and_then}
use Rattle.std.specs.Option.{is_some}
use Rattle.std.specs.Str.{bytes_eq}
use Rattle.dbus_types.specs.Types.{texts_of}
use Rattle.dbus_framing.specs.Messages.{Parts}
use Rattle.kr_names.specs.declared.object_name.ObjectName.{ObjectName}
use Rattle.kr_names.specs.declared.object_name.ObjectName.TheVariants as name
use Rattle.kr_names.specs.Naming.{name_of_path}
use Rattle.secret_calls.specs.declared.call.Call.{Call}
use Rattle.secret_calls.specs.declared.call.CallFault.{CallFault}
use Rattle.secret_calls.specs.declared.call.CallFault.TheVariants as fault
use Rattle.secret_calls.specs.declared.call.Request.{Request}
use Rattle.call_wire.specs.Interfaces.{interface_named}
use Rattle.call_wire.specs.Members.{Member, member_in, call_with}

-- the object that the path names, which may not exist; none if it isn't a path of the service
abbrev pub object_of : Option (List ℕ) → Option ObjectName
object_of path = option_and_then name_of_path path

-- a call of this member, if the signature of the body is that of the member's arguments
abbrev pub call_by : Member → Option ObjectName → Parts → Result Call CallFault
call_by member object parts =
    if bytes_eq (texts_of parts.signature) member.arguments
    then call_with member.method object parts.body
    else Err fault.InvalidArgs

-- What a call lacks that means no member: the object, if the path isn't one of the service or is `/`; the interface,
-- if the object doesn't have the one that the call names; otherwise the method.
abbrev pub lack_of : Option ObjectName → Option (List ℕ) → CallFault
lack_of None interface = fault.UnknownObject
lack_of (Some name.Nothing) interface = fault.UnknownObject
lack_of (Some object) None = fault.UnknownMethod
lack_of (Some object) (Some named) = if is_some (interface_named (Some object) named) then fault.UnknownMethod else fault.UnknownInterface

-- the call, given the member that was found for it
abbrev pub call_found : Option Member → Option ObjectName → Parts → Result Call CallFault
call_found None object parts = Err (lack_of object parts.interface)
call_found (Some member) object parts = call_by member object parts

-- the call of a message on this object
abbrev pub call_on : Option ObjectName → Parts → Result Call CallFault
call_on object parts = call_found (member_in object parts.interface parts.member) object parts

-- a reply is wanted if the flag NO_REPLY_EXPECTED isn't set
abbrev pub wants_reply : ℕ → Bool
wants_reply flags = flags % 2 == 0

-- the request of a message
pub record CallOf (parts : Parts) (request : Request) : Type 0 where
  pub call : request.call ≡ call_on (object_of parts.path) parts
  pub serial : request.serial.number ≡ parts.serial
  pub wants_reply : request.wants_reply ≡ wants_reply parts.flags
  pub length : request.length ≡ parts.size
