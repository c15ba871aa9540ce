-- The interface of a session: Secret Service API draft 0.2, "org.freedesktop.Secret.Session".
use Rattle.std.specs.Prelude.{ℕ, List, Option, Some, Result, Ok, Err, codes}
use Rattle.dbus_types.specs.Values.{Vals}
use Rattle.kr_names.specs.declared.object_name.ObjectName.{ObjectName}
use Rattle.kr_names.specs.declared.object_name.ObjectName.TheVariants as name
use Rattle.secret_calls.specs.declared.call.Call.{Call}
use Rattle.secret_calls.specs.declared.call.Call.TheVariants as call
use Rattle.secret_calls.specs.declared.call.CallFault.{CallFault}
use Rattle.secret_calls.specs.declared.call.CallFault.TheVariants as fault
use Rattle.call_arguments.specs.Arguments.{without_arguments}

-- its name
abbrev pub interface : List ℕ
interface = codes "org.freedesktop.Secret.Session"

-- the call of Close on an object, which must be a session
abbrev pub closed : Option ObjectName → Result Call CallFault
closed (Some (name.Session session)) = Ok (call.CloseSession session)
closed object = Err fault.InvalidArgs

-- Close
abbrev pub close : Option ObjectName → Vals → Result Call CallFault
close object values = without_arguments (closed object) values
