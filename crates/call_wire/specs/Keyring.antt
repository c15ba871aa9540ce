-- The interface by which the password of a collection is changed: docs/SERVICE.md, "Interfaces". A call on an alias is a call on its
-- collection.
use Rattle.std.specs.Prelude.{ℕ, List, Option, Result, codes, ok_or, option_map}
use Rattle.kr_names.specs.declared.object_name.ObjectName.{ObjectName}
use Rattle.dbus_types.specs.Values.{Vals}
use Rattle.secret_calls.specs.declared.call.Call.{Call}
use Rattle.secret_calls.specs.declared.call.Call.TheVariants as call
use Rattle.secret_calls.specs.declared.call.CallFault.{CallFault}
use Rattle.secret_calls.specs.declared.call.CallFault.TheVariants as fault
use Rattle.call_arguments.specs.Arguments.{without_arguments}
use Rattle.call_wire.specs.Collection.{collection_of}

-- its name
abbrev pub interface : List ℕ
interface = codes "org.keyringd.Keyring1"

-- the change of the collection's password
abbrev pub changing : Option ObjectName → Result Call CallFault
changing object = ok_or (option_map (λ collection. call.ChangePassword collection) (collection_of object)) fault.InvalidArgs

-- ChangePassword, which takes no arguments: the agent is asked for the new password
abbrev pub change_password : Option ObjectName → Vals → Result Call CallFault
change_password object values = without_arguments (changing object) values
