-- The interface of an item: Secret Service API draft 0.2, "org.freedesktop.Secret.Item".
use Rattle.std.specs.Prelude.{ℕ, List, Option, Some, None, Result, codes, ok_or, option_map, option_and_then}
use Rattle.kr_base.specs.declared.ids.ItemId.{ItemId}
use Rattle.kr_names.specs.declared.object_name.ObjectName.{ObjectName}
use Rattle.kr_names.specs.declared.object_name.ObjectName.TheVariants as name
use Rattle.dbus_types.specs.Values.{Vals}
use Rattle.dbus_framing.specs.Headers.{one_of}
use Rattle.secret_calls.specs.declared.call.Call.{Call}
use Rattle.secret_calls.specs.declared.call.Call.TheVariants as call
use Rattle.secret_calls.specs.declared.call.CallFault.{CallFault}
use Rattle.secret_calls.specs.declared.call.CallFault.TheVariants as fault
use Rattle.call_arguments.specs.Arguments.{without_arguments, session_in, secret_in}

-- the name of the interface
abbrev pub interface : List ℕ
interface = codes "org.freedesktop.Secret.Item"

-- the item that a call is made on: the stem of its collection, and its number
abbrev pub item_of : Option ObjectName → Option (List ℕ × ItemId)
item_of (Some (name.Item stem item)) = Some (stem, item)
item_of object = None

-- the deletion of the item
abbrev pub deleted : Option ObjectName → Result Call CallFault
deleted object = ok_or (option_map (λ it. call.DeleteItem it.0 it.1) (item_of object)) fault.InvalidArgs

-- Delete, which takes no arguments
abbrev pub delete : Option ObjectName → Vals → Result Call CallFault
delete object values = without_arguments (deleted object) values

-- GetSecret, with the session
abbrev pub get_secret : Option ObjectName → Vals → Result Call CallFault
get_secret object values =
    ok_or (option_and_then (λ it. option_map (λ session. call.GetSecret it.0 it.1 session) (option_and_then session_in (one_of values))) (item_of object)) fault.InvalidArgs

-- SetSecret, with the secret
abbrev pub set_secret : Option ObjectName → Vals → Result Call CallFault
set_secret object values =
    ok_or (option_and_then (λ it. option_map (λ secret. call.SetSecret it.0 it.1 secret) (option_and_then secret_in (one_of values))) (item_of object)) fault.InvalidArgs
