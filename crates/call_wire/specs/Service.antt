-- The interface of the service: Secret Service API draft 0.2, "org.freedesktop.Secret.Service".
use Rattle.std.specs.Prelude.{ℕ, List, Option, Result, codes, ok_or, option_map, option_and_then}
use Rattle.dbus_types.specs.Values.{Val, Vals}
use Rattle.dbus_framing.specs.Headers.{string_in, held_in, one_of, two_of}
use Rattle.secret_calls.specs.declared.call.Call.{Call}
use Rattle.secret_calls.specs.declared.call.Call.TheVariants as call
use Rattle.secret_calls.specs.declared.call.CallFault.{CallFault}
use Rattle.secret_calls.specs.declared.call.CallFault.TheVariants as fault
use Rattle.call_arguments.specs.declared.values.ElementType.TheVariants as element
use Rattle.call_arguments.specs.Arguments.{elements_in, property, label_in, attributes_in, objects_in, session_in, name_in, alias_in, wanted_alias_in}

-- its name
abbrev pub interface : List ℕ
interface = codes "org.freedesktop.Secret.Service"

-- the algorithm of OpenSession, if the second argument, the input of the algorithm, is a variant
abbrev pub algorithm_in : Val × Val → Option (List ℕ)
algorithm_in arguments = option_and_then (λ input. string_in arguments.0) (held_in arguments.1)

-- OpenSession
abbrev pub open_session : Vals → Result Call CallFault
open_session values = ok_or (option_map (λ algorithm. call.OpenSession algorithm) (option_and_then algorithm_in (two_of values))) fault.InvalidArgs

-- the name of the property that a collection is created with
abbrev pub label_name : List ℕ
label_name = codes "org.freedesktop.Secret.Collection.Label"

-- the label in a dict of properties; any other property is ignored
abbrev pub new_label_in : Val → Option (List ℕ)
new_label_in value = option_and_then (λ properties. label_in (property label_name properties)) (elements_in element.Property value)

-- CreateCollection with these two arguments: the properties, and the alias, if it isn't empty
abbrev pub made_with : Val × Val → Option Call
made_with arguments =
    option_and_then (λ label. option_map (λ alias. call.CreateCollection label alias) (wanted_alias_in arguments.1)) (new_label_in arguments.0)

-- CreateCollection
abbrev pub create_collection : Vals → Result Call CallFault
create_collection values = ok_or (option_and_then made_with (two_of values)) fault.InvalidArgs

-- SearchItems, with the attributes to search for
abbrev pub search_items : Vals → Result Call CallFault
search_items values = ok_or (option_map (λ wanted. call.SearchItems wanted) (option_and_then attributes_in (one_of values))) fault.InvalidArgs

-- Unlock, with the objects to unlock
abbrev pub unlock : Vals → Result Call CallFault
unlock values = ok_or (option_map (λ objects. call.Unlock objects) (option_and_then objects_in (one_of values))) fault.InvalidArgs

-- Lock, with the objects to lock
abbrev pub lock : Vals → Result Call CallFault
lock values = ok_or (option_map (λ objects. call.Lock objects) (option_and_then objects_in (one_of values))) fault.InvalidArgs

-- GetSecrets with these two arguments: the items and the session
abbrev pub secrets_wanted : Val × Val → Option Call
secrets_wanted arguments = option_and_then (λ items. option_map (λ session. call.GetSecrets items session) (session_in arguments.1)) (objects_in arguments.0)

-- GetSecrets
abbrev pub get_secrets : Vals → Result Call CallFault
get_secrets values = ok_or (option_and_then secrets_wanted (two_of values)) fault.InvalidArgs

-- ReadAlias, with the name
abbrev pub read_alias : Vals → Result Call CallFault
read_alias values = ok_or (option_map (λ name. call.ReadAlias name) (option_and_then string_in (one_of values))) fault.InvalidArgs

-- SetAlias with these two arguments: the name, and the object that gets it
abbrev pub set_with : Val × Val → Option Call
set_with arguments = option_and_then (λ alias. option_map (λ object. call.SetAlias alias object) (name_in arguments.1)) (alias_in arguments.0)

-- SetAlias
abbrev pub set_alias : Vals → Result Call CallFault
set_alias values = ok_or (option_and_then set_with (two_of values)) fault.InvalidArgs
