-- The interface of a prompt: Secret Service API draft 0.2, "org.freedesktop.Secret.Prompt".
use Rattle.std.specs.Prelude.{ℕ, List, Option, Result, codes, ok_or, option_map, option_and_then}
use Rattle.kr_names.specs.declared.object_name.ObjectName.{ObjectName}
use Rattle.dbus_types.specs.Values.{Vals}
use Rattle.dbus_framing.specs.Headers.{string_in, one_of}
use Rattle.secret_calls.specs.declared.call.Call.{Call}
use Rattle.secret_calls.specs.declared.call.Call.TheVariants as call
use Rattle.secret_calls.specs.declared.call.CallFault.{CallFault}
use Rattle.secret_calls.specs.declared.call.CallFault.TheVariants as fault
use Rattle.call_arguments.specs.Arguments.{without_arguments, prompt_of_name}

-- its name
abbrev pub interface : List ℕ
interface = codes "org.freedesktop.Secret.Prompt"

-- Prompt, on the prompt that it is called on. Its argument, a window of the caller, isn't kept.
abbrev pub prompt : Option ObjectName → Vals → Result Call CallFault
prompt object values =
    ok_or (option_and_then (λ it. option_map (λ window. call.Prompt it) (option_and_then string_in (one_of values))) (prompt_of_name object)) fault.InvalidArgs

-- the dismissal of the prompt
abbrev pub dismissed : Option ObjectName → Result Call CallFault
dismissed object = ok_or (option_map (λ it. call.Dismiss it) (prompt_of_name object)) fault.InvalidArgs

-- Dismiss, which takes no arguments
abbrev pub dismiss : Option ObjectName → Vals → Result Call CallFault
dismiss object values = without_arguments (dismissed object) values
