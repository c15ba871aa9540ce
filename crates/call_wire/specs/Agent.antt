-- The interface of the agent, which asks for passwords: docs/SERVICE.md, "Interfaces".
use Rattle.std.specs.Prelude.{ℕ, List, Option, Result, codes, ok_or, option_map, option_and_then}
use Rattle.dbus_types.specs.Values.{Val, Vals}
use Rattle.dbus_framing.specs.Headers.{two_of}
use Rattle.secret_calls.specs.declared.call.Call.{Call}
use Rattle.secret_calls.specs.declared.call.Call.TheVariants as call
use Rattle.secret_calls.specs.declared.call.CallFault.{CallFault}
use Rattle.secret_calls.specs.declared.call.CallFault.TheVariants as fault
use Rattle.call_arguments.specs.Arguments.{three_of, long_in, bytes_in, prompt_in}

-- its name
abbrev pub interface : List ℕ
interface = codes "org.keyringd.Agent1"

-- Answer with these three arguments: the prompt, the round in which it was asked, and the password
abbrev pub answered_with : Val × Val × Val → Option Call
answered_with arguments =
    option_and_then (λ prompt. option_and_then (λ round. option_map (λ password. call.Answer prompt round password) (bytes_in arguments.2)) (long_in arguments.1)) (prompt_in arguments.0)

-- Answer
abbrev pub answer : Vals → Result Call CallFault
answer values = ok_or (option_and_then answered_with (three_of values)) fault.InvalidArgs

-- Refuse with these two arguments: the prompt, and the round in which it was asked
abbrev pub refused_with : Val × Val → Option Call
refused_with arguments = option_and_then (λ prompt. option_map (λ round. call.Refuse prompt round) (long_in arguments.1)) (prompt_in arguments.0)

-- Refuse
abbrev pub refuse : Vals → Result Call CallFault
refuse values = ok_or (option_and_then refused_with (two_of values)) fault.InvalidArgs
