-- What goes to one sender of a message bus (D-Bus Specification, "Message Format", DESTINATION).
use Rattle.std.specs.Prelude.{ℕ, List, Some}
use Rattle.dbus_types.specs.Values.{Vals}
use Rattle.dbus_sending.specs.Sent.{Sent, spelled_message}
use Rattle.secret_calls.specs.declared.out.Out.{Out}
use Rattle.secret_calls.specs.declared.out.Out.TheVariants as out
use Rattle.secret_calls.specs.declared.signal.Signal.{Signal}
use Rattle.secret_calls.specs.Outs.{header_of, values_of, signal_values, spelled}
use Rattle.bus_sending.specs.ErrorTexts.{error_values}

-- the values of an output: an error has its text
abbrev pub values_to : Out → Vals
values_to (out.Return to body) = values_of body
values_to (out.Error to name) = error_values name
values_to (out.Signal signal) = signal_values signal

-- the message of an output to the sender of this name, with this serial
abbrev pub sent_to : (destination : List ℕ) → Out → ℕ → Sent
sent_to destination it serial = record { header = record (header_of it serial) { destination = Some destination }; body = values_to it }

-- its bytes
unfoldable pub spelled_to : (destination : List ℕ) → Out → ℕ → List ℕ
spelled_to destination it serial = spelled_message (sent_to destination it serial)

-- the bytes of a signal to everyone, which has no DESTINATION
unfoldable pub spelled_signal : Signal → ℕ → List ℕ
spelled_signal it serial = spelled (out.Signal it) serial
