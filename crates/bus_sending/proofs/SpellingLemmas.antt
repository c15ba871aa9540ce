-- The bytes of a message, by its header.
use Rattle.std.proofs.Common.{◌≡◌, ℕ, List, ap}
use Rattle.dbus_sending.specs.Sent.{SentHeader, Sent, spelled_message}
use Rattle.secret_calls.specs.declared.out.Out.{Out}
use Rattle.bus_sending.specs.Addressed.{sent_to, spelled_to, values_to}
use Rattle.bus_sending.specs.BusCalls.{arguments_of, sent_call, spelled_call}
use Rattle.bus_sending.specs.declared.calls.BusCall.{BusCall}

pub to_one : (destination : List ℕ) (it : Out) (serial : ℕ) (header : SentHeader) → header ≡ (sent_to destination it serial).header
    → spelled_message (record { header = header; body = values_to it }) ≡ spelled_to destination it serial
unfolding spelled_to
to_one destination it serial header is = ap (λ (h : SentHeader). spelled_message (record { header = h; body = values_to it })) is

pub to_bus : (it : BusCall) (serial : ℕ) (header : SentHeader) → header ≡ (sent_call it serial).header
    → spelled_message (record { header = header; body = arguments_of it }) ≡ spelled_call it serial
unfolding spelled_call
to_bus it serial header is = ap (λ (h : SentHeader). spelled_message (record { header = h; body = arguments_of it })) is
