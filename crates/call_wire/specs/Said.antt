-- What an output says as a message: D-Bus Specification, "Message Format"; Secret Service API draft 0.2, the
-- interfaces' methods and errors.
use Rattle.std.specs.Prelude.{◌≢◌, ℕ, ◌≤◌, length}
use Rattle.dbus_framing.specs.Messages.{Parts}
use Rattle.dbus_sending.specs.Sent.{said_by}
use Rattle.secret_calls.specs.declared.out.Out.{Out}
use Rattle.secret_calls.specs.Outs.{sent, HasSpelling, spelled}
use Rattle.secret_calls.specs.Serials.{last_serial}

-- what the output says as a message with this serial
abbrev pub said : Out → ℕ → Parts
said out serial = said_by (sent out serial)

-- the output can be sent with this serial to a reader of messages of at most `most` bytes: the serial is a number
-- of 32 bits and not 0
pub record IsSendable (most : ℕ) (out : Out) (serial : ℕ) : Type 0 where
  pub numbered : serial ≢ 0
  pub serial_fits : serial ≤ last_serial
  pub has : HasSpelling out
  pub short : length (spelled out serial) ≤ most
