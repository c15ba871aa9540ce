-- The serials of messages: D-Bus Specification, "Message Format".
use Rattle.std.specs.Prelude.{ℕ}

-- the last serial: a serial has 32 bits
abbrev pub last_serial : ℕ
last_serial = 4294967295
