-- What reading a message returns.
use Rattle.std.specs.Prelude.{◌≡◌, Result, Ok, Err}
use Rattle.dbus_types.specs.declared.message.Message.{Message}
use Rattle.dbus_framing.specs.declared.violation.Violation.{Violation}
use Rattle.dbus_framing.specs.declared.violation.FrameRefused.{FrameRefused}
use Rattle.dbus_framing.specs.declared.violation.FrameRefused.TheVariants as refused
use Rattle.dbus_framing.specs.Messages.{Parts, parts_of}

-- the violation is the result of reading, unless memory ran out
abbrev pub Refuses : FrameRefused → Result Parts Violation → Type 0
Refuses refused.OutOfMemory read = Unit {0}
Refuses (refused.Violation cause) read = read ≡ Err cause

-- what a function returned is the result of reading, unless memory ran out
abbrev pub Reads : Result Message FrameRefused → Result Parts Violation → Type 0
Reads (Ok message) read = read ≡ Ok (parts_of message)
Reads (Err refusal) read = Refuses refusal read
