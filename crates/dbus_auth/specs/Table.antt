-- D-Bus Specification, "Authentication Protocol", "Server states": the table of the handshake.
use Rattle.std.specs.Prelude.{ℕ, List}
use Rattle.dbus_auth.specs.Answers.{ok_line, data_line, rejected_line, error_line}
use Rattle.dbus_auth.specs.Commands.{command_of}
use Rattle.dbus_auth.specs.Exchange.{Exchange}
use Rattle.dbus_auth.specs.declared.auth.State.{State}
use Rattle.dbus_auth.specs.declared.auth.State.TheVariants.{WaitingForAuth, WaitingForData, WaitingForBegin}
use Rattle.dbus_auth.specs.declared.auth.AuthFault.TheVariants.{BeginTooSoon}
use Rattle.dbus_auth.specs.declared.auth.Step.{Step}
use Rattle.dbus_auth.specs.declared.auth.Step.TheVariants as step
use Rattle.dbus_auth.specs.declared.command.Command.{Command}
use Rattle.dbus_auth.specs.declared.command.Command.TheVariants.{External, ExternalAccepted, OtherAuth, DataAccepted, OtherData, Cancel, Error, Begin, NegotiateUnixFd}

-- a row for each state and command: the answer, and the next state. When the handshake ends, the state stays
abbrev pub row : List ℕ → State → Command → Step × State
row guid WaitingForAuth External = (step.Say data_line, WaitingForData)
row guid WaitingForAuth ExternalAccepted = (step.Say (ok_line guid), WaitingForBegin)
row guid WaitingForAuth OtherAuth = (step.Say rejected_line, WaitingForAuth)
row guid WaitingForAuth Error = (step.Say rejected_line, WaitingForAuth)
row guid WaitingForAuth Begin = (step.Refused BeginTooSoon, WaitingForAuth)
row guid WaitingForAuth _ = (step.Say error_line, WaitingForAuth)
row guid WaitingForData DataAccepted = (step.Say (ok_line guid), WaitingForBegin)
row guid WaitingForData OtherData = (step.Say rejected_line, WaitingForAuth)
row guid WaitingForData Cancel = (step.Say rejected_line, WaitingForAuth)
row guid WaitingForData Error = (step.Say rejected_line, WaitingForAuth)
row guid WaitingForData Begin = (step.Refused BeginTooSoon, WaitingForData)
row guid WaitingForData _ = (step.Say error_line, WaitingForData)
row guid WaitingForBegin Begin = (step.Begin, WaitingForBegin)
row guid WaitingForBegin NegotiateUnixFd = (step.Say error_line, WaitingForBegin)
row guid WaitingForBegin Cancel = (step.Say rejected_line, WaitingForAuth)
row guid WaitingForBegin Error = (step.Say rejected_line, WaitingForAuth)
row guid WaitingForBegin _ = (step.Say error_line, WaitingForBegin)

-- a handshake before its first line
abbrev pub fresh : ℕ → List ℕ → Exchange
fresh uid guid = record { uid = uid; guid = guid; state = WaitingForAuth }

-- the answer to a line, by its row
abbrev pub step_of : Exchange → List ℕ → Step
step_of at line = (row at.guid at.state (command_of at.uid line)).0

-- the state of the handshake after the line
abbrev pub next_of : Exchange → List ℕ → Exchange
next_of at line = record at { state = (row at.guid at.state (command_of at.uid line)).1 }
