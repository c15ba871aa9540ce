-- D-Bus Specification, "Authentication Protocol": the run of the table over a stream of bytes.
use Rattle.std.specs.Prelude.{ℕ, zero, suc, ◌+◌, ◌==◌, nat_lt, nat_le, if◌then◌else◌, List, [], ◌∷◌, length, Option, None, Some}
use Rattle.dbus_auth.specs.Exchange.{Exchange}
use Rattle.dbus_auth.specs.Lines.{Cut, first_cut, line_limit}
use Rattle.dbus_auth.specs.Table.{fresh, step_of, next_of}
use Rattle.dbus_auth.specs.declared.auth.AuthFault.{AuthFault}
use Rattle.dbus_auth.specs.declared.auth.AuthFault.TheVariants.{NoZero, LineTooLong}
use Rattle.dbus_auth.specs.declared.auth.Step.{Step}
use Rattle.dbus_auth.specs.declared.auth.Step.TheVariants as step

-- how far a run has come at the end of the bytes
pub data End : Type 0 where
  -- more bytes are awaited; the table's state, and the bytes of a line that hasn't ended
  waiting : (at : Exchange) → (unfinished : List ℕ) → End
  -- the handshake is refused, whatever may follow
  refused : (fault : AuthFault) → End
  -- a BEGIN line was accepted; messages are in the rest after it
  opened : (rest : List ℕ) → End

-- a run: the lines that were answered, in order and each with its ending, and how far it has come
pub record Run : Type 0 where
  pub answers : List (List ℕ)
  pub end : End

-- a run without an answer
abbrev pub silent : End → Run
silent end = record { answers = []; end = end }

-- one answer before a run's
abbrev pub answered : List ℕ → Run → Run
answered answer run = record { answers = answer ∷ run.answers; end = run.end }

-- after a line's row: its answer and then the rest of the run, or the end, with the rest of the bytes after the line
abbrev pub run_from_step : Step → List ℕ → Run → Run
run_from_step (step.Say answer) rest further = answered answer further
run_from_step step.Begin rest further = silent (opened rest)
run_from_step (step.Refused fault) rest further = silent (refused fault)

-- over the first cut of the bytes. The limit counts a line with its CR LF: it is exceeded if there are as many
-- bytes of a line and it hasn't ended within them
abbrev pub run_from_cut : (Exchange → List ℕ → Run) → Exchange → List ℕ → Option Cut → Run
run_from_cut further at bytes None =
    if nat_lt (length bytes) line_limit then silent (waiting at bytes) else silent (refused LineTooLong)
run_from_cut further at bytes (Some cut) =
    if nat_le (length cut.line + 2) line_limit then run_from_step (step_of at cut.line) cut.rest (further (next_of at cut.line) cut.rest) else silent (refused LineTooLong)

-- the run of the table over the first n lines of the bytes, from a given state
unfoldable pub run_lines : ℕ → Exchange → List ℕ → Run
run_lines zero at bytes = silent (waiting at bytes)
run_lines (suc n) at bytes = run_from_cut (run_lines n) at bytes (first_cut bytes)

-- the run of the table over all lines of the bytes; a line has at least two bytes, those of its ending
unfoldable pub run : Exchange → List ℕ → Run
run at bytes = run_lines (length bytes) at bytes

-- the whole handshake of a client that sends these bytes: a zero byte, and then lines
unfoldable pub handshake : ℕ → List ℕ → List ℕ → Run
handshake uid guid [] = silent (waiting (fresh uid guid) [])
handshake uid guid (c ∷ bytes) = if c == 0 then run (fresh uid guid) bytes else silent (refused NoZero)
