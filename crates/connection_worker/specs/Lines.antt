-- What the first line of bytes leads to in a handshake, and what all lines that have ended lead to: D-Bus
-- Specification, "Authentication Protocol".
use Rattle.std.specs.Prelude.{◌≡◌, ℕ, ◌+◌, ◌<◌, ◌≤◌, List, ◌++◌, length, take, drop, Option, None, Some, Result, Ok, Err}
use Rattle.std.specs.List.{concat}
use Rattle.kr_outside.specs.Faults.{Rose}
use Rattle.kr_outside.specs.declared.source.Failed.{Failed}
use Rattle.dbus_auth.specs.Exchange.{Exchange}
use Rattle.dbus_auth.specs.Lines.{first_cut}
use Rattle.dbus_auth.specs.Handshake.{Run, waiting, refused, opened, silent, answered, run}
use Rattle.connection_worker.specs.declared.lines.Line.{Line}
use Rattle.connection_worker.specs.declared.lines.Line.TheVariants as line
use Rattle.connection_worker.specs.declared.lines.Turn.{Turn}
use Rattle.connection_worker.specs.declared.lines.Turn.TheVariants as turn
use Rattle.connection_worker.specs.Streams.{Output, Gave, GaveFront}

-- the position of the first line's end, or that there is none
abbrev pub IsLineEnd : List ℕ → Option ℕ → Type 0
IsLineEnd bytes None = first_cut bytes ≡ None
IsLineEnd bytes (Some place) = (first_cut bytes ≡ Some (record { line = take place bytes; rest = drop (place + 2) bytes })) × (place + 2 ≤ length bytes)

-- what the first line leads to, and the state of the handshake after it
abbrev pub LineOf : Exchange → List ℕ → Line → Exchange → Type 0
LineOf at bytes line.Unfinished new = (new ≡ at) × (run at bytes ≡ silent (waiting at bytes))
LineOf at bytes (line.Answered answer size) new = (0 < size) × (size ≤ length bytes) × (run at bytes ≡ answered answer (run new (drop size bytes)))
LineOf at bytes (line.Begins size) new = (size ≤ length bytes) × (run at bytes ≡ silent (opened (drop size bytes)))
LineOf at bytes (line.Refused fault) new = run at bytes ≡ silent (refused fault)

-- the run over the bytes gave these answers, which were all written, and continues with this run
pub record Answers (at : Exchange) (bytes : List ℕ) (old new : Output) (further : Run) : Type 0 where
  pub answers : List (List ℕ)
  pub run : run at bytes ≡ record { answers = answers ++ further.answers; end = further.end }
  pub gave : Gave old new (concat answers)

-- what the lines that have ended lead to, and what was written
abbrev pub TurnOf : Exchange → List ℕ → Output → Output → Result Turn Failed → Exchange → Type 0
TurnOf at bytes old new (Ok (turn.Waits size)) next = (size ≤ length bytes) × Answers at bytes old new (silent (waiting next (drop size bytes)))
TurnOf at bytes old new (Ok (turn.Begins size)) next = (size ≤ length bytes) × Answers at bytes old new (silent (opened (drop size bytes)))
TurnOf at bytes old new (Ok (turn.Refused fault)) next = Answers at bytes old new (silent (refused fault))
TurnOf at bytes old new (Err failed) next = Rose old.faults new.faults × GaveFront old new (concat (run at bytes).answers)
