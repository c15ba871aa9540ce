-- What the laws of the handshake are about: its lines, a run that continues, and who gets OK.
use Rattle.std.specs.Prelude.{◌≡◌, ℕ, ◌+◌, ◌<◌, ◌≤◌, ◌⊎◌, List, [], ◌∷◌, ◌++◌, length, take, None, Ok, codes, decimal}
use Rattle.std.specs.List.{AllByRecursion}
use Rattle.hex.specs.Hex.{decode_of}
use Rattle.dbus_auth.specs.Answers.{ok_line, error_line}
use Rattle.dbus_auth.specs.Exchange.{Exchange}
use Rattle.dbus_auth.specs.Handshake.{End, waiting, refused, opened, Run, silent, run_from_step, run}
use Rattle.dbus_auth.specs.Lines.{first_cut, line_end, word_of, line_limit}
use Rattle.dbus_auth.specs.Table.{fresh, step_of, next_of}
use Rattle.dbus_auth.specs.declared.auth.AuthFault.{AuthFault}
use Rattle.dbus_auth.specs.declared.auth.AuthFault.TheVariants.{NoZero, LineTooLong, BeginTooSoon, EndedEarly}
use Rattle.dbus_auth.specs.declared.auth.State.{State}
use Rattle.dbus_auth.specs.declared.auth.State.TheVariants.{WaitingForAuth, WaitingForData}
use Rattle.dbus_auth.specs.declared.auth.Step.TheVariants as step

-- a line as it is fed to the table: it contains no CR LF, and with its own CR LF it fits the limit
pub record IsLine (line : List ℕ) : Type 0 where
  pub whole : first_cut line ≡ None
  pub fits : length line + 2 ≤ line_limit

-- a line with its ending, and the rest after it
abbrev pub ended : List ℕ → List ℕ → List ℕ
ended line rest = line ++ (line_end ++ rest)

-- no line ends in these bytes yet, and one still may
pub record IsUnfinished (bytes : List ℕ) : Type 0 where
  pub none : first_cut bytes ≡ None
  pub short : length bytes < line_limit

-- there are as many bytes as the limit, and no line has ended within them
pub record IsTooLong (bytes : List ℕ) : Type 0 where
  pub none : first_cut (take line_limit bytes) ≡ None
  pub long : line_limit ≤ length bytes

-- the ways in which a run can go, as a relation on whole lists
pub data Runs : Exchange → List ℕ → List (List ℕ) → End → Type 0 where
  waits : (at : Exchange) (bytes : List ℕ) → IsUnfinished bytes → Runs at bytes [] (waiting at bytes)
  overflows : (at : Exchange) (bytes : List ℕ) → IsTooLong bytes → Runs at bytes [] (refused LineTooLong)
  says : (at : Exchange) (line rest answer : List ℕ) (answers : List (List ℕ)) (end : End) → IsLine line → step_of at line ≡ step.Say answer
      → Runs (next_of at line) rest answers end → Runs at (ended line rest) (answer ∷ answers) end
  begins : (at : Exchange) (line rest : List ℕ) → IsLine line → step_of at line ≡ step.Begin → Runs at (ended line rest) [] (opened rest)
  refuses : (at : Exchange) (line rest : List ℕ) (fault : AuthFault) → IsLine line → step_of at line ≡ step.Refused fault
      → Runs at (ended line rest) [] (refused fault)

-- these lines, each with its ending
abbrev pub joined : List (List ℕ) → List ℕ
joined [] = []
joined (line ∷ lines) = ended line (joined lines)

-- the run of the table that is fed line after line; lines after an accepted BEGIN belong to the rest
abbrev pub fed : Exchange → List (List ℕ) → Run
fed at [] = silent (waiting at [])
fed at (line ∷ lines) = run_from_step (step_of at line) (joined lines) (fed (next_of at line) lines)

-- answers before a run's
abbrev pub told : List (List ℕ) → Run → Run
told answers further = record { answers = answers ++ further.answers; end = further.end }

-- a run that has come so far, when more bytes arrive
abbrev pub resumed : List (List ℕ) → End → List ℕ → Run
resumed answers (waiting at unfinished) more = told answers (run at (unfinished ++ more))
resumed answers (refused fault) more = record { answers = answers; end = refused fault }
resumed answers (opened rest) more = record { answers = answers; end = opened (rest ++ more) }

-- a run, when more bytes arrive
abbrev pub continued : Run → List ℕ → Run
continued before more = resumed before.answers before.end more

-- a run, when bytes arrive piece after piece
abbrev pub in_pieces : Run → List (List ℕ) → Run
in_pieces before [] = before
in_pieces before (piece ∷ pieces) = in_pieces (continued before piece) pieces

-- the argument is empty, or the user id's decimal digits in hex of either case
abbrev pub IsAccepted : ℕ → List ℕ → Type 0
IsAccepted uid argument = (argument ≡ []) ⊎ (decode_of argument ≡ Ok (decimal uid))

-- the line gives such an argument when the table awaits one: with the mechanism's name, or after it was asked for;
-- in that case the space before an empty one may be missing
pub data GivesAccepted (at : Exchange) : List ℕ → Type 0 where
  at_once : (argument : List ℕ) → at.state ≡ WaitingForAuth → IsAccepted at.uid argument → GivesAccepted at (codes "AUTH EXTERNAL " ++ argument)
  when_asked : (argument : List ℕ) → at.state ≡ WaitingForData → IsAccepted at.uid argument → GivesAccepted at (codes "DATA " ++ argument)
  with_nothing : at.state ≡ WaitingForData → GivesAccepted at (codes "DATA")

-- the same handshake in another state
abbrev pub in_state : Exchange → State → Exchange
in_state at state = record at { state = state }

-- over these lines, which all have ended, the table gives these answers and comes to this state
abbrev pub Stands : Exchange → List ℕ → List (List ℕ) → State → Type 0
Stands at lines answers state = run at lines ≡ record { answers = answers; end = waiting (in_state at state) [] }

-- after lines that got these answers comes a line such that P is true of the table's state there, of the line, and
-- of the rest after it
pub record HasLine (at : Exchange) (bytes : List ℕ) (answers : List (List ℕ)) (P : Exchange → List ℕ → List ℕ → Type 0) : Type 0 where
  pub lines : List ℕ
  pub line : List ℕ
  pub rest : List ℕ
  pub state : State
  pub whole : bytes ≡ lines ++ ended line rest
  pub is_line : IsLine line
  pub stands : Stands at lines answers state
  pub so : P (in_state at state) line rest

-- OK is in force: it was answered, and only ERROR since
pub record OkStands (guid : List ℕ) (answers : List (List ℕ)) : Type 0 where
  pub before : List (List ℕ)
  pub since : List (List ℕ)
  pub whole : answers ≡ before ++ ok_line guid ∷ since
  pub errors : AllByRecursion (λ answer. answer ≡ error_line) since

-- after lines that got these answers come bytes such that P is true of the table's state there and of these bytes
pub record HasPart (at : Exchange) (bytes : List ℕ) (answers : List (List ℕ)) (P : Exchange → List ℕ → Type 0) : Type 0 where
  pub lines : List ℕ
  pub part : List ℕ
  pub state : State
  pub whole : bytes ≡ lines ++ part
  pub stands : Stands at lines answers state
  pub so : P (in_state at state) part

-- OK is in force in these answers, and after the lines that got them comes a BEGIN line with this rest after it
abbrev pub IsOpened : ℕ → List ℕ → List ℕ → List (List ℕ) → List ℕ → Type 0
IsOpened uid guid bytes answers rest =
    OkStands guid answers × HasLine (fresh uid guid) bytes answers (λ at line behind. (word_of line ≡ codes "BEGIN") × (behind ≡ rest))

-- more bytes are awaited in this state, after these bytes of a line
abbrev pub IsWaiting : Exchange → List ℕ → List (List ℕ) → Exchange → List ℕ → Type 0
IsWaiting at bytes answers place unfinished =
    HasPart at bytes answers (λ there part. (there ≡ place) × (part ≡ unfinished) × IsUnfinished part)

-- the cause of each fault in the bytes after the zero byte, with the answers before it
abbrev pub HasCause : ℕ → List ℕ → List ℕ → List (List ℕ) → AuthFault → Type 0
HasCause uid guid bytes answers NoZero = ⊥
HasCause uid guid bytes answers LineTooLong = HasPart (fresh uid guid) bytes answers (λ at part. IsTooLong part)
HasCause uid guid bytes answers BeginTooSoon =
    (OkStands guid answers → ⊥) × HasLine (fresh uid guid) bytes answers (λ at line rest. word_of line ≡ codes "BEGIN")
HasCause uid guid bytes answers EndedEarly = ⊥
