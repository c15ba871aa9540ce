-- How a link to a message bus starts (D-Bus Specification, "Message Bus Messages": Hello, AddMatch, RequestName;
-- docs/SERVICE.md, "The start on a message bus").
use Rattle.std.specs.Prelude.{◌≡◌, ℕ, ◌+◌, ◌==◌, ◌&&◌, nat_le, nat_eq, not, Bool, true, false, if◌then◌else◌, List, [], ◌∷◌, ◌++◌, Option, None, Some, Result, Ok, Err}
use Rattle.bus_start.specs.declared.answer.Answer.{Answer}
use Rattle.bus_start.specs.declared.answer.Question.{Question}
use Rattle.bus_start.specs.declared.answer.Question.TheVariants.{Hello, WatchOwners, OwnName}
use Rattle.bus_start.specs.declared.answer.StartRefused.{StartRefused}
use Rattle.bus_start.specs.declared.answer.StartRefused.TheVariants as why
use Rattle.bus_start.specs.declared.start.Starting.{Starting}

-- which calls are answered, the messages that are kept, in order, and the number of their bytes
pub record Rows (T : Type 0) : Type 0 where
  pub named : Bool
  pub watching : Bool
  pub owner : Bool
  pub kept : List T
  pub bytes : ℕ

-- the rows of a link
abbrev pub rows_of : {T : Type 0} → Starting T → Rows T
rows_of it = record { named = it.is_named; watching = it.is_watching; owner = it.is_owner; kept = it.kept.items; bytes = it.bytes }

-- all calls are open
abbrev pub opening : {T : Type 0} → Rows T
opening = record { named = false; watching = false; owner = false; kept = []; bytes = 0 }

-- all calls are answered
abbrev pub has_started : {T : Type 0} → Rows T → Bool
has_started rows = rows.named && (rows.watching && rows.owner)

-- the most bytes that are kept
abbrev pub most_bytes : ℕ
most_bytes = 16777216

-- the call with this serial, if it is open
abbrev pub open_at : {T : Type 0} → ℕ → Rows T → Option Question
open_at serial rows =
    if nat_eq serial 1 && not rows.named then Some Hello
    else if nat_eq serial 2 && not rows.watching then Some WatchOwners
    else if nat_eq serial 3 && not rows.owner then Some OwnName
    else None

-- the number is 1: the link is the primary owner of the name (RequestName)
abbrev pub is_one : Option ℕ → Bool
is_one None = false
is_one (Some number) = nat_eq number 1

-- a return to an open call
abbrev pub accepted : {T : Type 0} → Question → Option ℕ → Rows T → Result (Rows T) StartRefused
accepted Hello number rows = Ok (record rows { named = true })
accepted WatchOwners number rows = Ok (record rows { watching = true })
accepted OwnName number rows = if is_one number then Ok (record rows { owner = true }) else Err why.NameTaken

-- an answer to an open call
abbrev pub answered : {T : Type 0} → Question → Answer → Rows T → Result (Rows T) StartRefused
answered question answer rows = if answer.is_error then Err (why.Refused question) else accepted question answer.number rows

-- a message of this many bytes is kept
abbrev pub kept_with : {T : Type 0} → T → ℕ → Rows T → Result (Rows T) StartRefused
kept_with message size rows =
    if nat_le (rows.bytes + size) most_bytes then Ok (record rows { kept = rows.kept ++ message ∷ []; bytes = rows.bytes + size })
    else Err why.Early

-- the open call that an answer of the bus is about, with that answer
abbrev pub paired : Answer → Option Question → Option (Question × Answer)
paired answer None = None
paired answer (Some question) = Some (question, answer)

-- the same for an answer, if the message is one
abbrev pub with_answer : {T : Type 0} → Option Answer → Rows T → Option (Question × Answer)
with_answer None rows = None
with_answer (Some answer) rows = paired answer (open_at answer.to rows)

-- what becomes of a message, by the open call that it answers
abbrev pub heard_by : {T : Type 0} → Option (Question × Answer) → T → ℕ → Rows T → Result (Rows T) StartRefused
heard_by None message size rows = kept_with message size rows
heard_by (Some both) message size rows = answered both.0 both.1 rows

-- a message is heard: the answer to an open call counts, and anything else is kept
abbrev pub hear : {T : Type 0} → Option Answer → T → ℕ → Rows T → Result (Rows T) StartRefused
hear answer message size rows = heard_by (with_answer answer rows) message size rows

-- the refusal is that of the definition, unless memory ran out
abbrev pub Agrees : {T : Type 0} → StartRefused → Result (Rows T) StartRefused → Type 0
Agrees why.OutOfMemory result = Unit {0}
Agrees (why.Refused question) result = result ≡ Err (why.Refused question)
Agrees why.NameTaken result = result ≡ Err why.NameTaken
Agrees why.Early result = result ≡ Err why.Early
