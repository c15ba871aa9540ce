-- The senders of a message bus that the service knows, as plain rows (docs/SERVICE.md, "Senders").
use Rattle.std.specs.Prelude.{ℕ, ◌+◌, Bool, nat_eq, List, [], ◌∷◌, ◌++◌, if◌then◌else◌}
use Rattle.std.specs.Str.{bytes_eq}
use Rattle.kr_base.specs.declared.ids.ConnId.{ConnId}
use Rattle.sender_board.specs.declared.message.Call.{Call}
use Rattle.sender_board.specs.declared.rows.Joined.{Joined}
use Rattle.sender_board.specs.declared.rows.Waiting.{Waiting}
use Rattle.sender_board.specs.declared.board.Board.{Board}

-- the senders whose user is being looked up, in the order of their first calls, those that have a connection, in the
-- order in which they joined, and the number of bytes of all calls that wait
pub record Rows (T : Type 0) : Type 0 where
  pub waiting : List (Waiting T)
  pub joined : List Joined
  pub bytes : ℕ

-- the rows of a board
abbrev pub rows_of : {T : Type 0} → Board T → Rows T
rows_of board = record { waiting = board.waiting.items; joined = board.joined.items; bytes = board.bytes }

-- whether the row is the sender's
abbrev pub is_of : {T : Type 0} → List ℕ → Waiting T → Bool
is_of sender row = bytes_eq row.sender sender

-- whether the row has this question
abbrev pub asks : {T : Type 0} → ℕ → Waiting T → Bool
asks question row = nat_eq row.question question

-- whether the row is that of this sender
abbrev pub is_joined_as : List ℕ → Joined → Bool
is_joined_as sender row = bytes_eq row.sender sender

-- whether the row is that of this connection
abbrev pub is_at : ConnId → Joined → Bool
is_at conn row = nat_eq row.conn.0 conn.0

-- the rows without the first that passes
abbrev pub without : {X : Type 0} → (X → Bool) → List X → List X
without test [] = []
without test (row ∷ rows) = if test row then rows else row ∷ without test rows

-- the rows with the first that passes changed
abbrev pub changed : {X : Type 0} → (X → Bool) → (X → X) → List X → List X
changed test change [] = []
changed test change (row ∷ rows) = if test row then change row ∷ rows else row ∷ changed test change rows

-- the row with one more call, which is the last
abbrev pub with_last : {T : Type 0} → Call T → Waiting T → Waiting T
with_last call row = record row { calls = row.calls ++ call ∷ [] }

-- the rows with one more call in the first that passes
abbrev pub with_call : {T : Type 0} → (Waiting T → Bool) → Call T → List (Waiting T) → List (Waiting T)
with_call test call rows = changed test (with_last call) rows

-- the number of bytes of calls
abbrev pub size_in : {T : Type 0} → List (Call T) → ℕ
size_in [] = 0
size_in (call ∷ calls) = call.size + size_in calls
