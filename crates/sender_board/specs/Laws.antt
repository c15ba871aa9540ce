-- What the laws of the board say.
use Rattle.std.specs.Prelude.{◌≡◌, ◌⊎◌, ℕ, ◌+◌, ◌≤◌, length, Bool, true, false, List, [], ◌∷◌, Option, Some, None, find, IsTrue}
use Rattle.std.specs.List.{list_any}
use Rattle.std.specs.Str.{bytes_eq}
use Rattle.sender_board.specs.declared.action.Action.TheVariants as act
use Rattle.sender_board.specs.declared.message.Call.{Call}
use Rattle.sender_board.specs.declared.message.Kind.{Kind}
use Rattle.sender_board.specs.declared.message.Kind.TheVariants as kinds
use Rattle.sender_board.specs.declared.message.Message.{Message}
use Rattle.sender_board.specs.declared.rows.Waiting.{Waiting}
use Rattle.sender_board.specs.Hear.{bus, hear, most_waiting, most_bytes}
use Rattle.sender_board.specs.Rows.{Rows, asks, size_in}

-- whether the message is the bus's
abbrev pub is_from_bus : Option (List ℕ) → Bool
is_from_bus None = false
is_from_bus (Some sender) = bytes_eq sender bus

-- the bus has answered, with this user, an open question about this sender, whose calls these are
pub record IsLookedUp {T : Type 0} (user : ℕ) (message : Message T) (rows : Rows T) (sender : List ℕ) (calls : List (Call T)) : Type 0 where
  pub question : ℕ
  pub row : Waiting T
  pub told : IsTrue (is_from_bus message.sender)
  pub right : message.kind ≡ kinds.Answer question (Some user)
  pub was_asked : find (asks question) rows.waiting ≡ Some row
  pub whose : row.sender ≡ sender
  pub their : row.calls ≡ calls

-- whether the message is a call
abbrev pub is_call : {T : Type 0} → Kind T → Bool
is_call (kinds.Call call) = true
is_call _ = false

-- whether a question is open
abbrev pub is_open : {T : Type 0} → ℕ → Rows T → Bool
is_open question rows = list_any (asks question) rows.waiting

-- the question was open before, or it is the one that is asked now
abbrev pub WasAsked : {T : Type 0} → (user serial : ℕ) → Message T → Rows T → ℕ → Type 0
WasAsked user serial message rows question =
    IsTrue (is_open question rows)
    ⊎ ((question ≡ serial) × ((sender : List ℕ) × ((hear user serial message rows).action ≡ act.AskUser sender)))

-- the number of bytes of all calls that wait
abbrev pub total : {T : Type 0} → List (Waiting T) → ℕ
total [] = 0
total (row ∷ rows) = size_in row.calls + total rows

-- the calls that wait are counted, and they and their senders are within the limits
pub record IsBounded {T : Type 0} (rows : Rows T) : Type 0 where
  pub few : length rows.waiting ≤ most_waiting
  pub counted : rows.bytes ≡ total rows.waiting
  pub fits : rows.bytes ≤ most_bytes
