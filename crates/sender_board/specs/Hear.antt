-- What becomes of a message, by the table of docs/SERVICE.md, "Senders".
use Rattle.std.specs.Prelude.{◌≡◌, ℕ, ◌+◌, ◌-◌, ◌&&◌, Bool, false, nat_eq, nat_le, nat_lt, List, [], ◌∷◌, ◌++◌, length, find, Option, Some, None, codes, if◌then◌else◌}
use Rattle.std.specs.Str.{bytes_eq}
use Rattle.kr_base.specs.declared.ids.ConnId.{ConnId}
use Rattle.sender_board.specs.declared.action.Action.{Action}
use Rattle.sender_board.specs.declared.action.Action.TheVariants as act
use Rattle.sender_board.specs.declared.action.Refusal.TheVariants.{NoRoom, OtherUser}
use Rattle.sender_board.specs.declared.message.Call.{Call}
use Rattle.sender_board.specs.declared.message.Kind.{Kind}
use Rattle.sender_board.specs.declared.message.Kind.TheVariants as kinds
use Rattle.sender_board.specs.declared.message.Message.{Message}
use Rattle.sender_board.specs.declared.rows.Joined.{Joined}
use Rattle.sender_board.specs.declared.rows.Waiting.{Waiting}
use Rattle.sender_board.specs.Rows.{Rows, is_of, asks, is_joined_as, is_at, without, with_call, size_in}

-- the name that the bus itself has as a sender (D-Bus Specification, "Message Bus Messages"), and the name of the service
unfoldable pub bus : List ℕ
bus = codes "org.freedesktop.DBus"

unfoldable pub service : List ℕ
service = codes "org.freedesktop.secrets"

-- the most senders whose users are being looked up at once, and the most bytes of all their calls
abbrev pub most_waiting : ℕ
most_waiting = 256

abbrev pub most_bytes : ℕ
most_bytes = 16777216

-- the rows after a message, and what is to be done for it
pub record Heard (T : Type 0) : Type 0 where
  pub rows : Rows T
  pub action : Action T

-- a message for which nothing is done
abbrev pub quiet : {T : Type 0} → Rows T → Heard T
quiet rows = record { rows = rows; action = act.Nothing }

-- ---- a call

-- whether there is room for a call
abbrev pub has_room : {T : Type 0} → Call T → Rows T → Bool
has_room call rows = nat_le (rows.bytes + call.size) most_bytes

-- the user of a sender that is unknown is looked up, and its first call waits
abbrev pub begins : {T : Type 0} → (serial : ℕ) → (sender : List ℕ) → Call T → Rows T → Heard T
begins serial sender call rows = record {
  rows = record rows {
    waiting = rows.waiting ++ record { sender = sender; question = serial; calls = call ∷ [] } ∷ [];
    bytes = rows.bytes + call.size;
  };
  action = act.AskUser sender;
}

-- the first call of a sender is turned away
abbrev pub refused : {T : Type 0} → (sender : List ℕ) → Call T → Rows T → Heard T
refused sender call rows = record { rows = rows; action = act.TurnAway sender NoRoom [] (Some call) }

-- the first call of a sender that is unknown: its user is looked up if there is room
abbrev pub begun : {T : Type 0} → (serial : ℕ) → (sender : List ℕ) → Call T → Rows T → Heard T
begun serial sender call rows =
    if nat_lt (length rows.waiting) most_waiting && has_room call rows then begins serial sender call rows else refused sender call rows

-- the rows with one more call of a sender whose user is being looked up
abbrev pub waited : {T : Type 0} → (sender : List ℕ) → Call T → Rows T → Rows T
waited sender call rows = record rows { waiting = with_call (is_of sender) call rows.waiting; bytes = rows.bytes + call.size }

-- the rows without a sender whose user was being looked up
abbrev pub forgotten : {T : Type 0} → (Waiting T → Bool) → Waiting T → Rows T → Rows T
forgotten test row rows = record rows { waiting = without test rows.waiting; bytes = rows.bytes - size_in row.calls }

-- all calls of a sender whose user is being looked up are turned away, this one last
abbrev pub overfilled : {T : Type 0} → (sender : List ℕ) → Call T → Waiting T → Rows T → Heard T
overfilled sender call row rows = record { rows = forgotten (is_of sender) row rows; action = act.TurnAway row.sender NoRoom row.calls (Some call) }

-- a call of a sender whose user is being looked up waits if there is room
abbrev pub continued : {T : Type 0} → (sender : List ℕ) → Call T → Waiting T → Rows T → Heard T
continued sender call row rows = if has_room call rows then quiet (waited sender call rows) else overfilled sender call row rows

-- a call of a sender that has no connection
abbrev pub looked_up : {T : Type 0} → (serial : ℕ) → (sender : List ℕ) → Call T → Option (Waiting T) → Rows T → Heard T
looked_up serial sender call None rows = begun serial sender call rows
looked_up serial sender call (Some row) rows = continued sender call row rows

-- a call of a sender that has a connection is served for it
abbrev pub called : {T : Type 0} → (serial : ℕ) → (sender : List ℕ) → Call T → Option Joined → Rows T → Heard T
called serial sender call (Some row) rows = record { rows = rows; action = act.Serve row.conn call }
called serial sender call None rows = looked_up serial sender call (find (is_of sender) rows.waiting) rows

-- ---- what the bus says

-- whether the bus says that the sender is this user's
abbrev pub is_user : ℕ → Option ℕ → Bool
is_user user None = false
is_user user (Some told) = nat_eq told user

-- an answer of the bus to an open question: the sender gets a connection, or its calls are turned away
abbrev pub answered : {T : Type 0} → (user question : ℕ) → Option ℕ → Option (Waiting T) → Rows T → Heard T
answered user question told None rows = quiet rows
answered user question told (Some row) rows = record {
  rows = forgotten (asks question) row rows;
  action = if is_user user told then act.Join row.sender row.calls else act.TurnAway row.sender OtherUser row.calls None;
}

-- a sender that has gone while its user was being looked up: its calls are dropped
abbrev pub gone_waiting : {T : Type 0} → (sender : List ℕ) → Option (Waiting T) → Rows T → Heard T
gone_waiting sender None rows = quiet rows
gone_waiting sender (Some row) rows = quiet (forgotten (is_of sender) row rows)

-- a sender that has gone: its connection is gone, too, if it has one
abbrev pub gone : {T : Type 0} → (sender : List ℕ) → Option Joined → Rows T → Heard T
gone sender (Some row) rows = record { rows = record rows { joined = without (is_joined_as sender) rows.joined }; action = act.Leave row.conn }
gone sender None rows = gone_waiting sender (find (is_of sender) rows.waiting) rows

-- a name that the bus takes away
abbrev pub name_lost : {T : Type 0} → Bool → Rows T → Heard T
name_lost lost rows = record { rows = rows; action = if lost then act.NameLost else act.Nothing }

-- ---- the table

-- a message of the bus
abbrev pub hear_bus : {T : Type 0} → (user : ℕ) → Kind T → Rows T → Heard T
hear_bus user (kinds.Answer question told) rows = answered user question told (find (asks question) rows.waiting) rows
hear_bus user (kinds.OwnerLost name) rows = gone name (find (is_joined_as name) rows.joined) rows
hear_bus user (kinds.NameLost name) rows = name_lost (bytes_eq name service) rows
hear_bus user _ rows = quiet rows

-- a message of a sender
abbrev pub hear_sender : {T : Type 0} → (serial : ℕ) → (sender : List ℕ) → Kind T → Rows T → Heard T
hear_sender serial sender (kinds.Call call) rows = called serial sender call (find (is_joined_as sender) rows.joined) rows
hear_sender serial sender _ rows = quiet rows

-- any message; one without SENDER is nobody's
abbrev pub hear_from : {T : Type 0} → (user serial : ℕ) → Option (List ℕ) → Kind T → Rows T → Heard T
hear_from user serial None kind rows = quiet rows
hear_from user serial (Some sender) kind rows = if bytes_eq sender bus then hear_bus user kind rows else hear_sender serial sender kind rows

-- the rows after a message, and what is to be done for it. A question about a sender's user has this serial
abbrev pub hear : {T : Type 0} → (user serial : ℕ) → Message T → Rows T → Heard T
hear user serial message rows = hear_from user serial message.sender message.kind rows

-- ---- connections

-- the rows with a sender that got a connection
abbrev pub joined_with : {T : Type 0} → List ℕ → ConnId → Rows T → Rows T
joined_with sender conn rows = record rows { joined = rows.joined ++ record { sender = sender; conn = conn } ∷ [] }

-- the rows without a connection
abbrev pub left_by : {T : Type 0} → ConnId → Rows T → Rows T
left_by conn rows = record rows { joined = without (is_at conn) rows.joined }

-- the calls of this row, and one more, are turned away
abbrev pub IsFull : {T : Type 0} → (sender : List ℕ) → Call T → Option (Waiting T) → Rows T → Action T → Rows T → Type 0
IsFull sender call None old action new = ⊥
IsFull sender call (Some row) old action new =
    (action ≡ (overfilled sender call row old).action) × (new ≡ (overfilled sender call row old).rows)
