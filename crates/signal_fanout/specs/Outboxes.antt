-- The connections' rows: the outputs that wait for each, what becomes of a row, and for how many more outputs there is room.
use Rattle.std.specs.Prelude.{◌≡◌, ℕ, ◌+◌, ◌<◌, ◌≤◌, Bool, true, false, ◌==◌, not, nat_le, nat_lt, if◌then◌else◌, List, [], ◌∷◌, ◌++◌, length, filter, map, min, sum_by, Option}
use Rattle.std.specs.List.{AllByRecursion, list_any, find}
use Rattle.std.specs.Option.{option_map, option_map_or}
use Rattle.kr_base.specs.declared.ids.ConnId.{ConnId}
use Rattle.secret_calls.specs.declared.out.Out.{Out}
use Rattle.secret_calls.specs.Outs.{spelled, most_waiting}
use Rattle.signal_fanout.specs.declared.rows.ConnRow.{ConnRow}
use Rattle.signal_fanout.specs.declared.rows.DeskRow.{DeskRow}
use Rattle.signal_fanout.specs.declared.rows.Delivery.{Delivery}
use Rattle.signal_fanout.specs.Sent.{Recipient, One, Everyone, Sent, is_for}

-- the row of a connection that joins
abbrev pub new_row : ConnId → ConnRow
new_row conn = record { conn = conn; waiting = []; overrun = false; leaving = false; taken = 0 }

-- whether the row is this connection's
abbrev pub is_row : ConnId → ConnRow → Bool
is_row conn row = row.conn.0 == conn.0

-- whether the connection is there
abbrev pub has : ConnId → List ConnRow → Bool
has conn rows = list_any (is_row conn) rows

-- the numbers of all of these connections are below this number
abbrev pub AreBelow : ℕ → List ConnRow → Type 0
AreBelow number rows = AllByRecursion (λ (row : ConnRow). row.conn.0 < number) rows

-- the rows with a change of one connection's
abbrev pub changed : ConnId → (ConnRow → ConnRow) → List ConnRow → List ConnRow
changed conn change rows = map (λ row. if is_row conn row then change row else row) rows

-- the rows of all others
abbrev pub without : ConnId → List ConnRow → List ConnRow
without conn rows = filter (λ row. not (is_row conn row)) rows

-- how many bytes an output has, whatever serial it is sent with
unfoldable pub size_of : Out → ℕ
size_of out = length (spelled out 1)

-- how many bytes wait
abbrev pub size_waiting : List Out → ℕ
size_waiting outs = sum_by size_of outs

-- The row with one more output. If more bytes would then wait than may, the output isn't added, and the flag of a
-- connection that has lost an output is set; nothing is added after that.
abbrev pub with_out : Out → ConnRow → ConnRow
with_out out row =
    if row.overrun then row
    else (if nat_le (size_waiting row.waiting + size_of out) most_waiting
    then record row { waiting = row.waiting ++ out ∷ [] }
    else record row { overrun = true })

-- the row of a connection that makes no more requests
abbrev pub left : ConnRow → ConnRow
left row = record row { leaving = true }

-- how many outputs a connection took is counted up to this number
abbrev pub most_taken : ℕ
most_taken = 18446744073709551615

-- the row of a connection that took what waited; the count stays at its last number once there
abbrev pub emptied : ConnRow → ConnRow
emptied row = record row { waiting = []; taken = min (row.taken + length row.waiting) most_taken }

-- whether something waits
abbrev pub waits : ConnRow → Bool
waits row = nat_lt 0 (length row.waiting)

-- the status of a connection with this row
abbrev pub told_of : ConnRow → DeskRow
told_of row = record { waits = waits row; overrun = row.overrun; leaving = row.leaving }

-- the status of a connection; None if there is no such connection
abbrev pub desk_of : ConnId → List ConnRow → Option DeskRow
desk_of conn rows = option_map told_of (find (is_row conn) rows)

-- whether an output of the connection was lost; of none if it isn't there
abbrev pub is_overrun : ConnId → List ConnRow → Bool
is_overrun conn rows = option_map_or (λ (told : DeskRow). told.overrun) (desk_of conn rows) false

-- what waits for a connection
abbrev pub waiting_for : ConnId → List ConnRow → List Out
waiting_for conn [] = []
waiting_for conn (row ∷ rows) = if is_row conn row then row.waiting else waiting_for conn rows

-- the rows once an output is delivered to its recipient
abbrev pub given_out : Sent → List ConnRow → List ConnRow
given_out sent rows = map (λ (row : ConnRow). if is_for sent.to row.conn then with_out sent.out row else row) rows

-- the rows with the outputs delivered, in order
abbrev pub delivered : List Sent → List ConnRow → List ConnRow
delivered [] rows = rows
delivered (sent ∷ more) rows = delivered more (given_out sent rows)

-- the outputs among these that go to this connection, if it is there
abbrev pub sent_to : ConnId → List Sent → List Out
sent_to conn [] = []
sent_to conn (sent ∷ more) = if is_for sent.to conn then sent.out ∷ sent_to conn more else sent_to conn more

-- no two rows are of one connection
abbrev pub AreDistinct : List ConnRow → Type 0
AreDistinct [] = Unit {0}
AreDistinct (row ∷ rows) = (has row.conn rows ≡ false) × AreDistinct rows

-- ---- deliveries

-- a delivery of the output to each connection of the rows
abbrev pub for_each : Out → List ConnRow → List Delivery
for_each out rows = map (λ (row : ConnRow). record { to = row.conn; out = out }) rows

-- the deliveries of an output to its recipient
abbrev pub deliveries_of : Recipient → Out → List ConnRow → List Delivery
deliveries_of (One conn) out rows = record { to = conn; out = out } ∷ []
deliveries_of Everyone out rows = for_each out rows

-- the deliveries of these outputs, in order; what goes to everyone is delivered to each connection of these rows
abbrev pub spread : List ConnRow → List Sent → List Delivery
spread rows [] = []
spread rows (sent ∷ more) = deliveries_of sent.to sent.out rows ++ spread rows more

-- the rows with these deliveries made, in order
abbrev pub handed : List Delivery → List ConnRow → List ConnRow
handed [] rows = rows
handed (delivery ∷ more) rows = handed more (changed delivery.to (with_out delivery.out) rows)

-- the outputs among these that are delivered to this connection
abbrev pub outs_to : ConnId → List Delivery → List Out
outs_to conn [] = []
outs_to conn (delivery ∷ more) = if delivery.to.0 == conn.0 then delivery.out ∷ outs_to conn more else outs_to conn more

-- ---- room

-- for how many more outputs of each connection there is room, by the connection's number
abbrev pub Rooms : Type 0
Rooms = List (ℕ × ℕ)

-- there is room for this many more outputs of a connection, if it is there
abbrev pub HasRoom : ℕ → ConnId → Rooms → Type 0
HasRoom count conn rooms = AllByRecursion (λ room. (room.0 == conn.0) ≡ true → count ≤ room.1) rooms

-- no connection has room for fewer outputs than before
abbrev pub KeepRooms : Rooms → Rooms → Type 0
KeepRooms old new = (count : ℕ) (conn : ConnId) → HasRoom count conn old → HasRoom count conn new

-- this many outputs of a connection, with one more if the connection is the one that gets it
abbrev pub with_one : ConnId → ConnId → ℕ → ℕ
with_one conn other count = if conn.0 == other.0 then count + 1 else count

-- room is spent for one more output of a connection
abbrev pub Spends : ConnId → Rooms → Rooms → Type 0
Spends conn old new = (count : ℕ) (other : ConnId) → HasRoom (with_one conn other count) other old → HasRoom count other new

-- how many of these deliveries are for the connection
abbrev pub count_to : ConnId → List Delivery → ℕ
count_to conn deliveries = length (outs_to conn deliveries)

-- there is room for all of these deliveries
abbrev pub HasRoomFor : List Delivery → Rooms → Type 0
HasRoomFor deliveries rooms = (conn : ConnId) → HasRoom (count_to conn deliveries) conn rooms

-- ---- the table

-- the rows of all connections, by rising number, and for how many more outputs of each there is room
pub record Waiting : Type 0 where
  pub rows : List ConnRow
  pub rooms : Rooms
