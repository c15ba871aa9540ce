-- How the outboxes are kept: a map from the connections' numbers to what is kept of each.
use Rattle.std.specs.Prelude.{◌≡◌, ℕ, ◌-◌, ◌≤◌, ◌<◌, ◌==◌, true, List, map, Option, vec_len, vec_capacity}
use Rattle.std.specs.Ordering.{nat_cmp}
use Rattle.std.specs.List.{AllByRecursion}
use Rattle.std.specs.List.Sorted.{IsStrictlySortedBy}
use Rattle.std.specs.Map.{keys_of, lookup}
use Rattle.std.specs.BTreeMap.{is_at}
use Rattle.secret_calls.specs.Outs.{most_waiting}
use Rattle.signal_fanout.specs.declared.outbox.Outbox.{Outbox}
use Rattle.signal_fanout.specs.declared.rows.ConnRow.{ConnRow}
use Rattle.signal_fanout.specs.Outboxes.{KeepRooms, Waiting, size_waiting, changed}

-- the row that a number and an outbox stand for
abbrev pub row_of : ℕ × Outbox → ConnRow
row_of entry = record {
  conn = record { 0 = entry.0 };
  waiting = entry.1.waiting.items;
  overrun = entry.1.overrun;
  leaving = entry.1.leaving;
  taken = entry.1.taken;
}

-- for how many more outputs an outbox has room
abbrev pub room_in : Outbox → ℕ
room_in outbox = vec_capacity outbox.waiting - vec_len outbox.waiting

-- the number of a connection, and for how many more outputs its outbox has room
abbrev pub room_of : ℕ × Outbox → ℕ × ℕ
room_of entry = (entry.0, room_in entry.1)

-- the table that the entries stand for
abbrev pub waiting_in : List (ℕ × Outbox) → Waiting
waiting_in entries = record { rows = map row_of entries; rooms = map room_of entries }

-- the bytes that wait are counted, and aren't too many
pub record IsCounted (outbox : Outbox) : Type 0 where
  pub counted : outbox.size ≡ size_waiting outbox.waiting.items
  pub bounded : outbox.size ≤ most_waiting

-- the bytes that wait are counted of each
abbrev pub AreCounted : List (ℕ × Outbox) → Type 0
AreCounted entries = AllByRecursion (λ entry. IsCounted entry.1) entries

-- each number is below this one
abbrev pub AreGiven : ℕ → List ℕ → Type 0
AreGiven next keys = AllByRecursion (λ key. key < next) keys

-- what is kept of a connection, if it is there
abbrev pub kept : ℕ → List (ℕ × Outbox) → Option Outbox
kept conn entries = lookup (is_at (nat_cmp conn)) entries

-- the new entries are the old ones with a change of one connection's row
pub record Changes (conn : ℕ) (change : ConnRow → ConnRow) (old new : List (ℕ × Outbox)) : Type 0 where
  pub rows : map row_of new ≡ changed (record { 0 = conn }) change (map row_of old)
  pub keys : keys_of new ≡ keys_of old
  pub counts : AreCounted old → AreCounted new

-- the new entries have the rows of the old ones, and no less room
pub record AreSame (old new : List (ℕ × Outbox)) : Type 0 where
  pub rows : map row_of new ≡ map row_of old
  pub rooms : KeepRooms (map room_of old) (map room_of new)
  pub keys : keys_of new ≡ keys_of old
  pub counts : AreCounted old → AreCounted new

-- the numbers rise, and what waits is counted
pub record AreKept (entries : List (ℕ × Outbox)) : Type 0 where
  pub ordered : IsStrictlySortedBy nat_cmp (keys_of entries)
  pub counts : AreCounted entries

-- ---- outputs that are expected

-- as many outputs are expected, and there is room for them
pub record IsReady (count : ℕ) (outbox : Outbox) : Type 0 where
  pub expected : outbox.expected ≡ count
  pub room : count ≤ room_in outbox

-- this is true of what is kept of a connection, if it is there
abbrev pub HoldsOf : (Outbox → Type 0) → ℕ → List (ℕ × Outbox) → Type 0
HoldsOf P conn entries = AllByRecursion (λ entry. (entry.0 == conn) ≡ true → P entry.1) entries
