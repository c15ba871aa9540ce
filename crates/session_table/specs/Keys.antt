-- How the table keeps its rows: pairs of an owner's and a session's number, in order.
use Rattle.std.specs.Prelude.{ℕ, ◌^◌, ◌<◌, Bool, ◌==◌, ◌&&◌, List, map}
use Rattle.std.specs.Ordering.{nat_cmp, ordering_then}
use Rattle.std.specs.List.{AllByRecursion}
use Rattle.std.specs.List.Sorted.{IsStrictlySortedBy}
use Rattle.std.specs.declared.cmp.Ordering.{Ordering}
use Rattle.session_table.specs.declared.row.SessionRow.{SessionRow}
use Rattle.session_table.specs.declared.row.Sessions.{Sessions}

-- the order of pairs: by the owner, then by the session
abbrev pub pair_cmp : ℕ × ℕ → ℕ × ℕ → Ordering
pair_cmp a b = ordering_then (nat_cmp a.0 b.0) (nat_cmp a.1 b.1)

-- the pairs rise
abbrev pub AreInOrder : List (ℕ × ℕ) → Type 0
AreInOrder keys = IsStrictlySortedBy pair_cmp keys

-- whether the pair is of this owner and this session
abbrev pub is_pair : ℕ → ℕ → ℕ × ℕ → Bool
is_pair owner session key = (key.0 == owner) && (key.1 == session)

-- the row that a pair stands for
abbrev pub row_of : ℕ × ℕ → SessionRow
row_of key = record { owner = record { 0 = key.0 }; session = record { 0 = key.1 } }

-- the sessions that the pairs stand for
abbrev pub sessions_of : List (ℕ × ℕ) → ℕ → Sessions
sessions_of keys next = record { rows = map row_of keys; next = next }

-- each session's number was used: it is below the next one
abbrev pub AreGiven : ℕ → List (ℕ × ℕ) → Type 0
AreGiven next keys = AllByRecursion (λ key. key.1 < next) keys

-- each session's number is one of 64 bits
abbrev pub AreNumbers : List (ℕ × ℕ) → Type 0
AreNumbers keys = AreGiven (2 ^ 64) keys

-- the table's pairs: in order, and each with a number that was used
pub record AreKept (next : ℕ) (keys : List (ℕ × ℕ)) : Type 0 where
  pub ordered : AreInOrder keys
  pub given : AreGiven next keys
