-- Secret Service API draft 0.2, interface Session: the sessions that are open, and who owns them.
use Rattle.std.specs.Prelude.{ℕ, ◌+◌, Bool, ◌==◌, ◌&&◌, ◌||◌, not, nat_le, nat_lt, List, [], ◌∷◌, ◌++◌, length, filter}
use Rattle.std.specs.List.{list_any}
use Rattle.kr_base.specs.declared.ids.ConnId.{ConnId}
use Rattle.kr_base.specs.declared.ids.SessionId.{SessionId}
use Rattle.session_table.specs.declared.row.SessionRow.{SessionRow}
use Rattle.session_table.specs.declared.row.Sessions.{Sessions}

-- no session is open, and none ever was
abbrev pub no_sessions : Sessions
no_sessions = record { rows = []; next = 1 }

-- whether the row is this session of this owner
abbrev pub is_of : ConnId → SessionId → SessionRow → Bool
is_of owner session row = (row.owner.0 == owner.0) && (row.session.0 == session.0)

-- whether the owner has this session
abbrev pub owns : ConnId → SessionId → Sessions → Bool
owns owner session sessions = list_any (is_of owner session) sessions.rows

-- the sessions of one owner
abbrev pub rows_of : ConnId → List SessionRow → List SessionRow
rows_of owner rows = filter (λ row. row.owner.0 == owner.0) rows

-- the most sessions that a connection may have at once
abbrev pub most_sessions : ℕ
most_sessions = 64

-- no session gets this number or a greater one
abbrev pub last_session : ℕ
last_session = 18446744073709551615

-- whether the owner can't open another session: it has as many as it may have, or no number is left
abbrev pub is_full : ConnId → Sessions → Bool
is_full owner sessions = nat_le most_sessions (length (rows_of owner sessions.rows)) || nat_le last_session sessions.next

-- the sessions with one more of this owner, which has the next number
abbrev pub opened : ConnId → Sessions → Sessions
opened owner sessions = record {
  rows =
      filter (λ row. nat_le row.owner.0 owner.0) sessions.rows
      ++ record { owner = owner; session = record { 0 = sessions.next } }
      ∷ filter (λ row. nat_lt owner.0 row.owner.0) sessions.rows;
  next = sessions.next + 1;
}

-- the sessions without this one of this owner
abbrev pub closed : ConnId → SessionId → Sessions → Sessions
closed owner session sessions = record sessions { rows = filter (λ row. not (is_of owner session row)) sessions.rows }

-- the sessions of all other owners
abbrev pub abandoned : ConnId → Sessions → Sessions
abandoned owner sessions = record sessions { rows = filter (λ row. not (row.owner.0 == owner.0)) sessions.rows }
