-- What is written for the outputs that a connection takes.
use Rattle.std.specs.Prelude.{ℕ, ◌+◌, ◌%◌, ◌==◌, if◌then◌else◌, List, [], ◌∷◌, ◌++◌}
use Rattle.kr_base.specs.declared.ids.ConnId.{ConnId}
use Rattle.service_desk.specs.secret_calls.specs.declared.out.Out.{Out}
use Rattle.service_desk.specs.secret_calls.specs.Outs.{spelled}
use Rattle.service_desk.specs.secret_calls.specs.Serials.{last_serial}
use Rattle.service_desk.specs.service_tables.specs.State.{State}
use Rattle.service_desk.specs.service_tables.specs.signal_fanout.specs.declared.rows.ConnRow.{ConnRow}
use Rattle.service_desk.specs.service_events.specs.declared.event.Event.{Event}
use Rattle.service_desk.specs.service_events.specs.declared.event.Event.TheVariants as event
use Rattle.service_desk.specs.service_tables.specs.Connections.{is_row, waiting_for}
use Rattle.service_desk.specs.service_events.specs.Step.{step}

-- what an event gives to the connection
abbrev pub given : ConnId → State → Event → List Out
given conn state (event.Take other) = if other.0 == conn.0 then waiting_for conn state.connections.rows else []
given conn state (event.Connect other) = []
given conn state (event.Arrive came) = []
given conn state (event.Derived came) = []
given conn state (event.Leave other) = []
given conn state (event.Gone other) = []

-- what events give to it, in order
abbrev pub given_by : ConnId → State → List Event → List Out
given_by conn state [] = []
given_by conn state (event ∷ events) = given conn state event ++ given_by conn (step state event) events

-- the serial of an output after this many others: 1, 2 and so on up to the last one, then 1 again
abbrev pub serial_behind : ℕ → ℕ
serial_behind taken = taken % last_serial + 1

-- outputs as they are written, after this many others
abbrev pub spelled_behind : ℕ → List Out → List ℕ
spelled_behind taken [] = []
spelled_behind taken (out ∷ outs) = spelled out (serial_behind taken) ++ spelled_behind (taken + 1) outs

-- what is written for what events give to the connection, after this many outputs
abbrev pub written_after : ConnId → ℕ → State → List Event → List ℕ
written_after conn taken state events = spelled_behind taken (given_by conn state events)

-- the number of outputs that the connection has taken, as its row counts them; 0 if it isn't there
abbrev pub taken_by : ConnId → List ConnRow → ℕ
taken_by conn [] = 0
taken_by conn (row ∷ rows) = if is_row conn row then row.taken else taken_by conn rows

-- all that is written for what events give to the connection: its serials continue after the outputs that it has taken
abbrev pub written : ConnId → State → List Event → List ℕ
written conn state events = written_after conn (taken_by conn state.connections.rows) state events
