-- What outputs say to a client, and what is counted over them.
use Rattle.std.specs.Prelude.{◌≡◌, ℕ, ◌+◌, List, [], ◌∷◌, Some}
use Rattle.dbus_framing.specs.Messages.{Parts}
use Rattle.connection_worker.specs.service_events.specs.secret_calls.specs.declared.call.Call.{Call}
use Rattle.connection_worker.specs.service_events.specs.secret_calls.specs.declared.out.Out.{Out}
use Rattle.connection_worker.specs.service_events.specs.secret_calls.specs.declared.out.Out.TheVariants as out
use Rattle.connection_worker.specs.call_wire.specs.Said.{said}
use Rattle.client_core.specs.Replies.{shape_in, shape_of, HasNumbers}
use Rattle.connection_worker.specs.Written.{serial_behind}
use Rattle.load_plan.specs.declared.counts.Counts.{Counts}
use Rattle.load_plan.specs.Counts.{returned}
use Rattle.load_plan.specs.Answered.{call_with}
use Rattle.connection_worker.specs.service_events.specs.service_tables.specs.Opened.{Contents, opened_state}
use Rattle.connection_worker.specs.service_events.specs.service_tables.specs.State.{State}
use Rattle.connection_worker.specs.service_events.specs.Step.{step}
use Rattle.connection_worker.specs.service_events.specs.declared.event.Event.TheVariants as event
use Rattle.load_laws.specs.Requests.{the_connection}

-- what outputs say, after this many others
abbrev pub said_behind : ℕ → List Out → List Parts
said_behind taken [] = []
said_behind taken (out ∷ outs) = said out (serial_behind taken) ∷ said_behind (taken + 1) outs

-- From these counts the outputs lead to those: each reply among them is a return to one of the calls, with a body of the shape that the
-- call returns, and a signal counts nothing.
abbrev pub Counted : ℕ → List Call → Counts → List Out → Counts → Type 0
Counted seed calls counts [] after = after ≡ counts
Counted seed calls counts (out.Signal signal ∷ outs) after = Counted seed calls counts outs after
Counted seed calls counts (out.Error to name ∷ outs) after = ⊥
Counted seed calls counts (out.Return to body ∷ outs) after =
    (call : Call) × (call_with calls to.number ≡ Some call) × HasNumbers body × (shape_in body ≡ shape_of call)
    × Counted seed calls (returned seed counts call body) outs after

-- the service that starts with this, once the connection has joined
abbrev pub started : Contents → State
started contents = step (opened_state contents) (event.Connect the_connection)

-- all items were made, found and read, and no error was returned
abbrev pub all_counted : ℕ → Counts
all_counted items = record { items = items; found = items; read = items; errors = 0 }
