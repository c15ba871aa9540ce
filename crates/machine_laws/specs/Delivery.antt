-- Which event of a list put out a message: what waits for a connection, and is taken, comes from there.
use Rattle.std.specs.Prelude.{ℕ, IsSomeAnd, IsTrue, List, Contains, slice_get}
use Rattle.kr_base.specs.declared.ids.ConnId.{ConnId}
use Rattle.service_events.specs.secret_calls.specs.declared.out.Out.{Out}
use Rattle.service_events.specs.service_tables.specs.Sent.{Recipient, Sent, is_for}
use Rattle.service_events.specs.service_tables.specs.State.{State}
use Rattle.service_events.specs.declared.event.Event.{Event}
use Rattle.service_events.specs.Step.{puts_out}
use Rattle.machine_laws.specs.Secrets.{state_at}

-- the event at this place of the list puts out this message, to its recipient
abbrev pub PutsOutAt : State → List Event → ℕ → Sent → Type 0
PutsOutAt start events place sent = IsSomeAnd (slice_get events place) (λ event. Contains (puts_out (state_at start events place) event) sent)

-- an event of the list put out this message, to the connection or to a recipient that it is among
abbrev pub WasPutOut : State → List Event → ConnId → Out → Type 0
WasPutOut start events conn message = (place : ℕ) × (to : Recipient) × IsTrue (is_for to conn) × PutsOutAt start events place (record { to = to; out = message })
