-- Why a connection is no longer served, and what was written by then (docs/PROOFS.md, "Answers and their causes").
use Rattle.std.specs.Prelude.{◌≡◌, ◌≢◌, ℕ, ◌+◌, ◌≤◌, ◌⊎◌, List, [], ◌++◌, length}
use Rattle.std.specs.Io.KnownBytes.{IsAtEnd}
use Rattle.kr_outside.specs.Faults.{Rose}
use Rattle.dbus_auth.specs.Handshake as shaking
use Rattle.dbus_framing.specs.declared.violation.Violation.{Violation}
use Rattle.dbus_framing.specs.declared.violation.Violation.TheVariants as violation
use Rattle.dbus_framing.specs.Streams.{Breaks, BreaksNone}
use Rattle.service_desk.specs.service_tables.specs.Limits.{IsSpent}
use Rattle.connection_worker.specs.declared.ending.End.{End}
use Rattle.connection_worker.specs.declared.ending.End.TheVariants as end
use Rattle.connection_worker.specs.Arrivals.{AllRequests, FirstRequests}
use Rattle.connection_worker.specs.Handshakes.{most_bytes, Awaits, IsRefusedFor}
use Rattle.kr_base.specs.declared.ids.ConnId.{ConnId}
use Rattle.service_desk.specs.service_tables.specs.State.{State}
use Rattle.service_desk.specs.service_events.specs.Single.{AllFinished, AreFinished, TimedRequest, requests_of}
use Rattle.connection_worker.specs.Streams.{Input, Output, IsStill, Gave, GaveFront}

-- all complete requests after the handshake were recorded, and the rest is this one
pub record AllServed (run : shaking.Run) (asked : List TimedRequest) (rest : List ℕ) : Type 0 where
  pub behind : List ℕ
  pub opened : run.end ≡ shaking.opened behind
  pub all : AllRequests most_bytes behind (requests_of asked) rest

-- the first of them were recorded, or the handshake isn't open and none was
abbrev pub FirstServed : shaking.Run → List TimedRequest → Type 0
FirstServed run asked = (asked ≡ []) ⊎ ((behind : List ℕ) × (run.end ≡ shaking.opened behind) × FirstRequests most_bytes behind (requests_of asked))

-- The rest after the messages shows this violation. Bytes never show EndInside; it comes if the input ended
-- with a rest that shows no violation.
abbrev pub IsViolated : Violation → Input → List ℕ → Type 0
IsViolated violation.EndInside to rest = (rest ≢ []) × IsAtEnd to.left × BreaksNone most_bytes rest
IsViolated cause to rest = Breaks most_bytes rest cause

-- The cause of each end: by the run of the handshake over the bytes read, the requests that were recorded, the number of
-- the run's events up to then, and the streams before and after. The input's count of faults rose if the input failed,
-- and didn't rise at any other end.
abbrev pub HasCause : End → shaking.Run → List TimedRequest → ℕ → Input → Input → Output → Output → Type 0
-- BEGIN came, each call of the messages was recorded, and the input ended between two messages
HasCause end.Done run asked count from to sink after = AllServed run asked [] × IsAtEnd to.left × IsStill from to
-- BEGIN came, each call of the messages was recorded, and the rest breaks a rule
HasCause (end.Violation cause) run asked count from to sink after = ((rest : List ℕ) × AllServed run asked rest × IsViolated cause to rest) × IsStill from to
-- the handshake was refused for this; EndedEarly if the input ended before BEGIN
HasCause (end.AuthRefused why) run asked count from to sink after = IsRefusedFor run.end to why × (asked ≡ []) × IsStill from to
-- the input's count rose; each complete call in what was read was recorded, and the rest shows no violation
HasCause end.ReadFault run asked count from to sink after =
    Rose from.faults to.faults × ((Awaits run.end × (asked ≡ [])) ⊎ ((rest : List ℕ) × AllServed run asked rest × BreaksNone most_bytes rest))
-- the output's count rose
HasCause end.WriteFault run asked count from to sink after = Rose sink.faults after.faults × FirstServed run asked × IsStill from to
-- all events that can be counted were recorded
HasCause end.EventsSpent run asked count from to sink after = IsSpent count × FirstServed run asked × IsStill from to
-- at any time
HasCause end.Memory run asked count from to sink after = FirstServed run asked × IsStill from to
-- an output was lost (HasFit in Fitting.antt)
HasCause end.Overrun run asked count from to sink after = FirstServed run asked × IsStill from to
-- nobody else ends the only connection of a service
HasCause _ run asked count from to sink after = ⊥

-- All of the output is written before the end, unless the output failed or memory ran out: then a prefix of it is.
abbrev pub HasWritten : End → Output → Output → List ℕ → Type 0
HasWritten end.WriteFault sink after text = GaveFront sink after text
HasWritten end.Memory sink after text = GaveFront sink after text
HasWritten _ sink after text = Gave sink after text

-- The requests for which a moment and a salt were taken and which weren't recorded, after those that were, and the moments that were taken
-- for keys which weren't: the next one, if no further event can be counted; the next one or none, if memory ran out; none at every other end.
abbrev pub HasRefused : End → shaking.Run → List TimedRequest → List TimedRequest → List ℕ → Type 0
HasRefused end.EventsSpent run asked refused late = (length refused + length late ≡ 1) × FirstServed run (asked ++ refused)
HasRefused end.Memory run asked refused late = (length refused + length late ≤ 1) × FirstServed run (asked ++ refused)
HasRefused _ run asked refused late = (refused ≡ []) × (late ≡ [])

-- Each request that gave work has its key, unless it is the last one and the sink failed, an output was lost, no further event can be counted
-- or memory ran out.
abbrev pub HasFinished : End → ConnId → State → List TimedRequest → List TimedRequest → Type 0
HasFinished end.WriteFault conn state asked refused = AreFinished conn state (asked ++ refused)
HasFinished end.Overrun conn state asked refused = AreFinished conn state (asked ++ refused)
HasFinished end.EventsSpent conn state asked refused = AreFinished conn state (asked ++ refused)
HasFinished end.Memory conn state asked refused = AreFinished conn state (asked ++ refused)
HasFinished _ conn state asked refused = AllFinished conn state asked
