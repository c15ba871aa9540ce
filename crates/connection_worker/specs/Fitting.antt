-- Which outputs of the only connection are lost: those of a request, or of its key, that can't all wait together (docs/SERVICE.md, "What waits").
use Rattle.std.specs.Prelude.{ℕ, ◌≤◌, IsTrue, List, [], ◌∷◌}
use Rattle.std.specs.Option.{is_some}
use Rattle.kr_base.specs.declared.ids.ConnId.{ConnId}
use Rattle.service_desk.specs.secret_calls.specs.declared.out.Out.{Out}
use Rattle.service_desk.specs.secret_calls.specs.Outs.{most_waiting}
use Rattle.service_desk.specs.service_tables.specs.Connections.{size_waiting}
use Rattle.service_desk.specs.service_tables.specs.Sent.{Everyone, One, Recipient, Sent}
use Rattle.service_desk.specs.service_tables.specs.State.{State}
use Rattle.service_desk.specs.service_events.specs.Replay.{replay}
use Rattle.service_desk.specs.service_events.specs.Single.{TimedRequest, asking, turn, work_for}
use Rattle.connection_worker.specs.Replies.{asked_outputs, key_outputs}
use Rattle.connection_worker.specs.declared.ending.End.{End}
use Rattle.connection_worker.specs.declared.ending.End.TheVariants as end

-- these outputs can wait together
abbrev pub CanWaitTogether : List Out → Type 0
CanWaitTogether outs = size_waiting outs ≤ most_waiting

-- the outputs of a request can: its reply and the signals that it sends
abbrev pub RequestFits : ConnId → State → TimedRequest → Type 0
RequestFits conn state asked = CanWaitTogether (asked_outputs conn state asked)

-- so can those of its key, if it was recorded
abbrev pub KeyFits : ConnId → State → TimedRequest → Type 0
KeyFits conn state asked = CanWaitTogether (key_outputs conn (replay state (asking conn state asked)) (work_for conn state asked) asked.key)

-- The outputs of each request can wait together, and those of each key, each in the state that it is served in.
abbrev pub FitTogether : ConnId → State → List TimedRequest → Type 0
FitTogether conn state [] = Unit {0}
FitTogether conn state (asked ∷ more) = RequestFits conn state asked × KeyFits conn state asked × FitTogether conn (replay state (turn conn state asked)) more

-- those of a request can if its key was recorded
abbrev pub FitsBefore : ConnId → State → TimedRequest → Type 0
FitsBefore conn state asked = IsTrue (is_some asked.key) → RequestFits conn state asked

-- The same as FitTogether of all of them but what came last, which is the last request or its key.
abbrev pub FitBefore : ConnId → State → List TimedRequest → Type 0
FitBefore conn state [] = Unit {0}
FitBefore conn state (asked ∷ []) = FitsBefore conn state asked
FitBefore conn state (asked ∷ next ∷ more) = RequestFits conn state asked × KeyFits conn state asked × FitBefore conn (replay state (turn conn state asked)) (next ∷ more)

-- The outputs fit, except at these ends: at Overrun what came last has too many bytes, and at WriteFault and Memory it may have.
abbrev pub HasFit : End → ConnId → State → List TimedRequest → Type 0
HasFit end.Overrun conn state asked = FitBefore conn state asked × ¬ (FitTogether conn state asked)
HasFit end.WriteFault conn state asked = FitBefore conn state asked
HasFit end.Memory conn state asked = FitBefore conn state asked
HasFit _ conn state asked = FitTogether conn state asked

-- ---- what goes to everyone

-- an output before others, if it goes to every connection
abbrev pub if_announced : Recipient → Out → List Out → List Out
if_announced Everyone out outs = out ∷ outs
if_announced (One conn) out outs = outs

-- the outputs among these that go to every connection
abbrev pub announced_in : List Sent → List Out
announced_in [] = []
announced_in (sent ∷ more) = if_announced sent.to sent.out (announced_in more)

-- so many bytes to every connection fit beside all that an event may put out for one connection alone
abbrev pub most_beside : ℕ
most_beside = 524012
