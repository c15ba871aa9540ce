-- The outputs of the requests of one connection whose requests are served on one thread, and the replies among them.
use Rattle.std.specs.Prelude.{Bool, true, false, if◌then◌else◌, List, [], ◌∷◌, ◌++◌, Option, None, Some}
use Rattle.kr_base.specs.declared.ids.ConnId.{ConnId}
use Rattle.service_desk.specs.secret_calls.specs.declared.out.Out.{Out}
use Rattle.service_desk.specs.secret_calls.specs.declared.out.Out.TheVariants as out
use Rattle.service_desk.specs.secret_calls.specs.declared.work.Work.{Work}
use Rattle.service_desk.specs.service_tables.specs.State.{State}
use Rattle.service_desk.specs.service_tables.specs.Connections.{sent_to}
use Rattle.service_desk.specs.service_events.specs.Step.{message_of, puts_out, served}
use Rattle.service_desk.specs.service_events.specs.Replay.{replay}
use Rattle.service_desk.specs.service_events.specs.Single.{TimedKey, TimedRequest, arrival, asking, derivation, recorded_of, turn, work_for}

-- the outputs of a request for its connection, without those of its key: its reply, if one is wanted, and then the signals that it sends
abbrev pub asked_outputs : ConnId → State → TimedRequest → List Out
asked_outputs conn state asked = sent_to conn (puts_out state (arrival conn asked))

-- the outputs of the key of work for its connection, if it was recorded: the signals that it sends
abbrev pub key_outputs : ConnId → State → Option Work → Option TimedKey → List Out
key_outputs conn state None key = []
key_outputs conn state (Some work) None = []
key_outputs conn state (Some work) (Some key) = sent_to conn (puts_out state (derivation conn work key))

-- the outputs of a request for its connection: its reply, if one is wanted, then the signals that it sends, and then those of its key
abbrev pub outputs_of : ConnId → State → TimedRequest → List Out
outputs_of conn state asked =
    asked_outputs conn state asked ++ key_outputs conn (replay state (asking conn state asked)) (work_for conn state asked) asked.key

-- the outputs of requests, one after the other, each in the state after those before it
abbrev pub outputs_to : ConnId → State → List TimedRequest → List Out
outputs_to conn state [] = []
outputs_to conn state (asked ∷ more) = outputs_of conn state asked ++ outputs_to conn (replay state (turn conn state asked)) more

-- whether an output is a reply, and no signal
abbrev pub is_reply : Out → Bool
is_reply (out.Return to body) = true
is_reply (out.Error to name) = true
is_reply (out.Signal signal) = false

-- the reply to a request, if one is wanted: what its row of the table of calls answers
abbrev pub reply_to : ConnId → State → TimedRequest → List Out
reply_to conn state asked = if asked.request.wants_reply then message_of asked.request.serial (served (recorded_of conn asked) state).answer ∷ [] else []

-- the replies to requests, one after the other, each in the state after those before it
abbrev pub replies_to : ConnId → State → List TimedRequest → List Out
replies_to conn state [] = []
replies_to conn state (asked ∷ more) = reply_to conn state asked ++ replies_to conn (replay state (turn conn state asked)) more
