-- The events of one connection whose requests are served on one thread.
use Rattle.std.specs.Prelude.{◌≡◌, ℕ, Bool, nat_lt, if◌then◌else◌, IsTrue, List, [], ◌∷◌, ◌++◌, length, map, Option, None, Some}
use Rattle.std.specs.List.{AllByRecursion, flat_map}
use Rattle.std.specs.Option.{is_some}
use Rattle.kr_base.specs.declared.ids.ConnId.{ConnId}
use Rattle.service_prompts.specs.secret_calls.specs.declared.call.Request.{Request}
use Rattle.service_prompts.specs.secret_calls.specs.declared.work.Work.{Work}
use Rattle.service_prompts.specs.service_tables.specs.State.{State}
use Rattle.service_prompts.specs.service_tables.specs.declared.fate.Fate.{Fate}
use Rattle.service_events.specs.declared.event.Event.{Event}
use Rattle.service_events.specs.declared.event.Event.TheVariants as event
use Rattle.service_events.specs.declared.event.Output.{Output}
use Rattle.service_events.specs.declared.event.Output.TheVariants as output
use Rattle.service_events.specs.declared.event.Recorded.{Recorded}
use Rattle.service_prompts.specs.service_tables.specs.Connections.{waiting_for}
use Rattle.service_events.specs.Fates.{AreFaultless}
use Rattle.service_events.specs.Step.{output_of, step}
use Rattle.service_events.specs.Replay.{replay}

-- a derived key as it is recorded besides what it was derived from: the moment at which it was brought, and how what it asked for ended
pub record TimedKey : Type 0 where
  pub now : ℕ
  pub fates : List Fate

-- a request as it is recorded: with the moment at which it came, its salt, and how each storing ended that it asked for; and the key that
-- was derived for it, if it gave work and the key was recorded
pub record TimedRequest : Type 0 where
  pub request : Request
  pub now : ℕ
  pub salt : List ℕ
  pub fates : List Fate
  pub key : Option TimedKey

-- the requests alone
abbrev pub requests_of : List TimedRequest → List Request
requests_of asked = map (λ (a : TimedRequest). a.request) asked

-- what is recorded of a request of this connection
abbrev pub recorded_of : ConnId → TimedRequest → Recorded
recorded_of conn asked = record {
  arrival = record { conn = conn; request = asked.request; now = asked.now; salt = asked.salt };
  fates = asked.fates;
}

-- the event of a request
abbrev pub arrival : ConnId → TimedRequest → Event
arrival conn asked = event.Arrive (recorded_of conn asked)

-- no call of a device failed for a key, if there is one
abbrev pub IsKeyFaultless : Option TimedKey → Type 0
IsKeyFaultless None = Unit {0}
IsKeyFaultless (Some key) = AreFaultless key.fates

-- no call of a device failed in any of these requests, or for its key
abbrev pub AllFaultless : List TimedRequest → Type 0
AllFaultless asked = AllByRecursion (λ (a : TimedRequest). AreFaultless a.fates × IsKeyFaultless a.key) asked

-- the moments at which a request and its key came, in order
abbrev pub moments_with : ℕ → Option TimedKey → List ℕ
moments_with now None = now ∷ []
moments_with now (Some key) = now ∷ key.now ∷ []

-- the moments of requests, in order
abbrev pub moments_of : List TimedRequest → List ℕ
moments_of asked = flat_map (λ (a : TimedRequest). moments_with a.now a.key) asked

-- whether something waits for the connection
abbrev pub is_owed : ConnId → State → Bool
is_owed conn state = nat_lt 0 (length (waiting_for conn state.connections.rows))

-- what waits for the connection is taken, if anything does
abbrev pub taking : ConnId → State → List Event
taking conn state = if is_owed conn state then event.Take conn ∷ [] else []

-- the work in an answer
abbrev pub work_in : Output → Option Work
work_in (output.Arrived arrived) = arrived.work
work_in _ = None

-- the work that a request gives
abbrev pub work_for : ConnId → State → TimedRequest → Option Work
work_for conn state asked = work_in (output_of state (arrival conn asked))

-- the event of a key that was derived for work: it has the prompt, the round, the password, the salt and the iterations of the work
abbrev pub derivation : ConnId → Work → TimedKey → Event
derivation conn work key = event.Derived (record {
  conn = conn;
  prompt = work.prompt;
  round = work.round;
  password = work.password;
  salt = work.salt;
  iterations = work.iterations;
  now = key.now;
  fates = key.fates;
})

-- the key of work is brought, if it was recorded, and then what waits is taken
abbrev pub finishing : ConnId → State → Option Work → Option TimedKey → List Event
finishing conn state None key = []
finishing conn state (Some work) None = []
finishing conn state (Some work) (Some key) = derivation conn work key ∷ taking conn (step state (derivation conn work key))

-- a request arrives, and then what waits is taken
abbrev pub asking : ConnId → State → TimedRequest → List Event
asking conn state asked = arrival conn asked ∷ taking conn (step state (arrival conn asked))

-- a request arrives, and then what waits is taken; if it gave work, its key is brought after that, and then what waits is taken
abbrev pub turn : ConnId → State → TimedRequest → List Event
turn conn state asked =
    asking conn state asked ++ finishing conn (replay state (asking conn state asked)) (work_for conn state asked) asked.key

-- there is a key exactly if the request gave work
abbrev pub IsFinished : ConnId → State → TimedRequest → Type 0
IsFinished conn state asked = is_some asked.key ≡ is_some (work_for conn state asked)

-- there is none if it gave no work
abbrev pub MayBeFinished : ConnId → State → TimedRequest → Type 0
MayBeFinished conn state asked = IsTrue (is_some asked.key) → IsTrue (is_some (work_for conn state asked))

-- each request has its key if it gave work, but the last one may lack it
abbrev pub AreFinished : ConnId → State → List TimedRequest → Type 0
AreFinished conn state [] = Unit {0}
AreFinished conn state (asked ∷ []) = MayBeFinished conn state asked
AreFinished conn state (asked ∷ next ∷ more) = IsFinished conn state asked × AreFinished conn (replay state (turn conn state asked)) (next ∷ more)

-- the same, and the last one has it too
abbrev pub AllFinished : ConnId → State → List TimedRequest → Type 0
AllFinished conn state [] = Unit {0}
AllFinished conn state (asked ∷ more) = IsFinished conn state asked × AllFinished conn (replay state (turn conn state asked)) more

-- requests one after the other
abbrev pub turns : ConnId → State → List TimedRequest → List Event
turns conn state [] = []
turns conn state (asked ∷ more) = turn conn state asked ++ turns conn (replay state (turn conn state asked)) more

-- all events of the connection after its Connect: its requests, and at last it is gone
abbrev pub single : ConnId → State → List TimedRequest → List Event
single conn state asked = turns conn state asked ++ event.Gone conn ∷ []
