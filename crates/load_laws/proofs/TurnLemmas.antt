-- One request of a load after the other: what its turn leaves of the tables, and what its reply counts.
use Rattle.std.proofs.Common.{◌≡◌, ℕ, suc, Bool, true, false, cond, List, [], ◌∷◌, ◌++◌, Option, Some, None, Result, Ok, refl, sym, ap, ◌∙◌, subst, append-nil}
use Rattle.kr_base.specs.declared.ids.ConnId.{ConnId}
use Rattle.connection_worker.specs.service_events.specs.secret_calls.specs.declared.call.Call.{Call}
use Rattle.connection_worker.specs.service_events.specs.secret_calls.specs.declared.call.CallFault.{CallFault}
use Rattle.connection_worker.specs.service_events.specs.secret_calls.specs.declared.out.Body.{Body}
use Rattle.connection_worker.specs.service_events.specs.secret_calls.specs.declared.out.ErrorName.{ErrorName}
use Rattle.connection_worker.specs.service_events.specs.secret_calls.specs.declared.out.Out.{Out}
use Rattle.connection_worker.specs.service_events.specs.secret_calls.specs.declared.out.Out.TheVariants as out
use Rattle.connection_worker.specs.service_events.specs.secret_calls.specs.declared.work.Work.{Work}
use Rattle.client_core.specs.Replies.{shape_in, shape_of, HasNumbers}
use Rattle.connection_worker.specs.service_events.specs.alias_table.specs.Table.{AliasRows}
use Rattle.connection_worker.specs.service_events.specs.collection_table.specs.Rows.{Rows}
use Rattle.prompt_state.specs.declared.row.Prompts.{Prompts}
use Rattle.session_table.specs.declared.row.Sessions.{Sessions}
use Rattle.connection_worker.specs.service_events.specs.service_tables.specs.State.{State}
use Rattle.connection_worker.specs.service_events.specs.service_tables.specs.declared.rows.ConnRows.{ConnRows}
use Rattle.connection_worker.specs.service_events.specs.declared.event.Derivation.{Derivation}
use Rattle.connection_worker.specs.service_events.specs.declared.event.Event.{Event}
use Rattle.connection_worker.specs.service_events.specs.declared.event.Event.TheVariants as event
use Rattle.connection_worker.specs.service_events.specs.Fates.{AreFaultless}
use Rattle.connection_worker.specs.service_events.specs.Run.{AreFates, AreFatesOf, Ran, asked, ran, run}
use Rattle.connection_worker.specs.service_events.specs.Step.{Fits, brought_with, finished, message_of, plan_of, row_of, served, step, work_of}
use Rattle.connection_worker.specs.service_events.specs.Replay.{replay, Legal}
use Rattle.connection_worker.specs.service_events.specs.Single.{AllFaultless, AllFinished, IsFinished, IsKeyFaultless, TimedKey, TimedRequest, arrival, asking, derivation, finishing, is_owed, recorded_of, taking, turn, turns, work_for}
use Rattle.connection_worker.specs.service_events.proofs.ReplayLemmas.{replay-append}
use Rattle.connection_worker.specs.Replies.{reply_to, replies_to}
use Rattle.load_plan.specs.declared.counts.Counts.{Counts}
use Rattle.load_plan.specs.Counts.{returned}
use Rattle.load_plan.specs.Answered.{call_with}
use Rattle.load_laws.specs.Requests.{AreAsked, HasFrom, IsAsked, the_connection}
use Rattle.load_laws.specs.Outputs.{Counted}

-- ---- the tables

-- a state without its connections
pub record Tables : Type 0 where
  pub sessions : Sessions
  pub prompts : Prompts
  pub collections : Rows
  pub aliases : Option AliasRows
  pub used : List (List ℕ)

abbrev pub tables : State → Tables
tables state = record {
  sessions = state.sessions;
  prompts = state.prompts;
  collections = state.collections;
  aliases = state.aliases;
  used = state.used;
}

-- a state with these connections
abbrev pub with_tables : ConnRows → Tables → State
with_tables connections these = record {
  connections = connections;
  sessions = these.sessions;
  prompts = these.prompts;
  collections = these.collections;
  aliases = these.aliases;
  used = these.used;
}

-- what is taken changes none of them
pub taken-tables : (conn : ConnId) (state : State) → tables (replay state (taking conn state)) ≡ tables state
taken-tables conn state = pass (is_owed conn state)
  where
    pass : (b : Bool) → tables (replay state (cond b (event.Take conn ∷ []) [])) ≡ tables state
    pass true = refl
    pass false = refl

pub asked-tables : (conn : ConnId) (state : State) (a : TimedRequest) → tables (replay state (asking conn state a)) ≡ tables (served (recorded_of conn a) state).state
asked-tables conn state a = taken-tables conn (step state (arrival conn a))

-- a request that gave no work
pub quiet-turn : (conn : ConnId) (state : State) (a : TimedRequest) → work_for conn state a ≡ None → tables (replay state (turn conn state a)) ≡ tables (served (recorded_of conn a) state).state
quiet-turn conn state a none =
    let asks = asking conn state a in
    let here = replay state asks in
    let same : turn conn state a ≡ asks = ap (λ (w : Option Work). asks ++ finishing conn here w a.key) none ∙ append-nil asks in
    ap (λ (events : List Event). tables (replay state events)) same ∙ asked-tables conn state a

-- the key of work as it is recorded
abbrev pub derivation_of : ConnId → Work → TimedKey → Derivation
derivation_of conn work key = record {
  conn = conn;
  prompt = work.prompt;
  round = work.round;
  password = work.password;
  salt = work.salt;
  iterations = work.iterations;
  now = key.now;
  fates = key.fates;
}

-- a request that gave work, with its key
pub keyed-turn : (conn : ConnId) (state : State) (a : TimedRequest) (work : Work) (key : TimedKey) → work_for conn state a ≡ Some work → a.key ≡ Some key
    → tables (replay state (turn conn state a)) ≡ tables (finished (derivation_of conn work key) (replay state (asking conn state a))).state
keyed-turn conn state a work key works keyed =
    let asks = asking conn state a in
    let here = replay state asks in
    let same : turn conn state a ≡ asks ++ finishing conn here (Some work) (Some key) = λ i. asks ++ finishing conn here (works i) (keyed i) in
    ap (λ (events : List Event). tables (replay state events)) same
    ∙ ap tables (replay-append state asks (finishing conn here (Some work) (Some key)))
    ∙ taken-tables conn (step here (derivation conn work key))

-- ---- one request

pub legal-front : (state : State) (events more : List Event) → Legal state (events ++ more) → Legal state events
legal-front state [] more legal = tt
legal-front state (event ∷ events) more legal = (legal.0, legal-front (step state event) events more legal.1)

pub legal-behind : (state : State) (events more : List Event) → Legal state (events ++ more) → Legal (replay state events) more
legal-behind state [] more legal = legal
legal-behind state (event ∷ events) more legal = legal-behind (step state event) events more legal.1

-- the requests of these calls, from this state on
pub record Runs (all : List Call) (serial : ℕ) (calls : List Call) (asked : List TimedRequest) (state : State) : Type 0 where
  pub are : AreAsked serial calls asked
  pub places : HasFrom all serial calls
  pub legal : Legal state (turns the_connection state asked)
  pub faultless : AllFaultless asked
  pub finished : AllFinished the_connection state asked

-- the first of them
pub record First (all : List Call) (serial : ℕ) (call : Call) (calls : List Call) (a : TimedRequest) (more : List TimedRequest) (state : State) : Type 0 where
  pub is : IsAsked call serial a
  pub placed : call_with all serial ≡ Some call
  pub legal : Legal state (turn the_connection state a)
  pub faultless : AreFaultless a.fates × IsKeyFaultless a.key
  pub finished : IsFinished the_connection state a
  pub rest : Runs all (suc serial) calls more (replay state (turn the_connection state a))

pub first-of : (all : List Call) (serial : ℕ) (call : Call) (calls : List Call) (a : TimedRequest) (more : List TimedRequest) (state : State) → Runs all serial (call ∷ calls) (a ∷ more) state
    → First all serial call calls a more state
first-of all serial call calls a more state runs =
    let now = turn the_connection state a in
    let next = replay state now in
    record {
      is = runs.are.0;
      placed = runs.places.0;
      legal = legal-front state now (turns the_connection next more) runs.legal;
      faultless = runs.faultless.0;
      finished = runs.finished.0;
      rest = record {
        are = runs.are.1;
        places = runs.places.1;
        legal = legal-behind state now (turns the_connection next more) runs.legal;
        faultless = runs.faultless.1;
        finished = runs.finished.1;
      };
    }

-- what a call leads to
abbrev pub ran_call : Call → TimedRequest → State → Ran
ran_call call a state = run the_connection (brought_with a.now (Ok call)) (row_of a.salt call (asked the_connection (brought_with a.now (Ok call)) state)) a.fates state

pub served-call : (call : Call) (a : TimedRequest) (state : State) → a.request.call ≡ Ok call → served (recorded_of the_connection a) state ≡ ran_call call a state
served-call call a state is = ap (λ (given : Result Call CallFault). ran the_connection (brought_with a.now given) (plan_of a.salt given) a.fates state) is

-- there is one fate for each storing that it asks for
pub fates-call : (call : Call) (a : TimedRequest) (state : State) → a.request.call ≡ Ok call → Legal state (turn the_connection state a)
    → AreFates the_connection (brought_with a.now (Ok call)) (row_of a.salt call (asked the_connection (brought_with a.now (Ok call)) state)) a.fates state
fates-call call a state is legal =
    let fits : Fits state (arrival the_connection a) = legal.0 in
    subst (λ (given : Result Call CallFault). AreFatesOf the_connection (brought_with a.now given) (plan_of a.salt given) a.fates state) is fits.1.fates

-- it gives this work
pub work-call : (call : Call) (a : TimedRequest) (state : State) → a.request.call ≡ Ok call
    → work_for the_connection state a ≡ work_of (Ok call) (served (recorded_of the_connection a) state).answer (served (recorded_of the_connection a) state).state
work-call call a state is =
    ap (λ (given : Result Call CallFault). work_of given (served (recorded_of the_connection a) state).answer (served (recorded_of the_connection a) state).state) is

-- ---- what is counted

-- a reply that counts, and then others
pub counted-on : (seed : ℕ) (all : List Call) (counts after : Counts) (call : Call) (serial : ℕ) (a : TimedRequest) (more : List TimedRequest) (state : State) (body : Body)
    → IsAsked call serial a → call_with all serial ≡ Some call → HasNumbers body → shape_in body ≡ shape_of call → (served (recorded_of the_connection a) state).answer ≡ Ok body
    → Counted seed all (returned seed counts call body) (replies_to the_connection (replay state (turn the_connection state a)) more) after
    → Counted seed all counts (replies_to the_connection state (a ∷ more)) after
counted-on seed all counts after call serial a more state body is placed numbers shape answer behind =
    let rest = replies_to the_connection (replay state (turn the_connection state a)) more in
    let wanted : reply_to the_connection state a ≡ message_of a.request.serial (served (recorded_of the_connection a) state).answer ∷ [] =
    ap (λ (b : Bool). cond b (message_of a.request.serial (served (recorded_of the_connection a) state).answer ∷ []) []) is.wants in
    let reply : reply_to the_connection state a ≡ out.Return a.request.serial body ∷ [] =
    wanted ∙ ap (λ (r : Result Body ErrorName). message_of a.request.serial r ∷ []) answer in
    let there : call_with all a.request.serial.number ≡ Some call = ap (call_with all) is.serial_is ∙ placed in
    subst (λ (outs : List Out). Counted seed all counts (outs ++ rest) after) (sym reply) (call, there, numbers, shape, behind)
