-- A derived key changes nothing of the connections but what waits for them.
use Rattle.std.proofs.Common.{◌≡◌, ap}
use Rattle.kr_base.specs.declared.ids.ConnId.{ConnId}
use Rattle.service_desk.specs.secret_calls.specs.declared.work.Work.{Work}
use Rattle.service_desk.specs.service_tables.specs.Connections.{delivered}
use Rattle.service_desk.specs.service_tables.specs.State.{State}
use Rattle.service_desk.specs.service_tables.specs.declared.rows.ConnRows.{ConnRows}
use Rattle.service_desk.specs.service_events.specs.declared.event.Derivation.{Derivation}
use Rattle.service_desk.specs.service_events.specs.declared.event.Event.TheVariants as event
use Rattle.service_desk.specs.service_events.specs.Derivation.{derived}
use Rattle.service_desk.specs.service_events.specs.Plan.{Plan}
use Rattle.service_desk.specs.service_events.specs.Run.{asked}
use Rattle.service_desk.specs.service_events.specs.Single.{TimedKey}
use Rattle.service_desk.specs.service_events.specs.Step.{brought_derived, finished, step, terms_of}
use Rattle.service_desk.specs.service_events.proofs.RunLemmas.{connections-run}

-- what is recorded of the key of work
abbrev pub derivation_of : ConnId → Work → TimedKey → Derivation
derivation_of conn work key = record {
  conn = conn;
  prompt = work.prompt;
  round = work.round;
  password = work.password;
  salt = work.salt;
  iterations = work.iterations;
  now = key.now;
  fates = key.fates;
}

-- the plan of a derived key, in a state
abbrev pub key_plan : Derivation → State → Plan
key_plan came state = derived came.prompt came.round (terms_of came) (asked came.conn (brought_derived came) state)

-- what a key sends is delivered, and nothing else becomes of the connections
pub derived-connections : (came : Derivation) (state : State) → (step state (event.Derived came)).connections.rows ≡ delivered (finished came state).sends state.connections.rows
derived-connections came state =
    ap (λ (c : ConnRows). delivered (finished came state).sends c.rows) (connections-run came.conn (brought_derived came) (key_plan came state) came.fates state)
