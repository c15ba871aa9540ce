-- The next session's number only rises, from 1 on.
use Rattle.std.proofs.Common.{◌<◌, List, [], ◌∷◌, arith}
use Rattle.kr_base.specs.declared.ids.ConnId.{ConnId}
use Rattle.service_events.specs.service_tables.specs.declared.fate.Fate.{Fate}
use Rattle.service_events.specs.service_tables.specs.declared.fate.ReadFate.{ReadFate}
use Rattle.service_events.specs.service_tables.specs.Opened.{Contents, opened_state}
use Rattle.service_events.specs.service_tables.specs.Sound.{AreSoundContents}
use Rattle.service_events.specs.service_tables.specs.State.{State}
use Rattle.service_events.specs.service_tables.specs.Storing.{Brought}
use Rattle.service_events.specs.declared.event.Event.{Event}
use Rattle.service_events.specs.declared.event.Event.TheVariants as event
use Rattle.service_events.specs.Derivation.{derived}
use Rattle.service_events.specs.Plan.{Change, Open_session, Close_session, Lock_collection, Begin_prompt, Ask_prompt, Derive_key, Count_wrong, Clear_wrong, Go_on, End_prompt, Become_agent, Leave_agent, Plan, Reading, Aliases_file, Collection_file}
use Rattle.service_events.specs.Replay.{replay, Legal}
use Rattle.service_events.specs.Run.{Ran, asked, performed, performed_all, run, settled}
use Rattle.service_events.specs.Step.{brought_by, brought_derived, step, terms_of}
use Rattle.service_events.proofs.RunLemmas.{keeps-run, plan_for}
use Rattle.service_events.proofs.SoundLemmas.{sound_replay, sound_start}
use Rattle.tool_laws.specs.Ready.{IsReady}

-- the next session's number isn't 0
abbrev IsNumbered : State → Type 0
IsNumbered state = 0 < state.sessions.next

numbered-performed : (caller : ConnId) (change : Change) (state : State) → IsNumbered state → IsNumbered (performed caller change state)
numbered-performed caller Open_session state is = omega (arith, is)
numbered-performed caller (Close_session session) state is = is
numbered-performed caller (Lock_collection stem) state is = is
numbered-performed caller (Begin_prompt kind) state is = is
numbered-performed caller (Ask_prompt prompt) state is = is
numbered-performed caller (Derive_key prompt round) state is = is
numbered-performed caller (Count_wrong prompt) state is = is
numbered-performed caller (Clear_wrong prompt) state is = is
numbered-performed caller (Go_on prompt) state is = is
numbered-performed caller (End_prompt prompt dismissed created) state is = is
numbered-performed caller Become_agent state is = is
numbered-performed caller Leave_agent state is = is

numbered-all : (caller : ConnId) (changes : List Change) (state : State) → IsNumbered state → IsNumbered (performed_all caller changes state)
numbered-all caller [] state is = is
numbered-all caller (change ∷ changes) state is = numbered-all caller changes (performed caller change state) (numbered-performed caller change state is)

-- it stays so from a state on
abbrev StaysNumbered : State → Ran → Type 0
StaysNumbered state ran = IsNumbered state → IsNumbered ran.state

numbered-settled : (reading : Reading) (ended : ReadFate) (state : State) → IsNumbered state → IsNumbered (settled reading ended state)
numbered-settled Aliases_file ended state is = is
numbered-settled (Collection_file stem) ended state is = is

numbered-run : (caller : ConnId) (brought : Brought) (plan : Plan) (fates : List Fate) (state : State) → IsNumbered state → IsNumbered (run caller brought plan fates state).state
numbered-run caller brought = keeps-run caller brought StaysNumbered (record {
  ends = λ answer changes state small. numbered-all caller changes state;
  fails = λ name state is. is;
  asks = λ demand ended state ran next. next;
  settles = λ reading ended state ran next is. next (numbered-settled reading ended state is);
  opens = λ stem terms state ran next. next;
})

numbered-step : (state : State) (it : Event) → IsNumbered state → IsNumbered (step state it)
numbered-step state (event.Connect conn) is = is
numbered-step state (event.Arrive came) is = numbered-run came.arrival.conn (brought_by came.arrival) (plan_for came state) came.fates state is
numbered-step state (event.Derived came) is =
    numbered-run came.conn (brought_derived came) (derived came.prompt came.round (terms_of came) (asked came.conn (brought_derived came) state)) came.fates state is
numbered-step state (event.Leave conn) is = is
numbered-step state (event.Take conn) is = is
numbered-step state (event.Gone conn) is = is

numbered-replay : (state : State) (events : List Event) → IsNumbered state → IsNumbered (replay state events)
numbered-replay state [] is = is
numbered-replay state (it ∷ events) is = numbered-replay (step state it) events (numbered-step state it is)

pub ready : (contents : Contents) (events : List Event) → AreSoundContents contents → Legal (opened_state contents) events → IsReady (replay (opened_state contents) events)
ready contents events sound legal = record {
  sound = sound_replay (opened_state contents) events (sound_start contents sound) legal;
  numbered = numbered-replay (opened_state contents) events (omega arith);
}
