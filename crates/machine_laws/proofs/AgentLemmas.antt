-- Ask goes to the agent that is there after the event: a change sends it to the agent that is there after the change, and nothing but the last change of a row
-- sends it or changes who is the agent.
use Rattle.std.proofs.Common.{◌≡◌, ⊎_elim, ℕ, Bool, true, false, cond, IfSome, List, [], ◌∷◌, ◌++◌, Option, Some, None, Result, Ok, Err, refl, ap, Contains}
use Rattle.std.specs.List.{AllByRecursion, cons_option, filter_map}
use Rattle.std.specs.Option.{option_and_then, option_map}
use Rattle.std.proofs.lemmas.List.Elements.{All-contains, All-from_recursion}
use Rattle.kr_base.specs.declared.ids.ConnId.{ConnId}
use Rattle.kr_base.specs.declared.ids.PromptId.{PromptId}
use Rattle.service_events.specs.collection_table.specs.Rows.{Rows}
use Rattle.prompt_state.specs.Prompts.{ask_in, ask_of, ask_to, asked_again, asks, ended, ended_row, registered, row_at}
use Rattle.prompt_state.specs.declared.row.Ask.{Ask}
use Rattle.prompt_state.specs.declared.row.PromptRow.{PromptRow}
use Rattle.prompt_state.specs.declared.row.Prompts.{Prompts}
use Rattle.prompt_state.specs.declared.row.Stage.{Stage}
use Rattle.prompt_state.specs.declared.row.Stage.TheVariants.{Made, Asked, Deriving}
use Rattle.service_events.specs.secret_calls.specs.declared.call.Request.{Request}
use Rattle.service_events.specs.secret_calls.specs.declared.out.Body.{Body}
use Rattle.service_events.specs.secret_calls.specs.declared.out.ErrorName.{ErrorName}
use Rattle.service_events.specs.secret_calls.specs.declared.out.Out.TheVariants as out
use Rattle.service_events.specs.secret_calls.specs.declared.signal.AskKind.{AskKind}
use Rattle.service_events.specs.secret_calls.specs.declared.signal.Signal.TheVariants as signal
use Rattle.service_events.specs.service_prompts.specs.Announcing.{announced, closing_signals}
use Rattle.service_events.specs.service_prompts.specs.Prompting.{ask_signal, ask_signal_in, completed_signal}
use Rattle.service_events.specs.service_tables.specs.Opened.{contents_of}
use Rattle.service_events.specs.service_tables.specs.Questions.{CollectionQuestions}
use Rattle.service_events.specs.service_tables.specs.TablesReading.{asked_collections}
use Rattle.service_events.specs.service_tables.specs.Sent.{Recipient, One, Sent}
use Rattle.service_events.specs.service_tables.specs.State.{State}
use Rattle.service_events.specs.service_tables.specs.Storing.{Brought}
use Rattle.service_events.specs.service_tables.specs.declared.fate.Fate.{Fate}
use Rattle.service_events.specs.service_tables.proofs.EachLemmas.{each-append}
use Rattle.service_events.specs.Derivation.{derived}
use Rattle.service_events.specs.Plan.{Returns, Change, Open_session, Close_session, Lock_collection, Begin_prompt, Ask_prompt, Derive_key, Count_wrong, Clear_wrong, Go_on, End_prompt, Become_agent, Leave_agent, Plan}
use Rattle.service_events.specs.PromptCalls.{asks_for, completes, go_on_sent, is_over, is_over_row, passed_kind, passed_over}
use Rattle.service_events.specs.PublicBody as public
use Rattle.service_events.specs.Run.{asked, performed, performed_all, run, sent_all, sent_asked, sent_by, sent_opened, sent_settled}
use Rattle.service_events.specs.Step.{brought_by, brought_derived, message_of, puts_out, replies, served, step, terms_of}
use Rattle.service_events.specs.declared.event.Event.{Event}
use Rattle.service_events.specs.declared.event.Event.TheVariants as event
use Rattle.service_events.proofs.AnnouncedLemmas.{AreAnnounced, asked-announced, closing-announced, opened-announced, settled-announced}
use Rattle.service_events.proofs.EndLemmas.{AllEnds, AreInTurn, AreQuiet, IsAny, IsEnd, call-in-turn, ends-run, in-turn, key-in-turn, quiet-all}
use Rattle.service_events.proofs.RunLemmas.{plan_for}
use Rattle.machine_laws.specs.Asks.{AreForAgent, IsAgent, is_ask}
use Rattle.machine_laws.proofs.AnnouncedLemmas.{announced-for}

-- ---- what is sent

-- an Ask of this agent
abbrev IsOf : ConnId → Ask → Type 0
IsOf agent ask = ask.agent ≡ agent

of-agent : (agent : ConnId) (row : PromptRow) (s : Stage) → IfSome (ask_in s agent row) (IsOf agent)
of-agent agent row Made = tt
of-agent agent row (Asked round) = refl
of-agent agent row (Deriving round) = tt

-- Completed isn't Ask
not-ask : {A : Type 0} → false ≡ true → A
not-ask is = absurd (let its : false ≡ true = is in cc)

module _ (collections : Rows) (prompts : Prompts) (agent : ConnId) where
  signal-for : (ask : Ask) → IsOf agent ask → (more : List Sent) → AreForAgent (Some agent) more → AreForAgent (Some agent) (cons_option (ask_signal_in collections prompts ask) more)
  signal-for ask is more all =
      let pass : (o : Option PromptRow) → AreForAgent (Some agent) (cons_option (option_map (λ (row : PromptRow). ask_signal collections row.kind ask) o) more) =
      elim [ None ↦ all | Some row ↦ (λ its. ap One is, all) ] in
      pass (row_at ask.prompt prompts)

  signals-for : (list : List Ask) → AllByRecursion (IsOf agent) list → AreForAgent (Some agent) (filter_map (ask_signal_in collections prompts) list)
  signals-for [] all = tt
  signals-for (ask ∷ list) all = signal-for ask all.0 (filter_map (ask_signal_in collections prompts) list) (signals-for list all.1)

  some-for : (o : Option Ask) → IfSome o (IsOf agent) → AreForAgent (Some agent) (cons_option (option_and_then (ask_signal_in collections prompts) o) [])
  some-for None is = tt
  some-for (Some ask) is = signal-for ask is [] tt

asks-of : (agent : ConnId) (rows : List PromptRow) → AllByRecursion (IsOf agent) (filter_map (ask_to agent) rows)
asks-of agent [] = tt
asks-of agent (row ∷ rows) =
    let rest = asks-of agent rows in
    let pass : (o : Option Ask) → IfSome o (IsOf agent) → AllByRecursion (IsOf agent) (cons_option o (filter_map (ask_to agent) rows)) =
    elim [ None ↦ λ is. rest | Some ask ↦ λ is. (is, rest) ] in
    pass (ask_to agent row) (of-agent agent row row.stage)

ask-for : (collections : Rows) (prompts : Prompts) (agent : Option ConnId) (row : Option PromptRow) → AreForAgent agent (cons_option (option_and_then (ask_signal_in collections prompts) (ask_of agent row)) [])
ask-for collections prompts None row = tt
ask-for collections prompts (Some agent) None = tt
ask-for collections prompts (Some agent) (Some row) = some-for collections prompts agent (ask_to agent row) (of-agent agent row row.stage)

ended-for : (agent : Option ConnId) (dismissed : Bool) (created : Option (List ℕ)) (row : Option PromptRow)
    → AreForAgent agent (cons_option (option_map (λ (r : PromptRow). completed_signal dismissed created (ended_row r)) row) [])
ended-for agent dismissed created None = tt
ended-for agent dismissed created (Some row) = (λ its. not-ask its, tt)

go_on-for : (questions : CollectionQuestions) (collections : Rows) (agent : Option ConnId) (row : Option PromptRow) → AreForAgent agent (go_on_sent questions collections agent row)
go_on-for questions collections agent None = tt
go_on-for questions collections agent (Some row) =
    let kind = passed_kind questions row.kind in
    let more : (o : Option ConnId) → AreForAgent o (asks_for collections row kind o) = elim [ None ↦ tt | Some conn ↦ (λ its. refl, tt) ] in
    let pass : (b : Bool) → AreForAgent agent (cond b (completes row kind) (asks_for collections row kind agent)) = elim [ true ↦ (λ its. not-ask its, tt) | false ↦ more agent ] in
    pass (is_over questions kind)

-- ---- changes

-- what a change sends is for the agent that is there after it
sent-for : (caller : ConnId) (change : Change) (state : State) → AreForAgent (performed caller change state).prompts.agent (sent_by caller change state)
sent-for caller (Ask_prompt prompt) state =
    let after = asked_again prompt state.prompts in
    ask-for state.collections after state.prompts.agent (row_at prompt after)
sent-for caller (Go_on prompt) state =
    let asks = asked_collections (contents_of state) in
    let over = passed_over prompt asks state.prompts in
    let sent = go_on-for asks state.collections state.prompts.agent (row_at prompt state.prompts) in
    let pass : (b : Bool) → AreForAgent (cond b (ended prompt over) (asked_again prompt over)).agent (go_on_sent asks state.collections state.prompts.agent (row_at prompt state.prompts)) = elim [ true ↦ sent | false ↦ sent ] in
    pass (is_over_row asks (row_at prompt over))
sent-for caller (End_prompt prompt dismissed created) state = ended-for state.prompts.agent dismissed created (row_at prompt state.prompts)
sent-for caller Become_agent state =
    let after = registered caller state.prompts in
    signals-for state.collections after caller (asks after) (asks-of caller state.prompts.rows)
sent-for caller Leave_agent state = tt
sent-for caller Open_session state = tt
sent-for caller (Close_session session) state = tt
sent-for caller (Lock_collection stem) state = announced-for state.prompts.agent (announced (closing_signals stem state.collections)) (closing-announced stem state.collections)
sent-for caller (Begin_prompt kind) state = tt
sent-for caller (Derive_key prompt round) state = tt
sent-for caller (Count_wrong prompt) state = tt
sent-for caller (Clear_wrong prompt) state = tt

-- ---- plans

-- what is sent to everyone before it isn't Ask
after-all : (agent : Option ConnId) (said sent : List Sent) → AreAnnounced said → AreForAgent agent sent → AreForAgent agent (said ++ sent)
after-all agent said sent are rest = each-append (λ (one : Sent). is_ask one.out ≡ true → IsAgent agent one.to) said sent (announced-for agent said are) rest

-- Ask for the agent that is there after a plan, of whose changes the last one alone may send it or change who is the agent
run-for : (caller : ConnId) (brought : Brought) (plan : Plan) (fates : List Fate) (state : State) → AllEnds (IsEnd true (AreInTurn IsAny)) plan
    → AreForAgent (run caller brought plan fates state).state.prompts.agent (run caller brought plan fates state).sends
run-for caller brought =
    let IsFor : State → List Sent → State → Type 0 = λ old sent new. AreForAgent new.prompts.agent sent in
    ends-run (IsEnd true (AreInTurn IsAny)) caller brought (λ before ran. AreForAgent ran.state.prompts.agent ran.sends)
    (record {
      ends = λ answer changes state is. ⊎_elim
          (λ (quiet : AreQuiet changes). announced-for (performed_all caller changes state).prompts.agent (sent_all caller changes state) (quiet-all caller changes state quiet))
          (λ (turn : (answer ≡ Returns public.Empty) × AreInTurn IsAny changes).
          in-turn caller IsAny IsFor (λ change state said sent new quiet are rest. after-all new.prompts.agent said sent are rest) (λ change state any. sent-for caller change state) changes state turn.1)
          is.1;
      fails = λ name state. tt;
      asks = λ demand ended state ran is. after-all ran.state.prompts.agent (sent_asked brought demand ended state) ran.sends (asked-announced brought demand ended state) is;
      settles = λ reading ended state ran is. after-all ran.state.prompts.agent (sent_settled reading ended state) ran.sends (settled-announced reading ended state) is;
      opens = λ stem terms state ran is. after-all ran.state.prompts.agent (sent_opened brought stem terms state) ran.sends (opened-announced brought stem terms state) is;
    })

-- ---- events

-- a reply isn't Ask
reply-for : (agent : Option ConnId) (caller : ConnId) (request : Request) (answer : Result Body ErrorName) → AreForAgent agent (replies caller request answer)
reply-for agent caller request answer =
    let pass : (wanted : Bool) (answer : Result Body ErrorName) → AreForAgent agent (cond wanted (record { to = One caller; out = message_of request.serial answer } ∷ []) []) =
    elim [ true ↦ elim [ Ok body ↦ (λ its. not-ask its, tt) | Err name ↦ (λ its. not-ask its, tt) ] | false ↦ λ answer. tt ] in
    pass request.wants_reply answer

pub asks_go_to_agent : (state : State) (event : Event) → AreForAgent (step state event).prompts.agent (puts_out state event)
asks_go_to_agent state (event.Connect conn) = tt
asks_go_to_agent state (event.Arrive came) =
    let caller = came.arrival.conn in
    let brought = brought_by came.arrival in
    let ran = served came state in
    let agent = ran.state.prompts.agent in
    each-append (λ (one : Sent). is_ask one.out ≡ true → IsAgent agent one.to) (replies caller came.arrival.request ran.answer) ran.sends (reply-for agent caller came.arrival.request ran.answer)
    (run-for caller brought (plan_for came state) came.fates state (call-in-turn came.arrival.salt came.arrival.request.call (asked caller brought state)))
asks_go_to_agent state (event.Derived came) =
    let brought = brought_derived came in
    let questions = asked came.conn brought state in
    run-for came.conn brought (derived came.prompt came.round (terms_of came) questions) came.fates state (key-in-turn came.prompt came.round (terms_of came) questions)
asks_go_to_agent state (event.Leave conn) = tt
asks_go_to_agent state (event.Take conn) = tt
asks_go_to_agent state (event.Gone conn) = tt

pub ask_goes_to_agent : (state : State) (event : Event) (to : Recipient) (prompt : PromptId) (round : ℕ) (kind : AskKind) (label : List ℕ) (wrong : ℕ)
    → Contains (puts_out state event) (record { to = to; out = out.Signal (signal.Ask prompt round kind label wrong) }) → IsAgent (step state event).prompts.agent to
ask_goes_to_agent state event to prompt round kind label wrong there =
    let agent = (step state event).prompts.agent in
    let IsForAgent = λ (one : Sent). is_ask one.out ≡ true → IsAgent agent one.to in
    All-contains IsForAgent (puts_out state event) (record { to = to; out = out.Signal (signal.Ask prompt round kind label wrong) })
    (All-from_recursion IsForAgent (puts_out state event) (asks_go_to_agent state event)) there refl
