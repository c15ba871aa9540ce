-- What a request sends beside its reply is signals, so the only reply among its outputs is its own.
use Rattle.std.proofs.Common.{◌≡◌, ℕ, Bool, true, false, cond, List, [], ◌∷◌, ◌++◌, filter, Option, Some, None, Result, Ok, Err, refl, ◌∙◌, ap}
use Rattle.std.specs.List.{AllByRecursion, cons_option, filter_map}
use Rattle.std.specs.Option.{option_and_then, option_map}
use Rattle.kr_base.specs.declared.ids.ConnId.{ConnId}
use Rattle.kr_base.specs.declared.ids.PromptId.{PromptId}
use Rattle.service_desk.specs.collection_table.specs.Rows.{Rows}
use Rattle.prompt_state.specs.Prompts.{ask_at, asked_again, asks, ended_row, registered, row_at}
use Rattle.prompt_state.specs.declared.row.Ask.{Ask}
use Rattle.prompt_state.specs.declared.row.PromptRow.{PromptRow}
use Rattle.prompt_state.specs.declared.row.Prompts.{Prompts}
use Rattle.service_desk.specs.secret_calls.specs.declared.out.Body.{Body}
use Rattle.service_desk.specs.secret_calls.specs.declared.out.ErrorName.{ErrorName}
use Rattle.service_desk.specs.secret_calls.specs.declared.out.Out.{Out}
use Rattle.service_desk.specs.secret_calls.specs.declared.serial.Serial.{Serial}
use Rattle.service_desk.specs.secret_calls.specs.declared.signal.Signal.{Signal}
use Rattle.service_desk.specs.secret_calls.specs.declared.work.Work.{Work}
use Rattle.service_desk.specs.service_tables.specs.Connections.{sent_to}
use Rattle.service_desk.specs.service_tables.specs.Questions.{CollectionQuestions}
use Rattle.service_desk.specs.service_tables.specs.State.{State}
use Rattle.service_desk.specs.service_tables.specs.Storing.{Brought}
use Rattle.service_desk.specs.service_tables.specs.declared.fate.Fate.{Fate}
use Rattle.service_desk.specs.service_tables.specs.Sent.{One, Sent, is_for}
use Rattle.service_desk.specs.service_tables.proofs.EachLemmas.{each-append}
use Rattle.service_desk.specs.service_prompts.specs.Announcing.{announced, closing_signals}
use Rattle.service_desk.specs.service_prompts.specs.Prompting.{ask_sent, ask_signal, ask_signal_in, completed_sent, completed_signal}
use Rattle.service_desk.specs.service_events.specs.declared.event.Derivation.{Derivation}
use Rattle.service_desk.specs.service_events.specs.declared.event.Recorded.{Recorded}
use Rattle.service_desk.specs.service_events.specs.Announced.{demand_signals, reading_signals, unlock_signals}
use Rattle.service_desk.specs.service_events.specs.Derivation.{derived}
use Rattle.service_desk.specs.service_events.specs.PromptCalls.{asks_for, completes, go_on_sent, is_over, passed_kind}
use Rattle.service_desk.specs.service_events.specs.Single.{TimedKey}
use Rattle.service_desk.specs.service_events.specs.Plan.{Change, Open_session, Close_session, Lock_collection, Begin_prompt, Ask_prompt, Derive_key, Count_wrong, Clear_wrong, Go_on, End_prompt, Become_agent, Leave_agent, Plan}
use Rattle.service_desk.specs.service_events.specs.Run.{asked, key_with, performed, run, sent_all, sent_asked, sent_by, sent_opened, sent_settled}
use Rattle.service_desk.specs.service_events.specs.Step.{brought_by, brought_derived, finished, message_of, put_out, served, terms_of}
use Rattle.service_desk.specs.service_events.proofs.RunLemmas.{keeps-run, plan_for}
use Rattle.connection_worker.specs.Replies.{is_reply, key_outputs}
use Rattle.connection_worker.proofs.ServingLemmas.{same}
use Rattle.service_desk.specs.service_tables.specs.Opened.{contents_of}
use Rattle.service_desk.specs.service_tables.specs.TablesReading.{asked_collections}

-- each of them is a signal
abbrev pub AreSignals : List Sent → Type 0
AreSignals sent = AllByRecursion (λ (one : Sent). is_reply one.out ≡ false) sent

-- ---- what is sent

asks-signals : (collections : Rows) (prompts : Prompts) (ask : Ask) (more : List Sent) → AreSignals more → AreSignals (cons_option (ask_signal_in collections prompts ask) more)
asks-signals collections prompts ask more rest =
    let pass : (o : Option PromptRow) → AreSignals (cons_option (option_map (λ (row : PromptRow). ask_signal collections row.kind ask) o) more) = elim [ None ↦ rest | Some row ↦ (refl, rest) ] in
    pass (row_at ask.prompt prompts)

ask-signals : (collections : Rows) (prompts : Prompts) (prompt : PromptId) → AreSignals (ask_sent prompt prompts collections)
ask-signals collections prompts prompt =
    let pass : (o : Option Ask) → AreSignals (cons_option (option_and_then (ask_signal_in collections prompts) o) []) = elim [ None ↦ tt | Some ask ↦ asks-signals collections prompts ask [] tt ] in
    pass (ask_at prompt prompts)

each-signals : (collections : Rows) (prompts : Prompts) (these : List Ask) → AreSignals (filter_map (ask_signal_in collections prompts) these)
each-signals collections prompts [] = tt
each-signals collections prompts (ask ∷ these) = asks-signals collections prompts ask (filter_map (ask_signal_in collections prompts) these) (each-signals collections prompts these)

completed-signals : (prompt : PromptId) (dismissed : Bool) (created : Option (List ℕ)) (prompts : Prompts) → AreSignals (completed_sent prompt dismissed created prompts)
completed-signals prompt dismissed created prompts =
    let pass : (o : Option PromptRow) → AreSignals (cons_option (option_map (λ (row : PromptRow). completed_signal dismissed created (ended_row row)) o) []) = elim [ None ↦ tt | Some row ↦ (refl, tt) ] in
    pass (row_at prompt prompts)

announced-signals : (signals : List Signal) → AreSignals (announced signals)
announced-signals [] = tt
announced-signals (one ∷ more) = (refl, announced-signals more)

go_on-signals : (asks : CollectionQuestions) (collections : Rows) (agent : Option ConnId) (row : Option PromptRow) → AreSignals (go_on_sent asks collections agent row)
go_on-signals asks collections agent None = tt
go_on-signals asks collections agent (Some row) =
    let left = passed_kind asks row.kind in
    let asked : (o : Option ConnId) → AreSignals (asks_for collections row left o) = elim [ None ↦ tt | Some agent ↦ (refl, tt) ] in
    let pass : (b : Bool) → AreSignals (cond b (completes row left) (asks_for collections row left agent)) = elim [ true ↦ (refl, tt) | false ↦ asked agent ] in
    pass (is_over asks left)

change-signals : (caller : ConnId) (change : Change) (state : State) → AreSignals (sent_by caller change state)
change-signals caller Open_session state = tt
change-signals caller (Close_session session) state = tt
change-signals caller (Lock_collection stem) state = announced-signals (closing_signals stem state.collections)
change-signals caller (Begin_prompt kind) state = tt
change-signals caller (Ask_prompt prompt) state = ask-signals state.collections (asked_again prompt state.prompts) prompt
change-signals caller (Derive_key prompt round) state = tt
change-signals caller (Count_wrong prompt) state = tt
change-signals caller (Clear_wrong prompt) state = tt
change-signals caller (Go_on prompt) state = go_on-signals (asked_collections (contents_of state)) state.collections state.prompts.agent (row_at prompt state.prompts)
change-signals caller (End_prompt prompt dismissed created) state = completed-signals prompt dismissed created state.prompts
change-signals caller Become_agent state = each-signals state.collections (registered caller state.prompts) (asks (registered caller state.prompts))
change-signals caller Leave_agent state = tt

all-signals : (caller : ConnId) (changes : List Change) (state : State) → AreSignals (sent_all caller changes state)
all-signals caller [] state = tt
all-signals caller (change ∷ changes) state =
    let next = performed caller change state in
    each-append (λ (one : Sent). is_reply one.out ≡ false) (sent_by caller change state) (sent_all caller changes next) (change-signals caller change state) (all-signals caller changes next)

run-signals : (caller : ConnId) (brought : Brought) (plan : Plan) (fates : List Fate) (state : State) → AreSignals (run caller brought plan fates state).sends
run-signals caller brought =
    let both : (one more : List Sent) → AreSignals one → AreSignals more → AreSignals (one ++ more) = each-append (λ (one : Sent). is_reply one.out ≡ false) in
    keeps-run caller brought (λ before ran. AreSignals ran.sends)
    (record {
      ends = λ answer changes state small. all-signals caller changes state;
      fails = λ name state. tt;
      asks = λ demand ended state ran are. both (sent_asked brought demand ended state) ran.sends (announced-signals (demand_signals brought demand ended state.collections)) are;
      settles = λ reading ended state ran are. both (sent_settled reading ended state) ran.sends (announced-signals (reading_signals reading ended state.collections)) are;
      opens = λ stem terms state ran are. both (sent_opened brought stem terms state) ran.sends (announced-signals (unlock_signals (key_with brought terms) stem state.collections)) are;
    })

-- ---- the replies among the outputs

-- there is none among signals
pub no-reply : (conn : ConnId) (sent : List Sent) → AreSignals sent → filter is_reply (sent_to conn sent) ≡ []
no-reply conn [] are = refl
no-reply conn (one ∷ more) are =
    let rest = no-reply conn more are.1 in
    let here : filter is_reply (one.out ∷ sent_to conn more) ≡ [] = ap (λ b. cond b (one.out ∷ filter is_reply (sent_to conn more)) (filter is_reply (sent_to conn more))) are.0 ∙ rest in
    let pass : (b : Bool) → filter is_reply (cond b (one.out ∷ sent_to conn more) (sent_to conn more)) ≡ [] = elim [ true ↦ here | false ↦ rest ] in
    pass (is_for one.to conn)

-- nor among what the key of work sends, if it was recorded
pub key-replies : (conn : ConnId) (state : State) (work : Option Work) (key : Option TimedKey) → filter is_reply (key_outputs conn state work key) ≡ []
key-replies conn state None key = refl
key-replies conn state (Some work) None = refl
key-replies conn state (Some work) (Some key) =
    let came : Derivation = record { conn = conn; prompt = work.prompt; round = work.round; password = work.password; salt = work.salt; iterations = work.iterations; now = key.now; fates = key.fates } in
    no-reply conn (finished came state).sends
    (run-signals conn (brought_derived came) (derived came.prompt came.round (terms_of came) (asked conn (brought_derived came) state)) came.fates state)

-- the message that answers a call is a reply
pub message-replies : (serial : Serial) (answer : Result Body ErrorName) → is_reply (message_of serial answer) ≡ true
message-replies serial (Ok body) = refl
message-replies serial (Err name) = refl

first-reply : (wanted : Bool) (conn : ConnId) (reply : Out) (sends : List Sent) → is_reply reply ≡ true → AreSignals sends
    → filter is_reply (sent_to conn (cond wanted (record { to = One conn; out = reply } ∷ []) [] ++ sends)) ≡ cond wanted (reply ∷ []) []
first-reply true conn reply sends is are =
    let rest = no-reply conn sends are in
    ap (λ b. filter is_reply (cond b (reply ∷ sent_to conn sends) (sent_to conn sends))) (same conn.0)
    ∙ ap (λ b. cond b (reply ∷ filter is_reply (sent_to conn sends)) (filter is_reply (sent_to conn sends))) is
    ∙ ap (λ l. reply ∷ l) rest
first-reply false conn reply sends is are = no-reply conn sends are

-- what a request sends is signals
pub served-signals : (came : Recorded) (state : State) → AreSignals (served came state).sends
served-signals came state = run-signals came.arrival.conn (brought_by came.arrival) (plan_for came state) came.fates state

pub ran-replies : (came : Recorded) (state : State)
    → filter is_reply (sent_to came.arrival.conn (put_out came.arrival.conn came.arrival.request (served came state)))
    ≡ cond came.arrival.request.wants_reply (message_of came.arrival.request.serial (served came state).answer ∷ []) []
ran-replies came state =
    let ran = served came state in
    first-reply came.arrival.request.wants_reply came.arrival.conn (message_of came.arrival.request.serial ran.answer) ran.sends (message-replies came.arrival.request.serial ran.answer) (served-signals came state)
