-- What any plan sends besides the reply are signals, each of which goes to one connection or to everyone.
use Rattle.std.proofs.Common.{◌≡◌, ℕ, Bool, true, false, cond, IsTrue, List, [], ◌∷◌, Option, Some, None, refl, sym, ap, ◌∙◌}
use Rattle.std.specs.List.{AllByRecursion, cons_option, filter_map}
use Rattle.std.specs.Option.{option_and_then, option_map}
use Rattle.kr_base.specs.declared.ids.ConnId.{ConnId}
use Rattle.kr_base.specs.declared.ids.PromptId.{PromptId}
use Rattle.service_events.specs.collection_table.specs.Rows.{Rows}
use Rattle.prompt_state.specs.Prompts.{ask_at, asked_again, asks, ended_row, registered, row_at}
use Rattle.prompt_state.specs.declared.row.Ask.{Ask}
use Rattle.prompt_state.specs.declared.row.PromptKind.{PromptKind}
use Rattle.prompt_state.specs.declared.row.PromptRow.{PromptRow}
use Rattle.prompt_state.specs.declared.row.Prompts.{Prompts}
use Rattle.service_events.specs.secret_calls.specs.declared.out.Out.{Out}
use Rattle.service_events.specs.secret_calls.specs.declared.out.Out.TheVariants as out
use Rattle.service_events.specs.service_prompts.specs.Announcing.{announced, closing_signals}
use Rattle.service_events.specs.service_prompts.specs.Prompting.{ask_signal, ask_signal_in, completed_signal}
use Rattle.service_events.specs.service_tables.specs.Opened.{contents_of}
use Rattle.service_events.specs.service_tables.specs.Questions.{CollectionQuestions}
use Rattle.service_events.specs.service_tables.specs.TablesReading.{asked_collections}
use Rattle.service_events.specs.service_tables.specs.Sent.{Sent}
use Rattle.service_events.specs.service_tables.specs.State.{State}
use Rattle.service_events.specs.service_tables.specs.Storing.{Brought}
use Rattle.service_events.specs.service_tables.specs.declared.fate.Fate.{Fate}
use Rattle.service_events.specs.service_tables.proofs.EachLemmas.{each-append, each-weaker}
use Rattle.service_events.proofs.AnnouncedLemmas.{AreAnnounced, IsAnnounced, IsChangeOut, asked-announced, closing-announced, opened-announced, settled-announced}
use Rattle.service_events.specs.Plan.{Change, Open_session, Close_session, Lock_collection, Begin_prompt, Ask_prompt, Derive_key, Count_wrong, Clear_wrong, Go_on, End_prompt, Become_agent, Leave_agent, Plan}
use Rattle.service_events.specs.PromptCalls.{asks_for, completes as completed_for, go_on_sent, is_over, passed_kind}
use Rattle.service_events.specs.Run.{performed, run, sent_all, sent_asked, sent_by, sent_opened, sent_settled}
use Rattle.service_events.proofs.RunLemmas.{keeps-run}
use Rattle.machine_laws.specs.Announcing.{announces, is_everyone}
use Rattle.machine_laws.specs.Completions.{IsOne, completes}
use Rattle.machine_laws.proofs.AnnouncedLemmas.{out-announces, out-incomplete}

-- the message is a signal
abbrev pub IsSignalOut : Out → Type 0
IsSignalOut (out.Return serial body) = ⊥
IsSignalOut (out.Error serial name) = ⊥
IsSignalOut (out.Signal signal) = Unit {0}

-- the same of one on its way, which goes to one connection if it is Completed, and to everyone exactly if it announces a change
abbrev pub IsSignal : Sent → Type 0
IsSignal sent = ((prompt : PromptId) → IsTrue (completes prompt sent.out) → IsOne sent.to) × IsSignalOut sent.out × (is_everyone sent.to ≡ announces sent.out)

-- what is sent to everyone is signals
change-out : (o : Out) → IsChangeOut o → IsSignalOut o
change-out (out.Return serial body) is = is
change-out (out.Error serial name) is = is
change-out (out.Signal it) is = tt

announced-signal : (one : Sent) → IsAnnounced one → IsSignal one
announced-signal one is = (
  λ prompt its. absurd (let no : false ≡ true = sym (out-incomplete prompt one.out is.change) ∙ its in cc),
  change-out one.out is.change,
  ap is_everyone is.to ∙ sym (out-announces one.out is.change),
)

announced-signals : (said : List Sent) → AreAnnounced said → AllByRecursion IsSignal said
announced-signals = each-weaker IsAnnounced IsSignal announced-signal

-- Ask for each prompt that is asked
signal-asks : (collections : Rows) (prompts : Prompts) (these : List Ask) → AllByRecursion IsSignal (filter_map (ask_signal_in collections prompts) these)
signal-asks collections prompts [] = tt
signal-asks collections prompts (ask ∷ these) =
    let more = signal-asks collections prompts these in
    let pass : (row : Option PromptRow)
    → AllByRecursion IsSignal (cons_option (option_map (λ (row : PromptRow). ask_signal collections row.kind ask) row) (filter_map (ask_signal_in collections prompts) these)) =
    elim [ None ↦ more | Some row ↦ ((λ prompt its. tt, tt, refl), more) ] in
    pass (row_at ask.prompt prompts)

signal-ask : (collections : Rows) (prompts : Prompts) (ask : Option Ask) → AllByRecursion IsSignal (cons_option (option_and_then (ask_signal_in collections prompts) ask) [])
signal-ask collections prompts None = tt
signal-ask collections prompts (Some ask) = signal-asks collections prompts (ask ∷ [])

signal-completed : (dismissed : Bool) (created : Option (List ℕ)) (row : Option PromptRow)
    → AllByRecursion IsSignal (cons_option (option_map (λ (row : PromptRow). completed_signal dismissed created (ended_row row)) row) [])
signal-completed dismissed created None = tt
signal-completed dismissed created (Some row) = ((λ prompt its. tt, tt, refl), tt)

signal-advance : (over : Bool) (collections : Rows) (row : PromptRow) (kind : PromptKind) (agent : Option ConnId) → AllByRecursion IsSignal (cond over (completed_for row kind) (asks_for collections row kind agent))
signal-advance true collections row kind agent = ((λ prompt its. tt, tt, refl), tt)
signal-advance false collections row kind None = tt
signal-advance false collections row kind (Some agent) = ((λ prompt its. tt, tt, refl), tt)

signal-go_on : (told : CollectionQuestions) (collections : Rows) (agent : Option ConnId) (row : Option PromptRow) → AllByRecursion IsSignal (go_on_sent told collections agent row)
signal-go_on told collections agent None = tt
signal-go_on told collections agent (Some row) = signal-advance (is_over told (passed_kind told row.kind)) collections row (passed_kind told row.kind) agent

signal-by : (caller : ConnId) (change : Change) (state : State) → AllByRecursion IsSignal (sent_by caller change state)
signal-by caller Open_session state = tt
signal-by caller (Close_session session) state = tt
signal-by caller (Lock_collection stem) state = announced-signals (announced (closing_signals stem state.collections)) (closing-announced stem state.collections)
signal-by caller (Begin_prompt kind) state = tt
signal-by caller (Ask_prompt prompt) state =
    let after = asked_again prompt state.prompts in
    signal-ask state.collections after (ask_at prompt after)
signal-by caller (Derive_key prompt round) state = tt
signal-by caller (Count_wrong prompt) state = tt
signal-by caller (Clear_wrong prompt) state = tt
signal-by caller (Go_on prompt) state = signal-go_on (asked_collections (contents_of state)) state.collections state.prompts.agent (row_at prompt state.prompts)
signal-by caller (End_prompt prompt dismissed created) state = signal-completed dismissed created (row_at prompt state.prompts)
signal-by caller Become_agent state =
    let after = registered caller state.prompts in
    signal-asks state.collections after (asks after)
signal-by caller Leave_agent state = tt

signal-all : (caller : ConnId) (changes : List Change) (state : State) → AllByRecursion IsSignal (sent_all caller changes state)
signal-all caller [] state = tt
signal-all caller (change ∷ changes) state =
    let next = performed caller change state in
    each-append IsSignal (sent_by caller change state) (sent_all caller changes next) (signal-by caller change state) (signal-all caller changes next)

pub signal-run : (caller : ConnId) (brought : Brought) (plan : Plan) (fates : List Fate) (state : State) → AllByRecursion IsSignal (run caller brought plan fates state).sends
signal-run caller brought =
    keeps-run caller brought (λ before ran. AllByRecursion IsSignal ran.sends)
    (record {
      ends = λ answer changes state small. signal-all caller changes state;
      fails = λ name state. tt;
      asks = λ demand ended state ran are. each-append IsSignal (sent_asked brought demand ended state) ran.sends (announced-signals _ (asked-announced brought demand ended state)) are;
      settles = λ reading ended state ran are. each-append IsSignal (sent_settled reading ended state) ran.sends (announced-signals _ (settled-announced reading ended state)) are;
      opens = λ stem terms state ran are. each-append IsSignal (sent_opened brought stem terms state) ran.sends (announced-signals _ (opened-announced brought stem terms state)) are;
    })
