-- Completed of a prompt goes to its owner: while the prompt is there, only its owner's row has its number, and no other row gets it.
use Rattle.std.proofs.Common.{◌≡◌, ℕ, ◌<◌, Bool, true, false, cond, not, nat_eq, IsTrue, List, [], ◌∷◌, ◌++◌, length, map, filter, find, Option, Some, None, Result, refl, sym, ap, subst, ◌∙◌, arith}
use Rattle.std.specs.List.{AllByRecursion, cons_option}
use Rattle.std.specs.Option.{option_map}
use Rattle.std.proofs.lemmas.Bool.Decides.{nat_tests}
use Rattle.kr_base.specs.declared.ids.ConnId.{ConnId}
use Rattle.kr_base.specs.declared.ids.PromptId.{PromptId}
use Rattle.service_events.specs.collection_table.specs.Rows.{Rows}
use Rattle.prompt_state.specs.Prompts.{AreRising, abandoned, asked_again, asks, begun, changed, ended, ended_row, is_agent, is_of, is_prompt, registered, row_at, unanswered_row, unregistered, without}
use Rattle.prompt_state.specs.declared.row.PromptKind.{PromptKind}
use Rattle.prompt_state.specs.declared.row.PromptRow.{PromptRow}
use Rattle.prompt_state.specs.declared.row.Prompts.{Prompts}
use Rattle.service_events.specs.service_prompts.specs.Announcing.{announced, closing_signals}
use Rattle.service_events.specs.service_prompts.specs.Prompting.{ask_sent, asks_sent, completed_sent, completed_signal}
use Rattle.service_events.specs.service_prompts.proofs.SignalLemmas.{found-row}
use Rattle.service_events.specs.service_tables.specs.Opened.{contents_of}
use Rattle.service_events.specs.service_tables.specs.Questions.{CollectionQuestions}
use Rattle.service_events.specs.service_tables.specs.TablesReading.{asked_collections}
use Rattle.service_events.specs.service_tables.specs.Sound.{IsSound}
use Rattle.service_events.specs.service_tables.specs.State.{State}
use Rattle.service_events.specs.service_tables.specs.Storing.{Brought}
use Rattle.service_events.specs.secret_calls.specs.declared.call.Request.{Request}
use Rattle.service_events.specs.secret_calls.specs.declared.out.Body.{Body}
use Rattle.service_events.specs.secret_calls.specs.declared.out.ErrorName.{ErrorName}
use Rattle.service_events.specs.service_tables.specs.declared.fate.Fate.{Fate}
use Rattle.service_events.specs.service_tables.specs.Sent.{One, Sent}
use Rattle.service_events.specs.service_tables.proofs.EachLemmas.{each-append, each-filter, each-weaker}
use Rattle.service_events.specs.Derivation.{derived}
use Rattle.service_events.specs.Plan.{Change, Open_session, Close_session, Lock_collection, Begin_prompt, Ask_prompt, Derive_key, Count_wrong, Clear_wrong, Go_on, End_prompt, Become_agent, Leave_agent, Plan}
use Rattle.service_events.specs.PromptCalls.{go_on_sent, gone_on, is_over_row, passed_over, passed_row}
use Rattle.service_events.specs.Run.{asked, performed, performed_all, run, sent_all, sent_asked, sent_by, sent_opened, sent_settled}
use Rattle.service_events.specs.Step.{brought_by, brought_derived, finished, message_of, puts_out, replies, served, step, terms_of}
use Rattle.service_events.specs.declared.event.Event.{Event}
use Rattle.service_events.specs.declared.event.Event.TheVariants as event
use Rattle.service_events.proofs.AdvanceLemmas.{row-number}
use Rattle.service_events.proofs.AnnouncedLemmas.{AreAnnounced, asked-announced, closing-announced, opened-announced, settled-announced}
use Rattle.service_events.proofs.EndLemmas.{prompts-settled}
use Rattle.service_events.proofs.RunLemmas.{keeps-run, plan_for}
use Rattle.machine_laws.specs.Completions.{AreFor, AreForOne, AreAllFor, IsOne, completes, completions_in}
use Rattle.machine_laws.proofs.AnnouncedLemmas.{announced-none}
use Rattle.machine_laws.proofs.SignalLemmas.{IsSignal, signal-run}
use Rattle.machine_laws.proofs.CompletionLemmas.{ask-told, ask-sends, asks-told, end-sends, gives-up, reply-told, row-passed}

-- a row with the prompt's number is one of this owner
abbrev IsRowOf : PromptId → ConnId → PromptRow → Type 0
IsRowOf p owner row = is_prompt p row ≡ true → row.owner ≡ owner

-- the prompt is this owner's for as long as it is there
record IsOwners (p : PromptId) (owner : ConnId) (prompts : Prompts) : Type 0 where
  given : p.0 < prompts.next
  rows : AllByRecursion (IsRowOf p owner) prompts.rows

-- what is sent for the prompt goes to its owner, and it is this owner's after that
record IsKept (p : PromptId) (owner : ConnId) (sent : List Sent) (new : Prompts) : Type 0 where
  to : AreFor p owner sent
  owned : IsOwners p owner new

-- no other row has the number of the one that is found
none-later : (p : PromptId) (owner : ConnId) (row : PromptRow) (rows : List PromptRow) → is_prompt p row ≡ true → AllByRecursion (λ (other : PromptRow). row.prompt.0 < other.prompt.0) rows
    → AllByRecursion (IsRowOf p owner) rows
none-later p owner row [] its above = tt
none-later p owner row (x ∷ xs) its above =
    let over : row.prompt.0 < x.prompt.0 = above.0 in
    let off : is_prompt p x ≡ false = grind (arith, nat_tests) in
    (λ here. absurd (let no : false ≡ true = sym off ∙ here in cc), none-later p owner row xs its above.1)

rows-of : (p : PromptId) (rows : List PromptRow) (row : PromptRow) → AreRising rows → find (is_prompt p) rows ≡ Some row → AllByRecursion (IsRowOf p row.owner) rows
rows-of p [] row rising found = tt
rows-of p (x ∷ xs) row rising found =
    let pass : (b : Bool) → is_prompt p x ≡ b → AllByRecursion (IsRowOf p row.owner) (x ∷ xs) =
    elim [
      | true ↦ λ is.
          let its : Some x ≡ Some row = rw is at found in
          let same : x ≡ row = cc in
          (λ here. ap (λ (r : PromptRow). r.owner) same, none-later p row.owner x xs is rising.0)
      | false ↦ λ off.
          let later : find (is_prompt p) xs ≡ Some row = rw off at found in
          (λ here. absurd (let no : false ≡ true = sym off ∙ here in cc), rows-of p xs row rising.1 later)
    ] in
    pass (is_prompt p x) refl

owners-of : (p : PromptId) (state : State) (row : PromptRow) → IsSound state → row_at p state.prompts ≡ Some row → IsOwners p row.owner state.prompts
owners-of p state row sound found =
    let its : row.prompt.0 < state.prompts.next = found-row (λ (r : PromptRow). r.prompt.0 < state.prompts.next) p state.prompts row sound.prompts.kept.given found in
    let same : row.prompt.0 ≡ p.0 = ap (λ (q : PromptId). q.0) (row-number p state.prompts row found) in
    record { given = omega (arith, its, same); rows = rows-of p state.prompts.rows row sound.prompts.kept.rising found }

module _ (p : PromptId) (owner : ConnId) where
  -- what isn't Completed goes wherever it goes
  none-to : (sent : List Sent) → completions_in p sent ≡ 0 → AreFor p owner sent
  none-to [] none = tt
  none-to (one ∷ more) none =
      let pass : (b : Bool) → completes p one.out ≡ b → AreFor p owner (one ∷ more) =
      elim [
        | true ↦ λ is. absurd (let some : length (one ∷ filter (λ (other : Sent). completes p other.out) more) ≡ 0 = rw is at none in omega (arith, some))
        | false ↦ λ off.
            let rest : completions_in p more ≡ 0 = rw off at none in
            (λ its. absurd (let no : false ≡ true = sym off ∙ its in cc), none-to more rest)
      ] in
      pass (completes p one.out) refl

  -- Completed of a prompt that is found goes to its owner
  end-to : (prompt : PromptId) (dismissed : Bool) (created : Option (List ℕ)) (prompts : Prompts) → IsOwners p owner prompts → AreFor p owner (completed_sent prompt dismissed created prompts)
  end-to prompt dismissed created prompts owned =
      let pass : (o : Option PromptRow) → row_at prompt prompts ≡ o
      → AreFor p owner (cons_option (option_map (λ (row : PromptRow). completed_signal dismissed created (ended_row row)) o) []) =
      elim [ None ↦ λ is. tt | Some row ↦ λ is. (λ here. ap One (found-row (IsRowOf p owner) prompt prompts row owned.rows is here), tt) ] in
      pass (row_at prompt prompts) refl

  -- ---- changes of the prompts

  rows-mapped : (h : PromptRow → PromptRow) → ((row : PromptRow) → (h row).prompt ≡ row.prompt) → ((row : PromptRow) → (h row).owner ≡ row.owner) → (rows : List PromptRow)
      → AllByRecursion (IsRowOf p owner) rows → AllByRecursion (IsRowOf p owner) (map h rows)
  rows-mapped h number keeps [] all = tt
  rows-mapped h number keeps (x ∷ xs) all =
      (λ here. keeps x ∙ all.0 (sym (ap (λ (q : PromptId). nat_eq q.0 p.0) (number x)) ∙ here), rows-mapped h number keeps xs all.1)

  changed-of : (prompt : PromptId) (f : PromptRow → PromptRow) → ((row : PromptRow) → (f row).prompt ≡ row.prompt) → ((row : PromptRow) → (f row).owner ≡ row.owner) → (prompts : Prompts)
      → IsOwners p owner prompts → IsOwners p owner (changed prompt f prompts)
  changed-of prompt f number keeps prompts owned =
      let its : (row : PromptRow) → (cond (is_prompt prompt row) (f row) row).prompt ≡ row.prompt =
      λ row.
      let pass : (b : Bool) → (cond b (f row) row).prompt ≡ row.prompt = elim [ true ↦ number row | false ↦ refl ] in
      pass (is_prompt prompt row) in
      let whose : (row : PromptRow) → (cond (is_prompt prompt row) (f row) row).owner ≡ row.owner =
      λ row.
      let pass : (b : Bool) → (cond b (f row) row).owner ≡ row.owner = elim [ true ↦ keeps row | false ↦ refl ] in
      pass (is_prompt prompt row) in
      record { given = owned.given; rows = rows-mapped (λ row. cond (is_prompt prompt row) (f row) row) its whose prompts.rows owned.rows }

  ended-of : (prompt : PromptId) (prompts : Prompts) → IsOwners p owner prompts → IsOwners p owner (ended prompt prompts)
  ended-of prompt prompts owned = record { given = owned.given; rows = each-filter (IsRowOf p owner) (λ row. not (is_prompt prompt row)) prompts.rows owned.rows }

  -- a new prompt has another number
  begun-of : (conn : ConnId) (kind : PromptKind) (prompts : Prompts) → IsOwners p owner prompts → IsOwners p owner (begun conn kind prompts)
  begun-of conn kind prompts owned =
      let below : p.0 < prompts.next = owned.given in
      let off : nat_eq prompts.next p.0 ≡ false = grind (arith, nat_tests) in
      record {
        given = omega (arith, below);
        rows = each-append (IsRowOf p owner) prompts.rows _ owned.rows (λ here. absurd (let no : false ≡ true = sym off ∙ here in cc), tt);
      }

  unregistered-of : (prompts : Prompts) → IsOwners p owner prompts → IsOwners p owner (unregistered prompts)
  unregistered-of prompts owned = record { given = owned.given; rows = rows-mapped unanswered_row (λ row. refl) (λ row. refl) prompts.rows owned.rows }

  without-of : (conn : ConnId) (prompts : Prompts) → IsOwners p owner prompts → IsOwners p owner (without conn prompts)
  without-of conn prompts owned = record { given = owned.given; rows = each-filter (IsRowOf p owner) (λ row. not (is_of conn row)) prompts.rows owned.rows }

  abandoned-of : (conn : ConnId) (prompts : Prompts) → IsOwners p owner prompts → IsOwners p owner (abandoned conn prompts)
  abandoned-of conn prompts owned =
      let fewer = without-of conn prompts owned in
      let pass : (b : Bool) → IsOwners p owner (cond b (unregistered (without conn prompts)) (without conn prompts)) =
      elim [ true ↦ unregistered-of (without conn prompts) fewer | false ↦ fewer ] in
      pass (is_agent conn prompts)

  -- a prompt that continues
  gone_on-of : (prompt : PromptId) (asks : CollectionQuestions) (collections : Rows) (prompts : Prompts) → IsOwners p owner prompts
      → IsKept p owner (go_on_sent asks collections prompts.agent (row_at prompt prompts)) (gone_on prompt asks prompts)
  gone_on-of prompt asks collections prompts owned =
      let row = row_at prompt prompts in
      let over = passed_over prompt asks prompts in
      let passed : IsOwners p owner over = changed-of prompt (passed_row asks) (λ row. refl) (λ row. refl) prompts owned in
      let same = row-passed p prompt asks collections prompts in
      let pass : (b : Bool) → is_over_row asks (row_at prompt over) ≡ b → IsKept p owner (go_on_sent asks collections prompts.agent row) (cond b (ended prompt over) (asked_again prompt over)) =
      elim [
        | true ↦ λ is.
            let up = gives-up p prompt asks collections prompts (row_at prompt over) in
            let sends : go_on_sent asks collections prompts.agent row ≡ completed_sent prompt up None over =
            end-sends p prompt asks collections prompts row (sym (ap (is_over_row asks) same) ∙ is)
            ∙ ap (λ o. cons_option (option_map (λ (it : PromptRow). completed_signal (gives-up p prompt asks collections prompts o) None (ended_row it)) o) []) (sym same) in
            record { to = subst (AreFor p owner) (sym sends) (end-to prompt up None over passed); owned = ended-of prompt over passed }
        | false ↦ λ is. record {
          to = none-to _ (ask-sends p prompt asks collections prompts row (sym (ap (is_over_row asks) same) ∙ is));
          owned = changed-of prompt _ (λ row. refl) (λ row. refl) over passed;
        }
      ] in
      pass (is_over_row asks (row_at prompt over)) refl

  -- ---- changes of the state

  performed-of : (caller : ConnId) (change : Change) (state : State) → IsOwners p owner state.prompts → IsKept p owner (sent_by caller change state) (performed caller change state).prompts
  performed-of caller Open_session state owned = record { to = tt; owned = owned }
  performed-of caller (Close_session session) state owned = record { to = tt; owned = owned }
  performed-of caller (Lock_collection stem) state owned = record {
    to = none-to (announced (closing_signals stem state.collections)) (announced-none p _ (closing-announced stem state.collections));
    owned = owned;
  }
  performed-of caller (Begin_prompt kind) state owned = record { to = tt; owned = begun-of caller kind state.prompts owned }
  performed-of caller (Ask_prompt prompt) state owned = record {
    to = none-to (ask_sent prompt (asked_again prompt state.prompts) state.collections) (ask-told p state.collections (asked_again prompt state.prompts) prompt);
    owned = changed-of prompt _ (λ row. refl) (λ row. refl) state.prompts owned;
  }
  performed-of caller (Derive_key prompt round) state owned = record { to = tt; owned = changed-of prompt _ (λ row. refl) (λ row. refl) state.prompts owned }
  performed-of caller (Count_wrong prompt) state owned = record { to = tt; owned = changed-of prompt _ (λ row. refl) (λ row. refl) state.prompts owned }
  performed-of caller (Clear_wrong prompt) state owned = record { to = tt; owned = changed-of prompt _ (λ row. refl) (λ row. refl) state.prompts owned }
  performed-of caller (Go_on prompt) state owned = gone_on-of prompt (asked_collections (contents_of state)) state.collections state.prompts owned
  performed-of caller (End_prompt prompt dismissed created) state owned = record { to = end-to prompt dismissed created state.prompts owned; owned = ended-of prompt state.prompts owned }
  performed-of caller Become_agent state owned = record {
    to = none-to (asks_sent (registered caller state.prompts) state.collections) (asks-told p state.collections (registered caller state.prompts) (asks (registered caller state.prompts)));
    owned = record { given = owned.given; rows = owned.rows };
  }
  performed-of caller Leave_agent state owned = record { to = tt; owned = unregistered-of state.prompts owned }

  -- what is sent first, and what is sent after it
  both-to : (sent more : List Sent) → AreFor p owner sent → AreFor p owner more → AreFor p owner (sent ++ more)
  both-to sent more first rest = each-append (λ (one : Sent). IsTrue (completes p one.out) → one.to ≡ One owner) sent more first rest

  all-of : (caller : ConnId) (changes : List Change) (state : State) → IsOwners p owner state.prompts → IsKept p owner (sent_all caller changes state) (performed_all caller changes state).prompts
  all-of caller [] state owned = record { to = tt; owned = owned }
  all-of caller (change ∷ changes) state owned =
      let next = performed caller change state in
      let first = performed-of caller change state owned in
      let rest = all-of caller changes next first.owned in
      record { to = both-to (sent_by caller change state) (sent_all caller changes next) first.to rest.to; owned = rest.owned }

  -- ---- plans and events

  -- what is sent to everyone before it isn't Completed
  announced-of : (said sent : List Sent) (new : Prompts) → AreAnnounced said → IsKept p owner sent new → IsKept p owner (said ++ sent) new
  announced-of said sent new are kept = record { to = both-to said sent (none-to said (announced-none p said are)) kept.to; owned = kept.owned }

  run-of : (caller : ConnId) (brought : Brought) (plan : Plan) (fates : List Fate) (state : State) → IsOwners p owner state.prompts
      → IsKept p owner (run caller brought plan fates state).sends (run caller brought plan fates state).state.prompts
  run-of caller brought =
      keeps-run caller brought (λ before ran. IsOwners p owner before.prompts → IsKept p owner ran.sends ran.state.prompts)
      (record {
        ends = λ answer changes state small. all-of caller changes state;
        fails = λ name state owned. record { to = tt; owned = owned };
        asks = λ demand ended state ran kept owned. announced-of (sent_asked brought demand ended state) ran.sends ran.state.prompts (asked-announced brought demand ended state) (kept owned);
        settles = λ reading ended state ran kept owned.
            announced-of (sent_settled reading ended state) ran.sends ran.state.prompts (settled-announced reading ended state)
            (kept (subst (IsOwners p owner) (sym (prompts-settled reading ended state)) owned));
        opens = λ stem terms state ran kept owned. announced-of (sent_opened brought stem terms state) ran.sends ran.state.prompts (opened-announced brought stem terms state) (kept owned);
      })

  event-of : (state : State) (event : Event) → IsOwners p owner state.prompts → IsKept p owner (puts_out state event) (step state event).prompts
  event-of state (event.Connect conn) owned = record { to = tt; owned = owned }
  event-of state (event.Arrive came) owned =
      let caller = came.arrival.conn in
      let ran = served came state in
      let kept = run-of caller (brought_by came.arrival) (plan_for came state) came.fates state owned in
      let reply = replies caller came.arrival.request ran.answer in
      record { to = both-to reply ran.sends (none-to reply (reply-told p caller came.arrival.request ran.answer)) kept.to; owned = kept.owned }
  event-of state (event.Derived came) owned =
      let brought = brought_derived came in
      run-of came.conn brought (derived came.prompt came.round (terms_of came) (asked came.conn brought state)) came.fates state owned
  event-of state (event.Leave conn) owned = record { to = tt; owned = owned }
  event-of state (event.Take conn) owned = record { to = tt; owned = owned }
  event-of state (event.Gone conn) owned = record { to = tt; owned = abandoned-of conn state.prompts owned }

  list-of : (state : State) (events : List Event) → IsOwners p owner state.prompts → AreAllFor p owner state events
  list-of state [] owned = tt
  list-of state (event ∷ events) owned = let first = event-of state event owned in (first.to, list-of (step state event) events first.owned)

-- ---- the law

pub goes_to_owner : (p : PromptId) (state : State) (row : PromptRow) (events : List Event) → IsSound state → row_at p state.prompts ≡ Some row → AreAllFor p row.owner state events
goes_to_owner p state row events sound found = list-of p row.owner state events (owners-of p state row sound found)

-- ---- to one connection

-- Completed goes to one connection, and so does a reply
signals-to-one : (p : PromptId) (sent : List Sent) → AllByRecursion IsSignal sent → AreForOne p sent
signals-to-one p = each-weaker IsSignal (λ (one : Sent). IsTrue (completes p one.out) → IsOne one.to) (λ one is its. is.0 p its)

reply-to-one : (p : PromptId) (caller : ConnId) (request : Request) (answer : Result Body ErrorName) → AreForOne p (replies caller request answer)
reply-to-one p caller request answer =
    let pass : (wanted : Bool) → AreForOne p (cond wanted (record { to = One caller; out = message_of request.serial answer } ∷ []) []) = elim [ true ↦ (λ its. tt, tt) | false ↦ tt ] in
    pass request.wants_reply

pub goes_to_one : (p : PromptId) (state : State) (event : Event) → AreForOne p (puts_out state event)
goes_to_one p state (event.Connect conn) = tt
goes_to_one p state (event.Arrive came) =
    let caller = came.arrival.conn in
    let ran = served came state in
    each-append (λ (one : Sent). IsTrue (completes p one.out) → IsOne one.to) (replies caller came.arrival.request ran.answer) ran.sends (reply-to-one p caller came.arrival.request ran.answer)
    (signals-to-one p ran.sends (signal-run caller (brought_by came.arrival) (plan_for came state) came.fates state))
goes_to_one p state (event.Derived came) =
    let brought = brought_derived came in
    signals-to-one p (finished came state).sends (signal-run came.conn brought (derived came.prompt came.round (terms_of came) (asked came.conn brought state)) came.fates state)
goes_to_one p state (event.Leave conn) = tt
goes_to_one p state (event.Take conn) = tt
goes_to_one p state (event.Gone conn) = tt
