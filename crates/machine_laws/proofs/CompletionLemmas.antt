-- While a prompt is there, or its number hasn't been given yet, one Completed is left for it, and otherwise none. Whatever an event puts out
-- is taken from what is left.
use Rattle.std.proofs.Common.{◌≡◌, ℕ, ◌+◌, ◌<◌, ◌≤◌, Bool, true, false, cond, not, nat_eq, nat_le, List, [], ◌∷◌, ◌++◌, length, map, filter, find, Option, Some, None, Result, Ok, Err, refl, sym, ap, subst, ◌∙◌, arith}
use Rattle.std.specs.List.{AllByRecursion, cons_option, filter_map}
use Rattle.std.specs.Option.{option_and_then, option_map, option_map_or}
use Rattle.std.proofs.lemmas.Bool.Decides.{nat_tests}
use Rattle.std.proofs.lemmas.List.{length-append}
use Rattle.std.proofs.lemmas.List.Elements.{filter-append}
use Rattle.kr_base.specs.declared.ids.ConnId.{ConnId}
use Rattle.kr_base.specs.declared.ids.PromptId.{PromptId}
use Rattle.service_events.specs.collection_table.specs.Rows.{Rows}
use Rattle.prompt_state.specs.Prompts.{AreGiven, AreRising, abandoned, asked_again, ask_at, asks, begun, changed, ended, ended_row, is_agent, is_of, is_prompt, next_round, registered, row_at, unanswered_row, unregistered, without}
use Rattle.prompt_state.specs.declared.row.Ask.{Ask}
use Rattle.prompt_state.specs.declared.row.PromptKind.{PromptKind}
use Rattle.prompt_state.specs.declared.row.PromptRow.{PromptRow}
use Rattle.prompt_state.specs.declared.row.Prompts.{Prompts}
use Rattle.prompt_state.specs.declared.row.Stage.TheVariants.{Asked}
use Rattle.service_events.specs.secret_calls.specs.declared.call.Request.{Request}
use Rattle.service_events.specs.secret_calls.specs.declared.out.Body.{Body}
use Rattle.service_events.specs.secret_calls.specs.declared.out.ErrorName.{ErrorName}
use Rattle.service_events.specs.service_prompts.specs.Announcing.{announced, closing_signals}
use Rattle.service_events.specs.service_prompts.specs.Prompting.{ask_sent, ask_signal, ask_signal_in, completed_sent, completed_signal}
use Rattle.service_events.specs.service_tables.specs.Opened.{contents_of}
use Rattle.service_events.specs.service_tables.specs.Questions.{CollectionQuestions}
use Rattle.service_events.specs.service_tables.specs.TablesReading.{asked_collections}
use Rattle.service_events.specs.service_tables.specs.Sound.{IsSound}
use Rattle.service_events.specs.service_tables.specs.State.{State}
use Rattle.service_events.specs.service_tables.specs.Storing.{Brought}
use Rattle.service_events.specs.service_tables.specs.declared.fate.Fate.{Fate}
use Rattle.service_events.specs.service_tables.specs.Sent.{One, Sent}
use Rattle.service_events.specs.Derivation.{derived, row_derived}
use Rattle.service_events.specs.Plan.{Change, Open_session, Close_session, Lock_collection, Begin_prompt, Ask_prompt, Derive_key, Count_wrong, Clear_wrong, Go_on, End_prompt, Become_agent, Leave_agent, Plan}
use Rattle.service_events.specs.PromptCalls.{asks_for, completes as completed_for, go_on_sent, gone_on, is_given_up, is_over_row, passed_kind, passed_over, passed_row}
use Rattle.service_events.specs.Replay.{replay}
use Rattle.service_events.specs.Run.{asked, performed, performed_all, run, sent_all, sent_asked, sent_by, sent_opened, sent_settled}
use Rattle.service_events.specs.Step.{brought_by, brought_derived, message_of, puts_out, replies, served, step, terms_of, with_delivered}
use Rattle.service_events.specs.declared.event.Derivation.{Derivation}
use Rattle.service_events.specs.declared.event.Event.{Event}
use Rattle.service_events.specs.declared.event.Event.TheVariants as event
use Rattle.service_events.proofs.AdvanceLemmas.{row-changed}
use Rattle.service_events.proofs.AnnouncedLemmas.{AreAnnounced, asked-announced, closing-announced, opened-announced, settled-announced}
use Rattle.service_events.proofs.EndLemmas.{prompts-settled}
use Rattle.service_events.proofs.RunLemmas.{keeps-run, plan_for}
use Rattle.machine_laws.specs.Completions.{completes, completions, completions_in, IsOver}
use Rattle.machine_laws.proofs.AnnouncedLemmas.{announced-none}

-- how many rows have the prompt's number
abbrev count : PromptId → List PromptRow → ℕ
count p rows = length (filter (is_prompt p) rows)

-- how often Completed may still be put out for the prompt
abbrev left : PromptId → Prompts → ℕ
left p prompts = count p prompts.rows + cond (nat_le prompts.next p.0) 1 0

-- if one Completed was left at most, what is sent of it and what is left after that are what was left
abbrev IsPaid : PromptId → List Sent → Prompts → Prompts → Type 0
IsPaid p sent new old = left p old ≤ 1 → completions_in p sent + left p new ≡ left p old

-- ---- how many have a number

count-above : (p : PromptId) (k : ℕ) (rows : List PromptRow) → AllByRecursion (λ row. k < row.prompt.0) rows → p.0 ≤ k → count p rows ≡ 0
count-above p k [] above le = refl
count-above p k (x ∷ xs) above le =
    let over : k < x.prompt.0 = above.0 in
    let off : nat_eq x.prompt.0 p.0 ≡ false = grind (arith, nat_tests) in
    rw off (count-above p k xs above.1 le)

count-below : (p : PromptId) (m : ℕ) (rows : List PromptRow) → AreGiven m rows → m ≤ p.0 → count p rows ≡ 0
count-below p m [] given le = refl
count-below p m (x ∷ xs) given le =
    let under : x.prompt.0 < m = given.0 in
    let off : nat_eq x.prompt.0 p.0 ≡ false = grind (arith, nat_tests) in
    rw off (count-below p m xs given.1 le)

count-once : (p : PromptId) (rows : List PromptRow) → AreRising rows → count p rows ≤ 1
count-once p [] rising = omega arith
count-once p (x ∷ xs) rising =
    let step : (b : Bool) → is_prompt p x ≡ b → count p (x ∷ xs) ≤ 1 =
    elim [
      | true ↦ λ is.
          let le : p.0 ≤ x.prompt.0 = grind (arith, nat_tests) in
          let none = count-above p x.prompt.0 xs rising.0 le in
          rw is (omega (arith, none))
      | false ↦ λ off. rw off (count-once p xs rising.1)
    ] in
    step (is_prompt p x) refl

-- one Completed is left at most
left-once : (p : PromptId) (prompts : Prompts) → AreGiven prompts.next prompts.rows → AreRising prompts.rows → left p prompts ≤ 1
left-once p prompts given rising =
    let step : (b : Bool) → nat_le prompts.next p.0 ≡ b → left p prompts ≤ 1 =
    elim [
      | true ↦ λ is.
          let le : prompts.next ≤ p.0 = grind (arith, nat_tests) in
          let none = count-below p prompts.next prompts.rows given le in
          rw is (omega (arith, none))
      | false ↦ λ off. let once = count-once p prompts.rows rising in rw off (omega (arith, once))
    ] in
    step (nat_le prompts.next p.0) refl

-- a row is among those that pass, or among those that don't
count-split : (p : PromptId) (test : PromptRow → Bool) (rows : List PromptRow) → count p (filter test rows) + count p (filter (λ row. not (test row)) rows) ≡ count p rows
count-split p test [] = refl
count-split p test (x ∷ xs) =
    let rest = count-split p test xs in
    let step : (a b : Bool) → test x ≡ a → is_prompt p x ≡ b → count p (filter test (x ∷ xs)) + count p (filter (λ row. not (test row)) (x ∷ xs)) ≡ count p (x ∷ xs) =
    elim [
      | true ↦ elim [ true ↦ λ is own. rw (is, own) (omega (arith, rest)) | false ↦ λ is off. rw (is, off) rest ]
      | false ↦ elim [ true ↦ λ far own. rw (far, own) (omega (arith, rest)) | false ↦ λ far off. rw (far, off) rest ]
    ] in
    step (test x) (is_prompt p x) refl refl

count-more : (p : PromptId) (rows : List PromptRow) (row : PromptRow) → count p (rows ++ row ∷ []) ≡ count p rows + cond (is_prompt p row) 1 0
count-more p [] row =
    let step : (b : Bool) → length (cond b (row ∷ []) []) ≡ 0 + cond b 1 0 = elim [ true ↦ refl | false ↦ refl ] in
    step (is_prompt p row)
count-more p (x ∷ xs) row =
    let rest = count-more p xs row in
    let step : (b : Bool) → is_prompt p x ≡ b → count p ((x ∷ xs) ++ row ∷ []) ≡ count p (x ∷ xs) + cond (is_prompt p row) 1 0 =
    elim [ true ↦ λ is. rw is (omega (arith, rest)) | false ↦ λ off. rw off rest ] in
    step (is_prompt p x) refl

count-kept : (p : PromptId) (h : PromptRow → PromptRow) → ((row : PromptRow) → (h row).prompt ≡ row.prompt) → (rows : List PromptRow) → count p (map h rows) ≡ count p rows
count-kept p h keeps [] = refl
count-kept p h keeps (x ∷ xs) =
    let rest = count-kept p h keeps xs in
    let same : is_prompt p (h x) ≡ is_prompt p x = ap (λ (q : PromptId). nat_eq q.0 p.0) (keeps x) in
    let step : (b : Bool) → is_prompt p x ≡ b → count p (map h (x ∷ xs)) ≡ count p (x ∷ xs) =
    elim [
      | true ↦ λ is. let also : is_prompt p (h x) ≡ true = same ∙ is in rw (also, is) (omega (arith, rest))
      | false ↦ λ off. let also : is_prompt p (h x) ≡ false = same ∙ off in rw (also, off) rest
    ] in
    step (is_prompt p x) refl

-- the row that is found counts among those that pass a test, if it does
count-own : (p : PromptId) (test : PromptRow → Bool) (rows : List PromptRow) (row : PromptRow) → test row ≡ true → find (is_prompt p) rows ≡ Some row → 1 ≤ count p (filter test rows)
count-own p test [] row own is = absurd (let no : None ≡ Some row = is in cc)
count-own p test (x ∷ xs) row own is =
    let more : List PromptRow = filter test xs in
    let step : (a b : Bool) → is_prompt p x ≡ a → test x ≡ b → 1 ≤ count p (cond b (x ∷ more) more) =
    elim [
      | true ↦ elim [
        | true ↦ λ here its. rw here (omega arith)
        | false ↦ λ here other.
            let found : Some x ≡ Some row = rw here at is in
            let same : x ≡ row = cc in
            absurd (let no : false ≡ true = sym other ∙ ap test same ∙ own in cc)
      ]
      | false ↦ λ b off its.
          let later : find (is_prompt p) xs ≡ Some row = rw off at is in
          let rest = count-own p test xs row own later in
          let either : (b : Bool) → 1 ≤ count p (cond b (x ∷ more) more) = elim [ true ↦ rw off rest | false ↦ rest ] in
          either b
    ] in
    step (is_prompt p x) (test x) refl refl

count-none : (p : PromptId) (rows : List PromptRow) → count p rows ≡ 0 → find (is_prompt p) rows ≡ None
count-none p [] none = refl
count-none p (x ∷ xs) none =
    let step : (b : Bool) → is_prompt p x ≡ b → find (is_prompt p) (x ∷ xs) ≡ None =
    elim [
      | true ↦ λ here. absurd (let some : length (x ∷ filter (is_prompt p) xs) ≡ 0 = rw here at none in omega (arith, some))
      | false ↦ λ off. let fewer : count p xs ≡ 0 = rw off at none in rw off (count-none p xs fewer)
    ] in
    step (is_prompt p x) refl

none-count : (p : PromptId) (rows : List PromptRow) → find (is_prompt p) rows ≡ None → count p rows ≡ 0
none-count p [] none = refl
none-count p (x ∷ xs) none =
    let step : (b : Bool) → is_prompt p x ≡ b → count p (x ∷ xs) ≡ 0 =
    elim [
      | true ↦ λ here. absurd (let no : Some x ≡ None = rw here at none in cc)
      | false ↦ λ off. let fewer : find (is_prompt p) xs ≡ None = rw off at none in rw off (none-count p xs fewer)
    ] in
    step (is_prompt p x) refl

-- nothing is left for a prompt that is over, and for no other
over-none : (p : PromptId) (prompts : Prompts) → IsOver p prompts → left p prompts ≡ 0
over-none p prompts over =
    let gone = none-count p prompts.rows over.gone in
    let given : p.0 < prompts.next = over.given in
    let off : nat_le prompts.next p.0 ≡ false = grind (arith, nat_tests) in
    rw off (omega (arith, gone))

none-over : (p : PromptId) (prompts : Prompts) → left p prompts ≡ 0 → IsOver p prompts
none-over p prompts none =
    let step : (b : Bool) → nat_le prompts.next p.0 ≡ b → p.0 < prompts.next =
    elim [
      | true ↦ λ is. absurd (let some : count p prompts.rows + 1 ≡ 0 = rw is at none in omega (arith, some))
      | false ↦ λ off. grind (arith, nat_tests)
    ] in
    record {
      given = step (nat_le prompts.next p.0) refl;
      gone = count-none p prompts.rows (omega (arith, none));
    }

-- ---- what is sent

told-append : (p : PromptId) (sent more : List Sent) → completions_in p (sent ++ more) ≡ completions_in p sent + completions_in p more
told-append p sent more =
    ap length (filter-append (λ (one : Sent). completes p one.out) sent more)
    ∙ length-append (filter (λ (one : Sent). completes p one.out) sent) (filter (λ (one : Sent). completes p one.out) more)

-- Ask isn't Completed
module _ (p : PromptId) (collections : Rows) (prompts : Prompts) where
  pub asks-told : (list : List Ask) → completions_in p (filter_map (ask_signal_in collections prompts) list) ≡ 0
  asks-told [] = refl
  asks-told (ask ∷ list) =
      let rest = asks-told list in
      let pass : (o : Option PromptRow)
      → completions_in p (cons_option (option_map (λ (row : PromptRow). ask_signal collections row.kind ask) o) (filter_map (ask_signal_in collections prompts) list)) ≡ 0 =
      elim [ None ↦ rest | Some row ↦ rest ] in
      pass (row_at ask.prompt prompts)

  pub ask-told : (prompt : PromptId) → completions_in p (ask_sent prompt prompts collections) ≡ 0
  ask-told prompt =
      let pass : (o : Option Ask) → completions_in p (cons_option (option_and_then (ask_signal_in collections prompts) o) []) ≡ 0 =
      elim [ None ↦ refl | Some ask ↦ asks-told (ask ∷ []) ] in
      pass (ask_at prompt prompts)

-- rows that have another number
count-other : (p prompt : PromptId) (rows : List PromptRow) → nat_eq prompt.0 p.0 ≡ false → count p (filter (is_prompt prompt) rows) ≡ 0
count-other p prompt [] off = refl
count-other p prompt (x ∷ xs) off =
    let rest = count-other p prompt xs off in
    let more : List PromptRow = filter (is_prompt prompt) xs in
    let step : (b : Bool) → is_prompt prompt x ≡ b → count p (cond b (x ∷ more) more) ≡ 0 =
    elim [
      | true ↦ λ is. let far : nat_eq x.prompt.0 p.0 ≡ false = grind (arith, nat_tests) in rw far rest
      | false ↦ λ is. rest
    ] in
    step (is_prompt prompt x) refl

-- Completed is sent for the only row that has the number
ends-told : (p prompt : PromptId) (dismissed : Bool) (created : Option (List ℕ)) (rows : List PromptRow) → count p (filter (is_prompt prompt) rows) ≤ 1
    → completions_in p (cons_option (option_map (λ (row : PromptRow). completed_signal dismissed created (ended_row row)) (find (is_prompt prompt) rows)) []) ≡ count p (filter (is_prompt prompt) rows)
ends-told p prompt dismissed created [] few = refl
ends-told p prompt dismissed created (x ∷ xs) few =
    let sent = completed_signal dismissed created (ended_row x) in
    let more : List PromptRow = filter (is_prompt prompt) xs in
    let others = filter (is_prompt p) more in
    let one : (b : Bool) → is_prompt prompt x ≡ true → is_prompt p x ≡ b → length (cond b (x ∷ others) others) ≤ 1 → length (cond b (sent ∷ []) []) ≡ length (cond b (x ∷ others) others) =
    elim [
      | true ↦ λ its own some. omega (arith, some)
      | false ↦ λ its off some. let far : nat_eq prompt.0 p.0 ≡ false = grind (arith, nat_tests) in let none = count-other p prompt xs far in omega (arith, none)
    ] in
    let step : (b : Bool) → is_prompt prompt x ≡ b → count p (cond b (x ∷ more) more) ≤ 1
    → completions_in p (cons_option (option_map (λ (row : PromptRow). completed_signal dismissed created (ended_row row)) (cond b (Some x) (find (is_prompt prompt) xs))) [])
    ≡ count p (cond b (x ∷ more) more) =
    elim [ true ↦ λ is some. one (is_prompt p x) is refl some | false ↦ λ off some. ends-told p prompt dismissed created xs some ] in
    step (is_prompt prompt x) refl few

-- ---- changes of the prompts

ended-paid : (p prompt : PromptId) (dismissed : Bool) (created : Option (List ℕ)) (prompts : Prompts) → IsPaid p (completed_sent prompt dismissed created prompts) (ended prompt prompts) prompts
ended-paid p prompt dismissed created prompts = λ few.
    let split = count-split p (is_prompt prompt) prompts.rows in
    let once : count p (filter (is_prompt prompt) prompts.rows) ≤ 1 = omega (arith, few, split) in
    let told = ends-told p prompt dismissed created prompts.rows once in
    omega (arith, told, split)

module _ (p : PromptId) (sent : List Sent) (none : completions_in p sent ≡ 0) where
  map-paid : (h : PromptRow → PromptRow) → ((row : PromptRow) → (h row).prompt ≡ row.prompt) → (prompts : Prompts) (agent : Option ConnId)
      → IsPaid p sent (record { rows = map h prompts.rows; agent = agent; next = prompts.next }) prompts
  map-paid h keeps prompts agent = λ few. let same = count-kept p h keeps prompts.rows in omega (arith, none, same)

  changed-paid : (prompt : PromptId) (f : PromptRow → PromptRow) → ((row : PromptRow) → (f row).prompt ≡ row.prompt) → (prompts : Prompts) → IsPaid p sent (changed prompt f prompts) prompts
  changed-paid prompt f keeps prompts =
      let its : (row : PromptRow) → (cond (is_prompt prompt row) (f row) row).prompt ≡ row.prompt =
      λ row.
      let step : (b : Bool) → (cond b (f row) row).prompt ≡ row.prompt = elim [ true ↦ keeps row | false ↦ refl ] in
      step (is_prompt prompt row) in
      map-paid (λ row. cond (is_prompt prompt row) (f row) row) its prompts prompts.agent

room-moves : (next number : ℕ) → cond (nat_eq next number) 1 0 + cond (nat_le (next + 1) number) 1 0 ≡ cond (nat_le next number) 1 0
room-moves next number = grind (arith, nat_tests)

begun-paid : (p : PromptId) (owner : ConnId) (kind : PromptKind) (prompts : Prompts) → IsPaid p [] (begun owner kind prompts) prompts
begun-paid p owner kind prompts = λ few.
    let more : count p (begun owner kind prompts).rows ≡ count p prompts.rows + cond (nat_eq prompts.next p.0) 1 0 = count-more p prompts.rows _ in
    let moved = room-moves prompts.next p.0 in
    omega (arith, more, moved)

-- a prompt that continues
module _ (p prompt : PromptId) (asks : CollectionQuestions) (collections : Rows) (prompts : Prompts) where
  abbrev pub over : Prompts
  over = passed_over prompt asks prompts

  pub row-passed : row_at prompt over ≡ option_map (passed_row asks) (row_at prompt prompts)
  row-passed = row-changed prompt (passed_row asks) prompts (λ row. refl)

  asks-none : (row : PromptRow) (kind : PromptKind) (agent : Option ConnId) → completions_in p (asks_for collections row kind agent) ≡ 0
  asks-none row kind = elim [ None ↦ refl | Some agent ↦ refl ]

  -- whether the prompt is dismissed if it ends
  abbrev pub gives-up : Option PromptRow → Bool
  gives-up row = option_map_or (λ (row : PromptRow). is_given_up row.kind) row false

  pub end-sends : (row : Option PromptRow) → is_over_row asks (option_map (passed_row asks) row) ≡ true
      → go_on_sent asks collections prompts.agent row
      ≡ cons_option (option_map (λ (it : PromptRow). completed_signal (gives-up (option_map (passed_row asks) row)) None (ended_row it)) (option_map (passed_row asks) row)) []
  end-sends None is = refl
  end-sends (Some row) is =
      let kind = passed_kind asks row.kind in
      ap (λ b. cond b (completed_for row kind) (asks_for collections row kind prompts.agent)) is

  pub ask-sends : (row : Option PromptRow) → is_over_row asks (option_map (passed_row asks) row) ≡ false → completions_in p (go_on_sent asks collections prompts.agent row) ≡ 0
  ask-sends None is = refl
  ask-sends (Some row) is =
      let kind = passed_kind asks row.kind in
      ap (λ b. completions_in p (cond b (completed_for row kind) (asks_for collections row kind prompts.agent))) is ∙ asks-none row kind prompts.agent

  gone_on-paid : IsPaid p (go_on_sent asks collections prompts.agent (row_at prompt prompts)) (gone_on prompt asks prompts) prompts
  gone_on-paid = λ few.
      let row = row_at prompt prompts in
      let passed = changed-paid p [] refl prompt (passed_row asks) (λ row. refl) prompts few in
      let one : left p over ≤ 1 = omega (arith, passed, few) in
      let pass : (b : Bool) → is_over_row asks (row_at prompt over) ≡ b
      → completions_in p (go_on_sent asks collections prompts.agent row) + left p (cond b (ended prompt over) (asked_again prompt over)) ≡ left p prompts =
      elim [
        | true ↦ λ is.
            let up = gives-up (row_at prompt over) in
            let same : go_on_sent asks collections prompts.agent row ≡ completed_sent prompt up None over =
            end-sends row (sym (ap (is_over_row asks) row-passed) ∙ is)
            ∙ ap (λ o. cons_option (option_map (λ (it : PromptRow). completed_signal (gives-up o) None (ended_row it)) o) []) (sym row-passed) in
            let told = ap (completions_in p) same in
            let paid = ended-paid p prompt up None over one in
            omega (arith, passed, told, paid)
        | false ↦ λ is.
            let none = ask-sends row (sym (ap (is_over_row asks) row-passed) ∙ is) in
            let paid = changed-paid p [] refl prompt (λ row. record row { stage = Asked (next_round (row_at prompt over)) }) (λ row. refl) over one in
            omega (arith, passed, none, paid)
      ] in
      pass (is_over_row asks (row_at prompt over)) refl

-- ---- changes of the state

performed-paid : (p : PromptId) (caller : ConnId) (change : Change) (state : State) → IsPaid p (sent_by caller change state) (performed caller change state).prompts state.prompts
performed-paid p caller Open_session state = λ few. omega arith
performed-paid p caller (Close_session session) state = λ few. omega arith
performed-paid p caller (Lock_collection stem) state = λ few. let none = announced-none p (announced (closing_signals stem state.collections)) (closing-announced stem state.collections) in omega (arith, none)
performed-paid p caller (Begin_prompt kind) state = begun-paid p caller kind state.prompts
performed-paid p caller (Ask_prompt prompt) state =
    changed-paid p (ask_sent prompt (asked_again prompt state.prompts) state.collections) (ask-told p state.collections (asked_again prompt state.prompts) prompt) prompt _ (λ row. refl) state.prompts
performed-paid p caller (Derive_key prompt round) state = changed-paid p [] refl prompt _ (λ row. refl) state.prompts
performed-paid p caller (Count_wrong prompt) state = changed-paid p [] refl prompt _ (λ row. refl) state.prompts
performed-paid p caller (Clear_wrong prompt) state = changed-paid p [] refl prompt _ (λ row. refl) state.prompts
performed-paid p caller (Go_on prompt) state = gone_on-paid p prompt (asked_collections (contents_of state)) state.collections state.prompts
performed-paid p caller (End_prompt prompt dismissed created) state = ended-paid p prompt dismissed created state.prompts
performed-paid p caller Become_agent state = λ few.
    let none = asks-told p state.collections (registered caller state.prompts) (asks (registered caller state.prompts)) in
    omega (arith, none)
performed-paid p caller Leave_agent state = map-paid p [] refl unanswered_row (λ row. refl) state.prompts None

all-paid : (p : PromptId) (caller : ConnId) (changes : List Change) (state : State) → IsPaid p (sent_all caller changes state) (performed_all caller changes state).prompts state.prompts
all-paid p caller [] state = λ few. omega arith
all-paid p caller (change ∷ changes) state = λ few.
    let next = performed caller change state in
    let first = performed-paid p caller change state few in
    let one : left p next.prompts ≤ 1 = omega (arith, first, few) in
    let rest = all-paid p caller changes next one in
    let both = told-append p (sent_by caller change state) (sent_all caller changes next) in
    omega (arith, first, rest, both)

-- ---- plans and events

-- what is sent to everyone takes nothing from what is left
announced-paid : (p : PromptId) (said sent : List Sent) (new old : Prompts) → AreAnnounced said → IsPaid p sent new old → IsPaid p (said ++ sent) new old
announced-paid p said sent new old are paid = λ few. let none = announced-none p said are in let both = told-append p said sent in let rest = paid few in omega (arith, none, both, rest)

run-paid : (p : PromptId) (caller : ConnId) (brought : Brought) (plan : Plan) (fates : List Fate) (state : State)
    → IsPaid p (run caller brought plan fates state).sends (run caller brought plan fates state).state.prompts state.prompts
run-paid p caller brought =
    keeps-run caller brought (λ before ran. IsPaid p ran.sends ran.state.prompts before.prompts)
    (record {
      ends = λ answer changes state small. all-paid p caller changes state;
      fails = λ name state few. omega arith;
      asks = λ demand ended state ran paid. announced-paid p (sent_asked brought demand ended state) ran.sends ran.state.prompts state.prompts (asked-announced brought demand ended state) paid;
      settles = λ reading ended state ran paid.
          announced-paid p (sent_settled reading ended state) ran.sends ran.state.prompts state.prompts (settled-announced reading ended state)
          (subst (IsPaid p ran.sends ran.state.prompts) (prompts-settled reading ended state) paid);
      opens = λ stem terms state ran paid. announced-paid p (sent_opened brought stem terms state) ran.sends ran.state.prompts state.prompts (opened-announced brought stem terms state) paid;
    })

-- a reply isn't Completed
pub reply-told : (p : PromptId) (caller : ConnId) (request : Request) (answer : Result Body ErrorName) → completions_in p (replies caller request answer) ≡ 0
reply-told p caller request answer =
    let pass : (wanted : Bool) (answer : Result Body ErrorName) → completions_in p (cond wanted (record { to = One caller; out = message_of request.serial answer } ∷ []) []) ≡ 0 =
    elim [ true ↦ elim [ Ok body ↦ refl | Err name ↦ refl ] | false ↦ λ answer. refl ] in
    pass request.wants_reply answer

-- the event isn't that a connection is gone
abbrev IsStay : Event → Type 0
IsStay (event.Gone conn) = ⊥
IsStay _ = Unit {0}

event-paid : (p : PromptId) (state : State) (event : Event) → IsStay event → IsPaid p (puts_out state event) (step state event).prompts state.prompts
event-paid p state (event.Connect conn) stay = λ few. omega arith
event-paid p state (event.Arrive came) stay = λ few.
    let caller = came.arrival.conn in
    let ran = served came state in
    let paid = run-paid p caller (brought_by came.arrival) (plan_for came state) came.fates state few in
    let none = reply-told p caller came.arrival.request ran.answer in
    let both = told-append p (replies caller came.arrival.request ran.answer) ran.sends in
    omega (arith, paid, none, both)
event-paid p state (event.Derived came) stay =
    let brought = brought_derived came in
    run-paid p came.conn brought (derived came.prompt came.round (terms_of came) (asked came.conn brought state)) came.fates state
event-paid p state (event.Leave conn) stay = λ few. omega arith
event-paid p state (event.Take conn) stay = λ few. omega arith
event-paid p state (event.Gone conn) stay = absurd stay

-- once a connection is gone, as much is left as without its prompts
abandoned-left : (p : PromptId) (conn : ConnId) (prompts : Prompts) → left p (abandoned conn prompts) ≡ left p (without conn prompts)
abandoned-left p conn prompts =
    let same = count-kept p unanswered_row (λ row. refl) (without conn prompts).rows in
    let step : (b : Bool) → left p (cond b (unregistered (without conn prompts)) (without conn prompts)) ≡ left p (without conn prompts) = elim [ true ↦ omega (arith, same) | false ↦ refl ] in
    step (is_agent conn prompts)

-- no event leaves more
event-fewer : (p : PromptId) (state : State) (event : Event) → left p state.prompts ≤ 1 → completions_in p (puts_out state event) + left p (step state event).prompts ≤ left p state.prompts
event-fewer p state (event.Gone conn) few =
    let split = count-split p (is_of conn) state.prompts.rows in
    let same = abandoned-left p conn state.prompts in
    omega (arith, split, same)
event-fewer p state some few = let paid = event-paid p state some tt few in omega (arith, paid)

list-fewer : (p : PromptId) (state : State) (events : List Event) → left p state.prompts ≤ 1 → completions p state events + left p (replay state events).prompts ≤ left p state.prompts
list-fewer p state [] few = omega arith
list-fewer p state (event ∷ events) few =
    let first = event-fewer p state event few in
    let one : left p (step state event).prompts ≤ 1 = omega (arith, first, few) in
    let rest = list-fewer p (step state event) events one in
    omega (arith, first, rest)

-- once a connection is gone, the prompts of others are left
event-kept : (p : PromptId) (state : State) (row : PromptRow) (some : Event) → row_at p state.prompts ≡ Some row → (some ≡ event.Gone row.owner → ⊥) → IsPaid p (puts_out state some) (step state some).prompts state.prompts
event-kept p state row (event.Gone conn) found another = λ few.
    let prompts = state.prompts in
    let not_its : (b : Bool) → is_of conn row ≡ b → not b ≡ true =
    elim [
      | true ↦ λ is. absurd (let same : conn.0 ≡ row.owner.0 = grind (arith, nat_tests) in another (λ i. event.Gone (record { 0 = same i })))
      | false ↦ λ off. refl
    ] in
    let stays = count-own p (λ (other : PromptRow). not (is_of conn other)) prompts.rows row (not_its (is_of conn row) refl) found in
    let split = count-split p (is_of conn) prompts.rows in
    let same = abandoned-left p conn prompts in
    omega (arith, few, stays, split, same)
event-kept p state row some found another = event-paid p state some tt

-- ---- the law

sound-left : (p : PromptId) (state : State) → IsSound state → left p state.prompts ≤ 1
sound-left p state sound = left-once p state.prompts sound.prompts.kept.given sound.prompts.kept.rising

pub completes_once : (p : PromptId) (state : State) (events : List Event) → IsSound state → completions p state events ≤ 1
completes_once p state events sound = let few = sound-left p state sound in omega (arith, list-fewer p state events few, few)

pub over_once_completed : (p : PromptId) (state : State) (events : List Event) → IsSound state → 1 ≤ completions p state events → IsOver p (replay state events).prompts
over_once_completed p state events sound some =
    let few = sound-left p state sound in
    none-over p (replay state events).prompts (omega (arith, list-fewer p state events few, few, some))

pub over_once_gone : (p : PromptId) (state : State) (row : PromptRow) → IsSound state → row_at p state.prompts ≡ Some row → IsOver p (step state (event.Gone row.owner)).prompts
over_once_gone p state row sound found =
    let itself : is_of row.owner row ≡ true = grind (arith, nat_tests) in
    let own = count-own p (is_of row.owner) state.prompts.rows row itself found in
    let split = count-split p (is_of row.owner) state.prompts.rows in
    let fewer = abandoned-left p row.owner state.prompts in
    none-over p (abandoned row.owner state.prompts) (omega (arith, own, split, fewer, sound-left p state sound))

pub over_for_good : (p : PromptId) (state : State) (events : List Event) → IsOver p state.prompts → IsOver p (replay state events).prompts
over_for_good p state events over =
    let none = over-none p state.prompts over in
    none-over p (replay state events).prompts (omega (arith, list-fewer p state events (omega (arith, none)), none))

pub over_is_silent : (p : PromptId) (state : State) (events : List Event) → IsOver p state.prompts → completions p state events ≡ 0
over_is_silent p state events over = let none = over-none p state.prompts over in omega (arith, list-fewer p state events (omega (arith, none)), none)

pub derived_for_none : (state : State) (came : Derivation) → IsOver came.prompt state.prompts → puts_out state (event.Derived came) ≡ []
derived_for_none state came over =
    let brought = brought_derived came in
    let terms = terms_of came in
    let asks = asked came.conn brought state in
    ap (λ (o : Option PromptRow). (run came.conn brought (row_derived came.prompt came.round o terms asks) came.fates state).sends) over.gone

pub derived_is_nothing : (state : State) (came : Derivation) → IsOver came.prompt state.prompts → step state (event.Derived came) ≡ state
derived_is_nothing state came over =
    let brought = brought_derived came in
    let terms = terms_of came in
    let asks = asked came.conn brought state in
    ap (λ (o : Option PromptRow).
    let ran = run came.conn brought (row_derived came.prompt came.round o terms asks) came.fates state in
    with_delivered ran.sends ran.state) over.gone

-- a prompt that is over by an event other than that its owner is gone has completed
pub completes_at_its_end : (p : PromptId) (state : State) (row : PromptRow) (some : Event) → IsSound state → row_at p state.prompts ≡ Some row → (some ≡ event.Gone row.owner → ⊥)
    → IsOver p (step state some).prompts → completions_in p (puts_out state some) ≡ 1
completes_at_its_end p state row some sound found another ends =
    let itself : is_of row.owner row ≡ true = grind (arith, nat_tests) in
    let own = count-own p (is_of row.owner) state.prompts.rows row itself found in
    let split = count-split p (is_of row.owner) state.prompts.rows in
    let few = sound-left p state sound in
    let paid = event-kept p state row some found another few in
    let none = over-none p (step state some).prompts ends in
    omega (arith, own, split, few, paid, none)
