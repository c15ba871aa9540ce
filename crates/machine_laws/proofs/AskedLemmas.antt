-- A prompt that is asked in a round in which it wasn't asked before: the change that asks it puts out Ask, if there is an agent.
use Rattle.std.proofs.Common.{◌≡◌, ⊎_elim, ℕ, ◌+◌, ◌<◌, ◌≤◌, Bool, true, false, cond, not, ◌&&◌, nat_eq, List, [], ◌∷◌, ◌++◌, filter, find, length, map, Option, Some, None, refl, sym, ap, subst, ◌∙◌, arith}
use Rattle.std.specs.List.{AllByRecursion, cons_option}
use Rattle.std.specs.Option.{option_and_then, option_map}
use Rattle.std.proofs.lemmas.Bool.{eqb-true}
use Rattle.std.proofs.lemmas.Bool.Decides.{nat_tests}
use Rattle.std.proofs.lemmas.List.{length-append}
use Rattle.std.proofs.lemmas.List.Elements.{filter-append}
use Rattle.std.proofs.lemmas.Option.{same_Some}
use Rattle.kr_base.specs.declared.ids.ConnId.{ConnId}
use Rattle.kr_base.specs.declared.ids.PromptId.{PromptId}
use Rattle.service_events.specs.collection_table.specs.Rows.{Rows}
use Rattle.prompt_state.specs.Prompts.{AreRising, ask_at, ask_of, asked_again, changed, ended, is_agent, is_asked_in, is_of, is_prompt, next_round, one_more, round_of, row_at, unregistered, without}
use Rattle.prompt_state.specs.declared.row.Ask.{Ask}
use Rattle.prompt_state.specs.declared.row.PromptKind.{PromptKind}
use Rattle.prompt_state.specs.declared.row.PromptRow.{PromptRow}
use Rattle.prompt_state.specs.declared.row.Prompts.{Prompts}
use Rattle.prompt_state.specs.declared.row.Stage.{Stage}
use Rattle.prompt_state.specs.declared.row.Stage.TheVariants.{Made, Asked, Deriving}
use Rattle.service_events.specs.service_prompts.specs.Prompting.{ask_sent, ask_signal, ask_signal_in}
use Rattle.service_events.specs.service_tables.specs.Opened.{contents_of}
use Rattle.service_events.specs.service_tables.specs.Questions.{CollectionQuestions}
use Rattle.service_events.specs.service_tables.specs.TablesReading.{asked_collections}
use Rattle.service_events.specs.service_tables.specs.Sound.{IsSound}
use Rattle.service_events.specs.service_tables.specs.State.{State}
use Rattle.service_events.specs.service_tables.specs.Storing.{Brought}
use Rattle.service_events.specs.service_tables.specs.declared.fate.Fate.{Fate}
use Rattle.service_events.specs.service_tables.specs.Sent.{Sent}
use Rattle.service_events.specs.Derivation.{derived}
use Rattle.service_events.specs.Plan.{Returns, Change, Open_session, Close_session, Lock_collection, Begin_prompt, Ask_prompt, Derive_key, Count_wrong, Clear_wrong, Go_on, End_prompt, Become_agent, Leave_agent, Plan}
use Rattle.service_events.specs.PromptCalls.{asks_for, completes, go_on_sent, gone_on, is_over_row, passed_kind, passed_over, passed_row}
use Rattle.service_events.specs.PublicBody as public
use Rattle.service_events.specs.Run.{asked, performed, performed_all, run, sent_asked, sent_by, sent_opened, sent_settled}
use Rattle.service_events.specs.Step.{brought_by, brought_derived, puts_out, replies, served, step, terms_of}
use Rattle.service_events.specs.declared.event.Event.{Event}
use Rattle.service_events.specs.declared.event.Event.TheVariants as event
use Rattle.service_events.proofs.AdvanceLemmas.{row-changed, row-number}
use Rattle.service_events.proofs.EndLemmas.{AllEnds, AreInTurn, AreQuiet, IsAny, IsEnd, IsQuiet, call-in-turn, ends-run, in-turn, key-in-turn, prompts-settled}
use Rattle.service_events.proofs.RunLemmas.{plan_for}
use Rattle.machine_laws.specs.Asks.{asks_in, asks_of, is_asked, is_asked_row}

-- 1 or 0
abbrev count-of : Bool → ℕ
count-of b = cond b 1 0

-- 1 if a row is asked in the round, otherwise 0
abbrev row-now : ℕ → Option PromptRow → ℕ
row-now r row = count-of (is_asked_row r row)

-- a prompt that is asked in the round after this, and wasn't before, is among what is sent
abbrev IsTold : PromptId → ℕ → List Sent → Prompts → Prompts → Type 0
IsTold p r sent new old = row-now r (row_at p new) ≤ row-now r (row_at p old) + asks_in p r sent

asks-append : (p : PromptId) (r : ℕ) (sent more : List Sent) → asks_in p r (sent ++ more) ≡ asks_in p r sent + asks_in p r more
asks-append p r sent more =
    ap length (filter-append (λ (one : Sent). asks_of p r one.out) sent more)
    ∙ length-append (filter (λ (one : Sent). asks_of p r one.out) sent) (filter (λ (one : Sent). asks_of p r one.out) more)

-- ---- rows

find-mapped : (p : PromptId) (h : PromptRow → PromptRow) → ((row : PromptRow) → (h row).prompt ≡ row.prompt) → (rows : List PromptRow) → find (is_prompt p) (map h rows) ≡ option_map h (find (is_prompt p) rows)
find-mapped p h keeps [] = refl
find-mapped p h keeps (x ∷ xs) =
    let same : is_prompt p (h x) ≡ is_prompt p x = ap (λ (q : PromptId). nat_eq q.0 p.0) (keeps x) in
    let pass : (b : Bool) → is_prompt p x ≡ b → find (is_prompt p) (h x ∷ map h xs) ≡ option_map h (cond b (Some x) (find (is_prompt p) xs)) =
    elim [
      | true ↦ λ is. ap (λ b. cond b (Some (h x)) (find (is_prompt p) (map h xs))) (same ∙ is)
      | false ↦ λ off. ap (λ b. cond b (Some (h x)) (find (is_prompt p) (map h xs))) (same ∙ off) ∙ find-mapped p h keeps xs
    ] in
    pass (is_prompt p x) refl

map-told : (p : PromptId) (r : ℕ) (sent : List Sent) (h : PromptRow → PromptRow) → ((row : PromptRow) → (h row).prompt ≡ row.prompt)
    → ((row : PromptRow) → row-now r (Some (h row)) ≤ row-now r (Some row)) → (prompts : Prompts) (agent : Option ConnId) → IsTold p r sent (record { rows = map h prompts.rows; agent = agent; next = prompts.next }) prompts
map-told p r sent h keeps fewer prompts agent =
    let pass : (o : Option PromptRow) → row-now r (option_map h o) ≤ row-now r o = elim [ None ↦ omega arith | Some row ↦ fewer row ] in
    let here = pass (row_at p prompts) in
    let same = ap (row-now r) (find-mapped p h keeps prompts.rows) in
    omega (arith, here, same)

changed-told : (p : PromptId) (r : ℕ) (sent : List Sent) (prompt : PromptId) (f : PromptRow → PromptRow) → ((row : PromptRow) → (f row).prompt ≡ row.prompt)
    → ((row : PromptRow) → row-now r (Some (f row)) ≤ row-now r (Some row)) → (prompts : Prompts) → IsTold p r sent (changed prompt f prompts) prompts
changed-told p r sent prompt f keeps fewer prompts =
    let its : (row : PromptRow) → (cond (is_prompt prompt row) (f row) row).prompt ≡ row.prompt =
    λ row.
    let pass : (b : Bool) → (cond b (f row) row).prompt ≡ row.prompt = elim [ true ↦ keeps row | false ↦ refl ] in
    pass (is_prompt prompt row) in
    let less : (row : PromptRow) → row-now r (Some (cond (is_prompt prompt row) (f row) row)) ≤ row-now r (Some row) =
    λ row.
    let pass : (b : Bool) → row-now r (Some (cond b (f row) row)) ≤ row-now r (Some row) = elim [ true ↦ fewer row | false ↦ omega arith ] in
    pass (is_prompt prompt row) in
    map-told p r sent (λ row. cond (is_prompt prompt row) (f row) row) its less prompts prompts.agent

-- the stage stays
keep-told : (p : PromptId) (r : ℕ) (sent : List Sent) (prompt : PromptId) (f : PromptRow → PromptRow) → ((row : PromptRow) → (f row).prompt ≡ row.prompt) → ((row : PromptRow) → (f row).stage ≡ row.stage)
    → (prompts : Prompts) → IsTold p r sent (changed prompt f prompts) prompts
keep-told p r sent prompt f keeps same prompts =
    changed-told p r sent prompt f keeps (λ row. let e = ap (λ (s : Stage). count-of (is_asked_in r s)) (same row) in omega (arith, e)) prompts

-- the key is being derived
deriving-told : (p : PromptId) (r : ℕ) (prompt : PromptId) (round : ℕ) (prompts : Prompts) → IsTold p r [] (changed prompt (λ row. record row { stage = Deriving round }) prompts) prompts
deriving-told p r prompt round prompts =
    changed-told p r [] prompt (λ row. record row { stage = Deriving round }) (λ row. refl) (λ row. let e : row-now r (Some (record row { stage = Deriving round })) ≡ 0 = refl in omega (arith, e)) prompts

-- a prompt that ended isn't there
ended-none : (p prompt : PromptId) (rows : List PromptRow) → nat_eq p.0 prompt.0 ≡ true → find (is_prompt p) (filter (λ (row : PromptRow). not (is_prompt prompt row)) rows) ≡ None
ended-none p prompt [] same = refl
ended-none p prompt (x ∷ xs) same =
    let rest = filter (λ (row : PromptRow). not (is_prompt prompt row)) xs in
    let none = ended-none p prompt xs same in
    let pass : (b : Bool) → is_prompt prompt x ≡ b → find (is_prompt p) (cond (not b) (x ∷ rest) rest) ≡ None =
    elim [
      | true ↦ λ is. none
      | false ↦ λ off. let far : is_prompt p x ≡ false = grind (arith, nat_tests) in ap (λ b. cond b (Some x) (find (is_prompt p) rest)) far ∙ none
    ] in
    pass (is_prompt prompt x) refl

ended-row : (p prompt : PromptId) (r : ℕ) (rows : List PromptRow) → row-now r (find (is_prompt p) (filter (λ (row : PromptRow). not (is_prompt prompt row)) rows)) ≤ row-now r (find (is_prompt p) rows)
ended-row p prompt r [] = omega arith
ended-row p prompt r (x ∷ xs) =
    let rest = filter (λ (row : PromptRow). not (is_prompt prompt row)) xs in
    let fewer = ended-row p prompt r xs in
    let pass : (a b : Bool) → is_prompt prompt x ≡ a → is_prompt p x ≡ b → row-now r (find (is_prompt p) (cond (not a) (x ∷ rest) rest)) ≤ row-now r (cond b (Some x) (find (is_prompt p) xs)) =
    elim [
      | true ↦ elim [
        | true ↦ λ its own.
            let same : nat_eq p.0 prompt.0 ≡ true = grind (arith, nat_tests) in
            let none : row-now r (find (is_prompt p) rest) ≡ 0 = ap (row-now r) (ended-none p prompt xs same) in
            omega (arith, none)
        | false ↦ λ its far. fewer
      ]
      | false ↦ elim [
        | true ↦ λ other own. let here = ap (λ b. row-now r (cond b (Some x) (find (is_prompt p) rest))) own in omega (arith, here)
        | false ↦ λ other far. let here = ap (λ b. row-now r (cond b (Some x) (find (is_prompt p) rest))) far in omega (arith, here, fewer)
      ]
    ] in
    pass (is_prompt prompt x) (is_prompt p x) refl refl

-- a prompt that begins isn't asked
begun-row : (p : PromptId) (r : ℕ) (y : PromptRow) (rows : List PromptRow) → row-now r (Some y) ≡ 0 → row-now r (find (is_prompt p) (rows ++ y ∷ [])) ≤ row-now r (find (is_prompt p) rows)
begun-row p r y [] none =
    let pass : (b : Bool) → row-now r (cond b (Some y) None) ≤ row-now r None = elim [ true ↦ omega (arith, none) | false ↦ omega arith ] in
    pass (is_prompt p y)
begun-row p r y (x ∷ xs) none =
    let fewer = begun-row p r y xs none in
    let pass : (b : Bool) → row-now r (cond b (Some x) (find (is_prompt p) (xs ++ y ∷ []))) ≤ row-now r (cond b (Some x) (find (is_prompt p) xs)) = elim [ true ↦ omega arith | false ↦ fewer ] in
    pass (is_prompt p x)

-- no row above has the number
above-none : (p : PromptId) (k : ℕ) (test : PromptRow → Bool) (rows : List PromptRow) → AllByRecursion (λ row. k < row.prompt.0) rows → p.0 ≤ k → find (is_prompt p) (filter test rows) ≡ None
above-none p k test [] above le = refl
above-none p k test (x ∷ xs) above le =
    let rest = filter test xs in
    let none = above-none p k test xs above.1 le in
    let over : k < x.prompt.0 = above.0 in
    let off : is_prompt p x ≡ false = grind (arith, nat_tests) in
    let pass : (b : Bool) → find (is_prompt p) (cond b (x ∷ rest) rest) ≡ None = elim [ true ↦ ap (λ b. cond b (Some x) (find (is_prompt p) rest)) off ∙ none | false ↦ none ] in
    pass (test x)

-- of the rows that pass a test no other is asked
filtered-row : (p : PromptId) (r : ℕ) (test : PromptRow → Bool) (rows : List PromptRow) → AreRising rows → row-now r (find (is_prompt p) (filter test rows)) ≤ row-now r (find (is_prompt p) rows)
filtered-row p r test [] rising = omega arith
filtered-row p r test (x ∷ xs) rising =
    let rest = filter test xs in
    let fewer = filtered-row p r test xs rising.1 in
    let pass : (a b : Bool) → is_prompt p x ≡ b → row-now r (find (is_prompt p) (cond a (x ∷ rest) rest)) ≤ row-now r (cond b (Some x) (find (is_prompt p) xs)) =
    elim [
      | true ↦ elim [
        | true ↦ λ own. let here = ap (λ b. row-now r (cond b (Some x) (find (is_prompt p) rest))) own in omega (arith, here)
        | false ↦ λ far. let here = ap (λ b. row-now r (cond b (Some x) (find (is_prompt p) rest))) far in omega (arith, here, fewer)
      ]
      | false ↦ elim [
        | true ↦ λ own.
            let le : p.0 ≤ x.prompt.0 = grind (arith, nat_tests) in
            let none : row-now r (find (is_prompt p) rest) ≡ 0 = ap (row-now r) (above-none p x.prompt.0 test xs rising.0 le) in
            omega (arith, none)
        | false ↦ λ far. fewer
      ]
    ] in
    pass (test x) (is_prompt p x) refl

-- ---- a prompt that is asked in its next round

again-told : (p : PromptId) (r : ℕ) (sent : List Sent) (prompt : PromptId) (prompts : Prompts)
    → ((row : PromptRow) → row_at prompt prompts ≡ Some row → count-of (nat_eq (round_of row.stage + 1) r) ≤ asks_in prompt r sent) → IsTold p r sent (asked_again prompt prompts) prompts
again-told p r sent prompt prompts says =
    let n = next_round (row_at prompt prompts) in
    let its : (row : PromptRow) → (cond (is_prompt prompt row) (record row { stage = Asked n }) row).prompt ≡ row.prompt =
    λ row.
    let pass : (b : Bool) → (cond b (record row { stage = Asked n }) row).prompt ≡ row.prompt = elim [ true ↦ refl | false ↦ refl ] in
    pass (is_prompt prompt row) in
    let mapped : row_at p (asked_again prompt prompts) ≡ option_map (λ (row : PromptRow). cond (is_prompt prompt row) (record row { stage = Asked n }) row) (row_at p prompts) =
    find-mapped p (λ row. cond (is_prompt prompt row) (record row { stage = Asked n }) row) its prompts.rows in
    let told : (o : Option PromptRow) → row_at p prompts ≡ o
    → row-now r (option_map (λ (row : PromptRow). cond (is_prompt prompt row) (record row { stage = Asked n }) row) o) ≤ row-now r o + asks_in p r sent =
    elim [
      | None ↦ λ is. omega arith
      | Some row ↦ λ is.
          let pass : (b : Bool) → is_prompt prompt row ≡ b → row-now r (Some (cond b (record row { stage = Asked n }) row)) ≤ row-now r (Some row) + asks_in p r sent =
          elim [
            | true ↦ λ own.
                let number : row.prompt.0 ≡ prompt.0 = eqb-true row.prompt.0 prompt.0 own in
                let here : row.prompt ≡ prompt = λ i. record { 0 = number i } in
                let same : prompt ≡ p = sym here ∙ row-number p prompts row is in
                let found : row_at prompt prompts ≡ Some row = ap (λ q. row_at q prompts) same ∙ is in
                let put : count-of (nat_eq (round_of row.stage + 1) r) ≤ asks_in p r sent = subst (λ q. count-of (nat_eq (round_of row.stage + 1) r) ≤ asks_in q r sent) same (says row found) in
                let now : row-now r (Some (record row { stage = Asked n })) ≡ count-of (nat_eq (round_of row.stage + 1) r) = ap (λ m. count-of (nat_eq m r)) (ap next_round found) in
                omega (arith, put, now)
            | false ↦ λ other. omega arith
          ] in
          pass (is_prompt prompt row) refl
    ] in
    let all = told (row_at p prompts) refl in
    let same = ap (row-now r) mapped in
    omega (arith, all, same)

-- the signal counts in its round
signal-put : (prompt : PromptId) (r : ℕ) (collections : Rows) (kind : PromptKind) (row : PromptRow) (agent : ConnId) (n : ℕ) → row.prompt ≡ prompt
    → count-of (nat_eq n r) ≤ asks_in prompt r (ask_signal collections kind (record { agent = agent; prompt = row.prompt; round = n; wrong = row.wrong }) ∷ [])
signal-put prompt r collections kind row agent n number =
    let sent = ask_signal collections kind (record { agent = agent; prompt = row.prompt; round = n; wrong = row.wrong }) in
    let same : row.prompt.0 ≡ prompt.0 = ap (λ (q : PromptId). q.0) number in
    let own : nat_eq row.prompt.0 prompt.0 ≡ true = grind (arith, nat_tests) in
    let pass : (a b : Bool) → a ≡ true → count-of b ≤ length (cond (a && b) (sent ∷ []) []) =
    elim [
      | true ↦ elim [ true ↦ λ is. omega arith | false ↦ λ is. omega arith ]
      | false ↦ λ b off. absurd (let no : false ≡ true = off in cc)
    ] in
    pass (nat_eq row.prompt.0 prompt.0) (nat_eq n r) own

ask-put : (prompt : PromptId) (r : ℕ) (collections : Rows) (agent : ConnId) (prompts : Prompts) → prompts.agent ≡ Some agent → (row : PromptRow) → row_at prompt prompts ≡ Some row
    → count-of (nat_eq (round_of row.stage + 1) r) ≤ asks_in prompt r (ask_sent prompt (asked_again prompt prompts) collections)
ask-put prompt r collections agent prompts is row found =
    let n = next_round (row_at prompt prompts) in
    let after = asked_again prompt prompts in
    let told : PromptRow = record row { stage = Asked n } in
    let here : row_at prompt after ≡ Some told =
    row-changed prompt (λ row. record row { stage = Asked n }) prompts (λ row. refl) ∙ ap (option_map (λ (row : PromptRow). record row { stage = Asked n })) found in
    let number = row-number prompt prompts row found in
    let again : row_at row.prompt after ≡ Some told = ap (λ q. row_at q after) number ∙ here in
    let ask : Ask = record { agent = agent; prompt = row.prompt; round = n; wrong = row.wrong } in
    let its : ask_at prompt after ≡ Some ask = ap (λ a. ask_of a (row_at prompt after)) is ∙ ap (ask_of (Some agent)) here in
    let sent : ask_sent prompt after collections ≡ ask_signal collections row.kind ask ∷ [] =
    ap (λ o. cons_option (option_and_then (ask_signal_in collections after) o) []) its
    ∙ ap (λ o. cons_option (option_map (λ (row : PromptRow). ask_signal collections row.kind ask) o) []) again in
    let put = signal-put prompt r collections row.kind row agent n number in
    let same = ap (asks_in prompt r) sent in
    let round : count-of (nat_eq n r) ≡ count-of (nat_eq (round_of row.stage + 1) r) = ap (λ m. count-of (nat_eq m r)) (ap next_round found) in
    omega (arith, put, same, round)

-- a prompt that continues
gone-told : (p : PromptId) (r : ℕ) (prompt : PromptId) (asks : CollectionQuestions) (collections : Rows) (agent : ConnId) (prompts : Prompts) → prompts.agent ≡ Some agent
    → IsTold p r (go_on_sent asks collections prompts.agent (row_at prompt prompts)) (gone_on prompt asks prompts) prompts
gone-told p r prompt asks collections agent prompts is =
    let after = passed_over prompt asks prompts in
    let sent = go_on_sent asks collections prompts.agent (row_at prompt prompts) in
    let passed = keep-told p r [] prompt (passed_row asks) (λ row. refl) (λ row. refl) prompts in
    let same-row = row-changed prompt (passed_row asks) prompts (λ row. refl) in
    let says : (o : Option PromptRow) → row_at prompt prompts ≡ o → is_over_row asks (option_map (passed_row asks) o) ≡ false → (row : PromptRow) → option_map (passed_row asks) o ≡ Some row
    → count-of (nat_eq (round_of row.stage + 1) r) ≤ asks_in prompt r (go_on_sent asks collections prompts.agent o) =
    elim [
      | None ↦ λ at_none off row found. absurd (let no : None ≡ Some row = found in cc)
      | Some was ↦ λ at_was off row found.
          let kind = passed_kind asks was.kind in
          let same : passed_row asks was ≡ row = same_Some (passed_row asks was) row found in
          let its : go_on_sent asks collections prompts.agent (Some was) ≡ ask_signal collections kind (record { agent = agent; prompt = was.prompt; round = round_of was.stage + 1; wrong = was.wrong }) ∷ [] =
          ap (λ b. cond b (completes was kind) (asks_for collections was kind prompts.agent)) off ∙ ap (asks_for collections was kind) is in
          let put = signal-put prompt r collections kind was agent (round_of was.stage + 1) (row-number prompt prompts was at_was) in
          let told = ap (asks_in prompt r) its in
          let round : count-of (nat_eq (round_of was.stage + 1) r) ≡ count-of (nat_eq (round_of row.stage + 1) r) = ap (λ (x : PromptRow). count-of (nat_eq (round_of x.stage + 1) r)) same in
          omega (arith, put, told, round)
    ] in
    let pass : (b : Bool) → is_over_row asks (row_at prompt after) ≡ b → row-now r (row_at p (cond b (ended prompt after) (asked_again prompt after))) ≤ row-now r (row_at p prompts) + asks_in p r sent =
    elim [
      | true ↦ λ over. let fewer = ended-row p prompt r after.rows in omega (arith, passed, fewer)
      | false ↦ λ off.
          let told = again-told p r sent prompt after (λ row found. says (row_at prompt prompts) refl (sym (ap (is_over_row asks) same-row) ∙ off) row (sym same-row ∙ found)) in
          omega (arith, passed, told)
    ] in
    pass (is_over_row asks (row_at prompt after)) refl

-- ---- changes and plans

module _ (p : PromptId) (r : ℕ) (caller : ConnId) where
  -- a quiet change asks none
  quiet-told : (change : Change) (state : State) → IsQuiet change → IsTold p r [] (performed caller change state).prompts state.prompts
  quiet-told Open_session state quiet = omega arith
  quiet-told (Close_session session) state quiet = omega arith
  quiet-told (Lock_collection stem) state quiet = omega arith
  quiet-told (Begin_prompt kind) state quiet = let fewer = begun-row p r (record { prompt = record { 0 = state.prompts.next }; owner = caller; kind = kind; stage = Made; wrong = 0 }) state.prompts.rows refl in omega (arith, fewer)
  quiet-told (Derive_key prompt round) state quiet = deriving-told p r prompt round state.prompts
  quiet-told (Count_wrong prompt) state quiet = keep-told p r [] prompt (λ row. record row { wrong = one_more row.wrong }) (λ row. refl) (λ row. refl) state.prompts
  quiet-told (Clear_wrong prompt) state quiet = keep-told p r [] prompt (λ row. record row { wrong = 0 }) (λ row. refl) (λ row. refl) state.prompts
  quiet-told (Ask_prompt prompt) state quiet = absurd quiet
  quiet-told (Go_on prompt) state quiet = absurd quiet
  quiet-told (End_prompt prompt dismissed created) state quiet = absurd quiet
  quiet-told Become_agent state quiet = absurd quiet
  quiet-told Leave_agent state quiet = absurd quiet

  quiets-told : (changes : List Change) (state : State) → AreQuiet changes → IsTold p r [] (performed_all caller changes state).prompts state.prompts
  quiets-told [] state quiet = omega arith
  quiets-told (change ∷ changes) state quiet = omega (arith, quiet-told change state quiet.0, quiets-told changes (performed caller change state) quiet.1)

  -- any change, if there is an agent after it
  performed-told : (agent : ConnId) (change : Change) (state : State) → (performed caller change state).prompts.agent ≡ Some agent → IsTold p r (sent_by caller change state) (performed caller change state).prompts state.prompts
  performed-told agent Open_session state is = quiet-told Open_session state tt
  performed-told agent (Close_session session) state is = quiet-told (Close_session session) state tt
  performed-told agent (Lock_collection stem) state is = omega arith
  performed-told agent (Begin_prompt kind) state is = quiet-told (Begin_prompt kind) state tt
  performed-told agent (Derive_key prompt round) state is = quiet-told (Derive_key prompt round) state tt
  performed-told agent (Count_wrong prompt) state is = quiet-told (Count_wrong prompt) state tt
  performed-told agent (Clear_wrong prompt) state is = quiet-told (Clear_wrong prompt) state tt
  performed-told agent (Ask_prompt prompt) state is =
      again-told p r (ask_sent prompt (asked_again prompt state.prompts) state.collections) prompt state.prompts (ask-put prompt r state.collections agent state.prompts is)
  performed-told agent (Go_on prompt) state is =
      let over = passed_over prompt (asked_collections (contents_of state)) state.prompts in
      let pass : (b : Bool) → (cond b (ended prompt over) (asked_again prompt over)).agent ≡ Some agent → state.prompts.agent ≡ Some agent = elim [ true ↦ λ same. same | false ↦ λ same. same ] in
      gone-told p r prompt (asked_collections (contents_of state)) state.collections agent state.prompts (pass (is_over_row (asked_collections (contents_of state)) (row_at prompt over)) is)
  performed-told agent (End_prompt prompt dismissed created) state is = let fewer = ended-row p prompt r state.prompts.rows in omega (arith, fewer)
  performed-told agent Become_agent state is = omega arith
  performed-told agent Leave_agent state is = absurd (let no : None ≡ Some agent = is in cc)

  run-told : (agent : ConnId) (brought : Brought) (plan : Plan) (fates : List Fate) (state : State) → AllEnds (IsEnd true (AreInTurn IsAny)) plan → (run caller brought plan fates state).state.prompts.agent ≡ Some agent
      → IsTold p r (run caller brought plan fates state).sends (run caller brought plan fates state).state.prompts state.prompts
  run-told agent brought =
      let Tells : State → List Sent → State → Type 0 = λ old sent new. new.prompts.agent ≡ Some agent → IsTold p r sent new.prompts old.prompts in
      ends-run (IsEnd true (AreInTurn IsAny)) caller brought (λ before ran. Tells before ran.sends ran.state)
      (record {
        ends = λ answer changes state is. ⊎_elim
            (λ (quiet : AreQuiet changes) its. let told = quiets-told changes state quiet in omega (arith, told))
            (λ (turn : (answer ≡ Returns public.Empty) × AreInTurn IsAny changes).
            in-turn caller IsAny Tells (λ change state said sent new quiet are rest its. let first = quiet-told change state quiet in let told = rest its in let both = asks-append p r said sent in omega (arith, first, told, both))
            (λ change state any. performed-told agent change state) changes state turn.1)
            is.1;
        fails = λ name state its. omega arith;
        asks = λ demand ended state ran told its. let all = told its in let both = asks-append p r (sent_asked brought demand ended state) ran.sends in omega (arith, all, both);
        settles = λ reading ended state ran told its.
            let all = subst (λ (q : Prompts). IsTold p r ran.sends ran.state.prompts q) (prompts-settled reading ended state) (told its) in
            let both = asks-append p r (sent_settled reading ended state) ran.sends in
            omega (arith, all, both);
        opens = λ stem terms state ran told its. let all = told its in let both = asks-append p r (sent_opened brought stem terms state) ran.sends in omega (arith, all, both);
      })

-- ---- events

module _ (p : PromptId) (r : ℕ) (agent : ConnId) where
  event-told : (state : State) (event : Event) → IsSound state → (step state event).prompts.agent ≡ Some agent → IsTold p r (puts_out state event) (step state event).prompts state.prompts
  event-told state (event.Connect conn) sound is = omega arith
  event-told state (event.Arrive came) sound is =
      let caller = came.arrival.conn in
      let brought = brought_by came.arrival in
      let ran = served came state in
      let ends = call-in-turn came.arrival.salt came.arrival.request.call (asked caller brought state) in
      let told = run-told p r caller agent brought (plan_for came state) came.fates state ends is in
      let both = asks-append p r (replies caller came.arrival.request ran.answer) ran.sends in
      omega (arith, told, both)
  event-told state (event.Derived came) sound is =
      let brought = brought_derived came in
      let questions = asked came.conn brought state in
      run-told p r came.conn agent brought (derived came.prompt came.round (terms_of came) questions) came.fates state (key-in-turn came.prompt came.round (terms_of came) questions) is
  event-told state (event.Leave conn) sound is = omega arith
  event-told state (event.Take conn) sound is = omega arith
  event-told state (event.Gone conn) sound is =
      let others = without conn state.prompts in
      let fewer = filtered-row p r (λ (row : PromptRow). not (is_of conn row)) state.prompts.rows sound.prompts.kept.rising in
      let pass : (b : Bool) → (cond b (unregistered others) others).agent ≡ Some agent → row-now r (row_at p (cond b (unregistered others) others)) ≤ row-now r (row_at p state.prompts) + asks_in p r [] =
      elim [ true ↦ λ gone. absurd (let no : None ≡ Some agent = gone in cc) | false ↦ λ stays. omega (arith, fewer) ] in
      pass (is_agent conn state.prompts) is

pub asks_the_agent : (p : PromptId) (r : ℕ) (agent : ConnId) (state : State) (event : Event) → IsSound state → is_asked p r state.prompts ≡ false → is_asked p r (step state event).prompts ≡ true
    → (step state event).prompts.agent ≡ Some agent → 1 ≤ asks_in p r (puts_out state event)
asks_the_agent p r agent state event sound before after is =
    let told = event-told p r agent state event sound is in
    let none : row-now r (row_at p state.prompts) ≡ 0 = ap (λ b. count-of b) before in
    let some : row-now r (row_at p (step state event).prompts) ≡ 1 = ap (λ b. count-of b) after in
    omega (arith, told, none, some)
