-- What the first requests of a load put out for its connection can wait together: so few bytes are announced to everyone that they fit beside the rest.
use Rattle.std.proofs.Common.{◌≡◌, ℕ, zero, suc, ◌+◌, ◌≤◌, min, nat_lt, Bool, true, false, cond, List, [], ◌∷◌, ◌++◌, length, Option, Some, None, is_some, Result, Ok, codes, refl, sym, ap, ◌∙◌, subst, arith, length-append}
use Rattle.std.proofs.lemmas.Bool.{lt-ltb}
use Rattle.key_derivation.specs.Kdf.{key_of, vector_of}
use Rattle.connection_worker.specs.service_events.specs.collection_table.specs.Rows.{Rows}
use Rattle.connection_worker.specs.service_events.specs.service_tables.specs.keyring_seal.specs.Arranged.{Row}
use Rattle.connection_worker.specs.service_events.specs.secret_calls.specs.declared.call.Call.{Call}
use Rattle.connection_worker.specs.service_events.specs.secret_calls.specs.declared.call.Call.TheVariants as call
use Rattle.connection_worker.specs.service_events.specs.secret_calls.specs.declared.out.Body.{Body}
use Rattle.connection_worker.specs.service_events.specs.secret_calls.specs.declared.out.Body.TheVariants as body
use Rattle.connection_worker.specs.service_events.specs.secret_calls.specs.declared.out.ErrorName.{ErrorName}
use Rattle.connection_worker.specs.service_events.specs.secret_calls.specs.declared.out.Out.{Out}
use Rattle.connection_worker.specs.service_events.specs.secret_calls.specs.declared.work.Work.{Work}
use Rattle.connection_worker.specs.service_events.specs.alias_table.specs.Table.{AliasRows}
use Rattle.prompt_state.specs.Prompts.{no_prompts}
use Rattle.prompt_state.specs.declared.row.Stage.TheVariants as stage
use Rattle.connection_worker.specs.service_events.specs.service_tables.specs.Connections.{changed, emptied, size_waiting, waiting_for}
use Rattle.connection_worker.specs.service_events.specs.service_tables.specs.Opened.{Contents}
use Rattle.connection_worker.specs.service_events.specs.service_tables.specs.Sent.{One, Sent}
use Rattle.connection_worker.specs.service_events.specs.service_tables.specs.Sound.{AreSoundContents, IsSound}
use Rattle.connection_worker.specs.service_events.specs.service_tables.specs.State.{State}
use Rattle.connection_worker.specs.service_events.specs.service_tables.specs.signal_fanout.specs.declared.rows.ConnRow.{ConnRow}
use Rattle.connection_worker.specs.service_events.specs.service_tables.specs.signal_fanout.specs.Outboxes.{most_taken}
use Rattle.connection_worker.specs.service_events.specs.service_disk.specs.Making as making
use Rattle.connection_worker.specs.service_events.specs.declared.event.Event.{Event}
use Rattle.connection_worker.specs.service_events.specs.declared.event.Event.TheVariants as event
use Rattle.connection_worker.specs.service_events.specs.Fates.{AreFaultless}
use Rattle.connection_worker.specs.service_events.specs.Run.{Ran}
use Rattle.connection_worker.specs.service_events.specs.Step.{Fits, finished, message_of, puts_out, served, step, work_of}
use Rattle.connection_worker.specs.service_events.specs.Replay.{replay, Legal}
use Rattle.connection_worker.specs.service_events.specs.Single.{AllFaultless, AreFinished, IsKeyFaultless, TimedKey, TimedRequest, arrival, asking, derivation, finishing, is_owed, recorded_of, taking, turn, turns, work_for}
use Rattle.connection_worker.specs.service_events.proofs.ReplayLemmas.{replay-append}
use Rattle.connection_worker.specs.service_events.proofs.SoundLemmas.{sound_replay}
use Rattle.connection_worker.specs.service_desk.specs.Places.{Told}
use Rattle.connection_worker.specs.Fitting.{CanWaitTogether, FitTogether, KeyFits, announced_in, most_beside}
use Rattle.connection_worker.specs.Replies.{asked_outputs, key_outputs}
use Rattle.connection_worker.specs.Serving.{IsOwed}
use Rattle.connection_worker.proofs.AnswerLemmas.{arrived-rows, derived-rows, put_to}
use Rattle.connection_worker.proofs.DeliveryLemmas.{due_row}
use Rattle.load_plan.specs.Plan.{create, opening, plan, read, search, the_name, the_prompt}
use Rattle.load_laws.specs.Made.{made}
use Rattle.load_laws.specs.Outputs.{started}
use Rattle.load_laws.specs.Requests.{AreFirstAsked, IsAsked, the_connection}
use Rattle.load_laws.proofs.CountLemmas.{at-tables, fates-at, key-ready, led, made-by-key, new-front}
use Rattle.load_laws.proofs.CreateLemmas.{HasItems, collection_of, create-says, made-items, tables_with}
use Rattle.load_laws.proofs.CreateLemmas as creating
use Rattle.load_laws.proofs.OpeningLemmas.{Leads, answers, creates, key-says, new_collection, new_plan, opening_tables, opens, prompted, prompts, ran_from, registered, registers, the_work, works}
use Rattle.load_laws.proofs.ReadLemmas.{reads, secret}
use Rattle.load_laws.proofs.SearchLemmas.{matching, paths_of, searched}
use Rattle.load_laws.proofs.SizeLemmas.{item-said, made-said}
use Rattle.load_laws.proofs.TurnLemmas.{Tables, derivation_of, legal-behind, legal-front, quiet-turn, tables, with_tables, work-call}
use Rattle.load_laws.proofs.WholeLemmas.{plan-made, sound-started, tables-start}

-- ---- the only connection

-- The state is sound, and the connection of the load is the only one: nothing waits for it, and it has lost no output.
pub record Stands (state : State) : Type 0 where
  pub sound : IsSound state
  pub taken : ℕ
  pub only : state.connections.rows ≡ due_row the_connection [] false taken ∷ []

-- the same as a desk says it
abbrev told_of : State → Told
told_of state = record {
  conn = the_connection;
  home = None;
  state = state;
  count = 0;
  is_alone = true;
  is_steady = true;
  is_waiting = false;
}

-- what an event puts out for the only connection can wait together if few bytes are announced to everyone
abbrev pub ShortFit : Type 0
ShortFit = (told : Told) (event : Event) → IsOwed told [] → Fits told.state event → size_waiting (announced_in (puts_out told.state event)) ≤ most_beside → CanWaitTogether (put_to told.conn told.state event)

short-fits : ShortFit → (state : State) (it : Event) → Stands state → Fits state it → size_waiting (announced_in (puts_out state it)) ≤ 2000 → CanWaitTogether (put_to the_connection state it)
short-fits fit state it stands fits few = fit (told_of state) it (record { sound = stands.sound; taken = stands.taken; only = stands.only }) fits (omega (arith, few))

-- once what waits is taken, nothing waits
taking-rows : (state : State) (outs : List Out) (taken : ℕ) → state.connections.rows ≡ due_row the_connection outs false taken ∷ []
    → (next : ℕ) × ((replay state (taking the_connection state)).connections.rows ≡ due_row the_connection [] false next ∷ [])
taking-rows state [] taken only =
    let none : is_owed the_connection state ≡ false = ap (λ (rows : List ConnRow). nat_lt 0 (length (waiting_for the_connection rows))) only in
    (taken, ap (λ (b : Bool). (replay state (cond b (event.Take the_connection ∷ []) [])).connections.rows) none ∙ only)
taking-rows state (out ∷ outs) taken only =
    let some : is_owed the_connection state ≡ true =
    ap (λ (rows : List ConnRow). nat_lt 0 (length (waiting_for the_connection rows))) only ∙ lt-ltb 0 (length (out ∷ outs)) (omega arith) in (
      min (taken + length (out ∷ outs)) most_taken,
      ap (λ (b : Bool). (replay state (cond b (event.Take the_connection ∷ []) [])).connections.rows) some ∙ ap (changed the_connection emptied) only,
    )

-- so it is after an event and its take
after-event : (state : State) (it : Event) (outs : List Out) (taken : ℕ) → IsSound state → Legal state (it ∷ taking the_connection (step state it))
    → (step state it).connections.rows ≡ due_row the_connection outs false taken ∷ [] → Stands (replay state (it ∷ taking the_connection (step state it)))
after-event state it outs taken sound legal only =
    let takes = taking the_connection (step state it) in
    let rows = taking-rows (step state it) outs taken only in
    record { sound = sound_replay state (it ∷ takes) sound legal; taken = rows.0; only = rows.1 }

-- ---- one request

-- a reply is announced to nobody
reply-alone : (wanted : Bool) (out : Out) (sends : List Sent) → announced_in (cond wanted (record { to = One the_connection; out = out } ∷ []) [] ++ sends) ≡ announced_in sends
reply-alone true out sends = refl
reply-alone false out sends = refl

-- few bytes are announced by a key that a request gives, if it does
abbrev KeySmall : State → TimedRequest → Type 0
KeySmall state a =
    (work : Work) (key : TimedKey) → work_for the_connection state a ≡ Some work → a.key ≡ Some key
    → size_waiting (announced_in (finished (derivation_of the_connection work key) (replay state (asking the_connection state a))).sends) ≤ 2000

-- what the key of a request puts out can wait together, and then nothing waits
keyed : ShortFit → (state : State) (a : TimedRequest) → Stands (replay state (asking the_connection state a)) → Legal state (turn the_connection state a) → KeySmall state a
    → KeyFits the_connection state a × Stands (replay state (turn the_connection state a))
keyed fit state a stands legal small = pass (work_for the_connection state a) a.key (λ work key its found. small work key its found) (legal-behind state asks ends legal)
  where
    asks : List Event
    asks = asking the_connection state a

    here : State
    here = replay state asks

    ends : List Event
    ends = finishing the_connection here (work_for the_connection state a) a.key

    pass : (work : Option Work) (key : Option TimedKey)
        → ((w : Work) (k : TimedKey) → work ≡ Some w → key ≡ Some k → size_waiting (announced_in (finished (derivation_of the_connection w k) here).sends) ≤ 2000)
        → Legal here (finishing the_connection here work key)
        → CanWaitTogether (key_outputs the_connection here work key) × Stands (replay state (asks ++ finishing the_connection here work key))
    pass None key few its = (omega arith, subst Stands (sym (replay-append state asks [])) stands)
    pass (Some work) None few its = (omega arith, subst Stands (sym (replay-append state asks [])) stands)
    pass (Some work) (Some key) few its =
        let it = derivation the_connection work key in
        let fits : CanWaitTogether (put_to the_connection here it) = short-fits fit here it stands its.0 (few work key refl refl) in
        let rows = derived-rows the_connection here work key stands.taken stands.only fits in (
          fits,
          subst Stands (sym (replay-append state asks (it ∷ taking the_connection (step here it)))) (after-event here it (put_to the_connection here it) stands.taken stands.sound its rows),
        )

-- a request whose outputs can wait together, its key, and then others
step-fit : ShortFit → (a : TimedRequest) (more : List TimedRequest) (state : State) → Stands state → Legal state (turn the_connection state a)
    → size_waiting (announced_in (served (recorded_of the_connection a) state).sends) ≤ 2000 → KeySmall state a
    → (Stands (replay state (turn the_connection state a)) → FitTogether the_connection (replay state (turn the_connection state a)) more) → FitTogether the_connection state (a ∷ more)
step-fit fit a more state stands legal few small next =
    let asks = asking the_connection state a in
    let front : Legal state asks = legal-front state asks (finishing the_connection (replay state asks) (work_for the_connection state a) a.key) legal in
    let it = arrival the_connection a in
    let ran = served (recorded_of the_connection a) state in
    let said : announced_in (puts_out state it) ≡ announced_in ran.sends = reply-alone a.request.wants_reply (message_of a.request.serial ran.answer) ran.sends in
    let request = short-fits fit state it stands front.0 (subst (λ (l : List Out). size_waiting l ≤ 2000) (sym said) few) in
    let rows = arrived-rows the_connection state a stands.taken stands.only request in
    let here = after-event state it (asked_outputs the_connection state a) stands.taken stands.sound front rows in
    let key = keyed fit state a here legal small in
    (request, key.0, next key.1)

-- no key comes if a request gives no work
keyless : (state : State) (a : TimedRequest) → work_for the_connection state a ≡ None → KeySmall state a
keyless state a none work key its found = absurd (let no : Some work ≡ None = sym its ∙ none in cc)

-- a request that announces nothing and gives no work
quiet-fit : ShortFit → (call : Call) (a : TimedRequest) (more : List TimedRequest) (state : State) (these after : Tables) (it : Body) → Stands state → tables state ≡ these → a.request.call ≡ Ok call
    → ((reply : Result Body ErrorName) (s : State) → work_of (Ok call) reply s ≡ None) → Leads state.connections these call a.salt a.now a.fates it after → Legal state (turn the_connection state a)
    → (Stands (replay state (turn the_connection state a)) → tables (replay state (turn the_connection state a)) ≡ after → FitTogether the_connection (replay state (turn the_connection state a)) more)
    → FitTogether the_connection state (a ∷ more)
quiet-fit fit call a more state these after it stands are is idle leads legal next =
    let same = at-tables call a state these are is in
    let ran = served (recorded_of the_connection a) state in
    let none : work_for the_connection state a ≡ None = work-call call a state is ∙ idle ran.answer ran.state in
    let silent : announced_in ran.sends ≡ [] = ap (λ (r : Ran). announced_in r.sends) same ∙ leads.silent in
    step-fit fit a more state stands legal (subst (λ (l : List Out). size_waiting l ≤ 2000) (sym silent) (omega arith)) (keyless state a none)
    (λ then. next then (led call a state these after it are is idle leads).leaves)

-- ---- the first requests

-- the requests are the first of these calls, from this state on
pub record FirstRuns (serial : ℕ) (calls : List Call) (asked : List TimedRequest) (state : State) : Type 0 where
  pub are : AreFirstAsked serial calls asked
  pub legal : Legal state (turns the_connection state asked)
  pub faultless : AllFaultless asked
  pub finished : AreFinished the_connection state asked

-- the first of them
record Begun (serial : ℕ) (call : Call) (calls : List Call) (a : TimedRequest) (more : List TimedRequest) (state : State) : Type 0 where
  is : IsAsked call serial a
  legal : Legal state (turn the_connection state a)
  faultless : AreFaultless a.fates × IsKeyFaultless a.key
  rest : FirstRuns (suc serial) calls more (replay state (turn the_connection state a))

finished-rest : (a : TimedRequest) (more : List TimedRequest) (state : State) → AreFinished the_connection state (a ∷ more) → AreFinished the_connection (replay state (turn the_connection state a)) more
finished-rest a [] state is = tt
finished-rest a (next ∷ more) state is = is.1

begun : (serial : ℕ) (call : Call) (calls : List Call) (a : TimedRequest) (more : List TimedRequest) (state : State) → FirstRuns serial (call ∷ calls) (a ∷ more) state → Begun serial call calls a more state
begun serial call calls a more state runs =
    let now = turn the_connection state a in
    let next = replay state now in
    record {
      is = runs.are.0;
      legal = legal-front state now (turns the_connection next more) runs.legal;
      faultless = runs.faultless.0;
      rest = record {
        are = runs.are.1;
        legal = legal-behind state now (turns the_connection next more) runs.legal;
        faultless = runs.faultless.1;
        finished = finished-rest a more state runs.finished;
      };
    }

module _ (fit : ShortFit) (seed : ℕ) where
  -- ---- reads

  reads-fit : (item n serial : ℕ) (asked : List TimedRequest) (state : State) (rows : List Row) → FirstRuns serial (made read item n) asked state → HasItems seed rows (tables state)
      → item + n ≡ length rows → length rows ≤ 1000 → Stands state → FitTogether the_connection state asked
  reads-fit item n serial [] state rows runs has long few stands = tt
  reads-fit item zero serial (a ∷ more) state rows runs has long few stands = absurd runs.are
  reads-fit item (suc n) serial (a ∷ more) state rows runs has long few stands =
      let first = begun serial (read item) (made read (suc item) n) a more state runs in
      let these = tables_with has.prompts has.aliases has.used (collection_of has.image has.front has.key has.vector rows) in
      quiet-fit fit (read item) a more state these these (body.Secret (secret seed item)) stands has.are first.is.call_is (λ reply s. refl)
      (reads seed item a.now a.salt a.fates state.connections has.prompts has.aliases has.used has.image has.front has.key has.vector rows has.items (omega (arith, long))) first.legal
      (λ then leaves. reads-fit (suc item) n (suc serial) more (replay state (turn the_connection state a)) rows first.rest (subst (HasItems seed rows) (has.are ∙ sym leaves) has) (omega (arith, long)) few then)

  -- ---- searches

  searches-fit : (calls : List Call) (group n serial : ℕ) (asked : List TimedRequest) (state : State) (rows : List Row) → FirstRuns serial (made search group n ++ calls) asked state
      → HasItems seed rows (tables state) → length rows ≤ 1000 → group + n ≤ 10 → Stands state
      → ((serial : ℕ) (asked : List TimedRequest) (state : State) → FirstRuns serial calls asked state → HasItems seed rows (tables state) → Stands state → FitTogether the_connection state asked)
      → FitTogether the_connection state asked
  searches-fit calls group n serial [] state rows runs has few within stands next = tt
  searches-fit calls group zero serial (a ∷ more) state rows runs has few within stands next = next serial (a ∷ more) state runs has stands
  searches-fit calls group (suc n) serial (a ∷ more) state rows runs has few within stands next =
      let first = begun serial (search group) (made search (suc group) n ++ calls) a more state runs in
      let these = tables_with has.prompts has.aliases has.used (collection_of has.image has.front has.key has.vector rows) in
      quiet-fit fit (search group) a more state these these (body.Found (paths_of (matching group rows)) []) stands has.are first.is.call_is (λ reply s. refl)
      (searched seed group a.now a.salt a.fates state.connections has.prompts has.aliases has.used has.image has.front has.key has.vector rows has.items few (omega (arith, within))) first.legal
      (λ then leaves. searches-fit calls (suc group) n (suc serial) more (replay state (turn the_connection state a)) rows first.rest (subst (HasItems seed rows) (has.are ∙ sym leaves) has) few (omega (arith, within))
      then next)

  -- ---- items

  creates-fit : (calls : List Call) (item n serial : ℕ) (asked : List TimedRequest) (state : State) (rows : List Row) → FirstRuns serial (made (create seed) item n ++ calls) asked state
      → HasItems seed rows (tables state) → length rows ≡ item → item + n ≤ 1000 → Stands state
      → ((serial : ℕ) (asked : List TimedRequest) (state : State) (rows : List Row) → FirstRuns serial calls asked state → HasItems seed rows (tables state) → length rows ≡ item + n → Stands state
      → FitTogether the_connection state asked)
      → FitTogether the_connection state asked
  creates-fit calls item n serial [] state rows runs has long few stands next = tt
  creates-fit calls item zero serial (a ∷ more) state rows runs has long few stands next = next serial (a ∷ more) state rows runs has (long ∙ (let e : item ≡ item + 0 = omega arith in e)) stands
  creates-fit calls item (suc n) serial (a ∷ more) state rows runs has long few stands next =
      let turned = subst (λ k. FirstRuns serial (create seed k ∷ (made (create seed) (suc item) n ++ calls)) (a ∷ more) state) (sym long) runs in
      let here = create seed (length rows) in
      let first = begun serial here (made (create seed) (suc item) n ++ calls) a more state turned in
      let these = tables_with has.prompts has.aliases has.used (collection_of has.image has.front has.key has.vector rows) in
      let then = replay state (turn the_connection state a) in
      let small : length rows ≤ 999 = omega (arith, long, few) in
      let are = fates-at here a state these has.are first.is.call_is first.legal in
      let same = at-tables here a state these has.are first.is.call_is in
      let all-rows = creating.all seed a.now a.salt a.fates state.connections has.prompts has.aliases has.used has.image has.front has.key has.vector rows has.is_front has.items small in
      let said =
      ap (λ (r : Ran). announced_in r.sends) same
      ∙ create-says seed a.now a.salt a.fates state.connections has.prompts has.aliases has.used has.image has.front has.key has.vector rows has.is_front has.items small are first.faultless.0 in
      let leaves : tables then ≡ tables (ran_from state.connections these here a.salt a.now a.fates).state =
      quiet-turn the_connection state a (work-call here a state first.is.call_is) ∙ ap (λ (r : Ran). tables r.state) same in
      let stays : HasItems seed all-rows (tables then) =
      subst (HasItems seed all-rows) (sym leaves)
      (made-items seed a.now a.salt a.fates state.connections has.prompts has.aliases has.used has.image has.front has.key has.vector rows has.is_front has.items small are first.faultless.0) in
      let grown : length all-rows ≡ suc item = omega (arith, long, length-append rows (creating.new seed a.now a.salt a.fates state.connections has.prompts has.aliases has.used has.image has.front has.key has.vector rows has.is_front has.items small ∷ [])) in
      let sum : suc item + n ≡ item + suc n = omega arith in
      step-fit fit a more state stands first.legal (subst (λ (l : List Out). size_waiting l ≤ 2000) (sym said) (item-said (record { 0 = length rows + 1 }) (omega (arith, small))))
      (keyless state a (work-call here a state first.is.call_is))
      (λ its. creates-fit calls (suc item) n (suc serial) more then all-rows first.rest stays grown (omega (arith, few)) its
      (λ s asked' state' rows' runs' has' long' stands'. next s asked' state' rows' runs' has' (long' ∙ sum) stands'))

  -- ---- the opening

  module _ (calls : List Call) (aliases : Option AliasRows)
      (next : (asked : List TimedRequest) (state : State) → FirstRuns 6 calls asked state → HasItems seed [] (tables state) → Stands state → FitTogether the_connection state asked) where
    abbrev answer-call : Call
    answer-call = call.Answer (Some the_prompt) 1 the_name

    abbrev session-call : Call
    session-call = call.OpenSession (codes "plain")

    session-fit : (salt : List ℕ) (now : ℕ) → length salt ≡ 8 → (asked : List TimedRequest) (state : State) → FirstRuns 5 (session-call ∷ calls) asked state
        → tables state ≡ opening_tables aliases (the_name ∷ []) (registered 2) ((the_name, new_collection salt now) ∷ []) → Stands state → FitTogether the_connection state asked
    session-fit salt now eight [] state runs are stands = tt
    session-fit salt now eight (e ∷ more) state runs are stands =
        let first = begun 5 session-call calls e more state runs in
        let collection = new_collection salt now in
        let rows : Rows = (the_name, collection) ∷ [] in
        quiet-fit fit session-call e more state (opening_tables aliases (the_name ∷ []) (registered 2) rows) (tables_with (registered 2) aliases (the_name ∷ []) collection) (body.Session (record { 0 = 1 })) stands are
        first.is.call_is (λ reply s. refl) (opens state.connections aliases e.salt e.now e.fates (registered 2) rows (the_name ∷ [])) first.legal
        (λ then leaves. next more (replay state (turn the_connection state e)) first.rest
        (record {
          image = making.file_of (new_plan salt now);
          front = collection.clear;
          key = key_of (new_plan salt now).key;
          vector = vector_of (new_plan salt now).key;
          prompts = registered 2;
          aliases = aliases;
          used = the_name ∷ [];
          is_front = new-front salt now eight;
          items = tt;
          are = leaves;
        }) then)

    -- what follows the answer: nothing, unless its key was recorded
    behind-key : (d : TimedRequest) (more : List TimedRequest) (state : State) → AreFinished the_connection state (d ∷ more) → is_some (work_for the_connection state d) ≡ true
        → (is_some d.key ≡ true → FitTogether the_connection (replay state (turn the_connection state d)) more) → FitTogether the_connection (replay state (turn the_connection state d)) more
    behind-key d [] state finished works go = tt
    behind-key d (e ∷ more) state finished works go = go (finished.0 ∙ works)

    answer-fit : (salt : List ℕ) → length salt ≡ 8 → (asked : List TimedRequest) (state : State) → FirstRuns 4 (answer-call ∷ session-call ∷ calls) asked state
        → tables state ≡ opening_tables aliases [] (prompted salt (stage.Asked 1)) [] → Stands state → FitTogether the_connection state asked
    answer-fit salt eight [] state runs are stands = tt
    answer-fit salt eight (d ∷ more) state runs are stands =
        let first = begun 4 answer-call (session-call ∷ calls) d more state runs in
        let leads = answers state.connections aliases d.salt d.now d.fates salt in
        let same = at-tables answer-call d state (opening_tables aliases [] (prompted salt (stage.Asked 1)) []) are first.is.call_is in
        let ran = served (recorded_of the_connection d) state in
        let here = replay state (asking the_connection state d) in
        let answer : ran.answer ≡ Ok body.Empty = ap (λ (r : Ran). r.answer) same ∙ leads.answer in
        let leaves : tables ran.state ≡ opening_tables aliases [] (prompted salt (stage.Deriving 1)) [] = ap (λ (r : Ran). tables r.state) same ∙ leads.leaves in
        let silent : announced_in ran.sends ≡ [] = ap (λ (r : Ran). announced_in r.sends) same ∙ leads.silent in
        let work : work_for the_connection state d ≡ Some (the_work salt) =
        work-call answer-call d state first.is.call_is ∙ (λ i. work_of (Ok answer-call) (answer i) (with_tables ran.state.connections (leaves i))) ∙ works ran.state.connections aliases salt in
        let small : KeySmall state d =
        λ w key its found. (
        let ready = key-ready aliases salt d state key first.legal first.faultless.1 work found leaves in
        let one : w ≡ the_work salt = (let e : Some w ≡ Some (the_work salt) = sym its ∙ work in cc) in
        let came = derivation_of the_connection (the_work salt) key in
        let said =
        ap (λ (t : Tables). announced_in (finished came (with_tables here.connections t)).sends) ready.there
        ∙ key-says here.connections aliases salt key.now key.fates eight ready.fates ready.fine in
        subst (λ (v : Work). size_waiting (announced_in (finished (derivation_of the_connection v key) here).sends) ≤ 2000) (sym one)
        (subst (λ (l : List Out). size_waiting l ≤ 2000) (sym said) made-said)
        ) in
        step-fit fit d more state stands first.legal (subst (λ (l : List Out). size_waiting l ≤ 2000) (sym silent) (omega arith)) small
        (λ then. behind-key d more state runs.finished (ap is_some work)
        (λ some. (
        let made = made-by-key aliases salt d state eight first.legal first.faultless.1 work some leaves in
        session-fit salt made.0 eight more (replay state (turn the_connection state d)) first.rest made.1 then
        )))

    prompt-fit : (salt : List ℕ) → length salt ≡ 8 → (asked : List TimedRequest) (state : State) → FirstRuns 3 (call.Prompt the_prompt ∷ answer-call ∷ session-call ∷ calls) asked state
        → tables state ≡ opening_tables aliases [] (prompted salt stage.Made) [] → Stands state → FitTogether the_connection state asked
    prompt-fit salt eight [] state runs are stands = tt
    prompt-fit salt eight (c ∷ more) state runs are stands =
        let first = begun 3 (call.Prompt the_prompt) (answer-call ∷ session-call ∷ calls) c more state runs in
        quiet-fit fit (call.Prompt the_prompt) c more state (opening_tables aliases [] (prompted salt stage.Made) []) (opening_tables aliases [] (prompted salt (stage.Asked 1)) []) body.Empty stands are first.is.call_is
        (λ reply s. refl) (prompts state.connections aliases c.salt c.now c.fates salt) first.legal
        (λ then leaves. answer-fit salt eight more (replay state (turn the_connection state c)) first.rest leaves then)

    collection-fit : (asked : List TimedRequest) (state : State) → FirstRuns 2 (call.CreateCollection the_name None ∷ call.Prompt the_prompt ∷ answer-call ∷ session-call ∷ calls) asked state
        → tables state ≡ opening_tables aliases [] (registered 1) [] → Stands state → FitTogether the_connection state asked
    collection-fit [] state runs are stands = tt
    collection-fit (b ∷ more) state runs are stands =
        let first = begun 2 (call.CreateCollection the_name None) (call.Prompt the_prompt ∷ answer-call ∷ session-call ∷ calls) b more state runs in
        let fits : Fits state (arrival the_connection b) = first.legal.0 in
        quiet-fit fit (call.CreateCollection the_name None) b more state (opening_tables aliases [] (registered 1) []) (opening_tables aliases [] (prompted b.salt stage.Made) [])
        (body.ObjectAndPrompt (codes "/") (Some the_prompt)) stands are first.is.call_is (λ reply s. refl) (creates state.connections aliases b.salt b.now b.fates) first.legal
        (λ then leaves. prompt-fit b.salt fits.1.salt.eight more (replay state (turn the_connection state b)) first.rest leaves then)

    opening-fit : (asked : List TimedRequest) (state : State)
        → FirstRuns 1 (call.Register ∷ call.CreateCollection the_name None ∷ call.Prompt the_prompt ∷ answer-call ∷ session-call ∷ calls) asked state
        → tables state ≡ opening_tables aliases [] no_prompts [] → Stands state → FitTogether the_connection state asked
    opening-fit [] state runs are stands = tt
    opening-fit (a ∷ more) state runs are stands =
        let first = begun 1 call.Register (call.CreateCollection the_name None ∷ call.Prompt the_prompt ∷ answer-call ∷ session-call ∷ calls) a more state runs in
        quiet-fit fit call.Register a more state (opening_tables aliases [] no_prompts []) (opening_tables aliases [] (registered 1) []) body.Empty stands are first.is.call_is (λ reply s. refl)
        (registers state.connections aliases a.salt a.now a.fates) first.legal
        (λ then leaves. collection-fit more (replay state (turn the_connection state a)) first.rest leaves then)

-- ---- a load

pub load-fit : ShortFit → (items seed : ℕ) (contents : Contents) (asked : List TimedRequest) → items ≤ 1000 → AreSoundContents contents → contents.collections ≡ [] → contents.used ≡ []
    → AreFirstAsked 1 (plan items seed) asked → Legal (started contents) (turns the_connection (started contents) asked) → AllFaultless asked → AreFinished the_connection (started contents) asked
    → FitTogether the_connection (started contents) asked
load-fit fit items seed contents asked few sound empty unused are legal faultless finished =
    let state = started contents in
    let reading = made read 0 items in
    let searching = made search 0 10 ++ reading in
    let creating-calls = made (create seed) 0 items ++ searching in
    let runs : FirstRuns 1 (plan items seed) asked state = record { are = are; legal = legal; faultless = faultless; finished = finished } in
    let turned : FirstRuns 1 (opening ++ creating-calls) asked state = subst (λ calls. FirstRuns 1 calls asked state) (plan-made items seed) runs in
    let stands : Stands state = record { sound = sound-started contents sound; taken = 0; only = refl } in
    opening-fit fit seed creating-calls contents.aliases
    (λ asked' state' runs' has' stands'. creates-fit fit seed searching 0 items 6 asked' state' [] runs' has' refl (omega (arith, few)) stands'
    (λ serial1 asked1 state1 rows runs1 has1 long stands1. searches-fit fit seed reading 0 10 serial1 asked1 state1 rows runs1 has1 (omega (arith, long, few)) (omega arith) stands1
    (λ serial2 asked2 state2 runs2 has2 stands2. reads-fit fit seed 0 items serial2 asked2 state2 rows runs2 has2 (omega (arith, long)) (omega (arith, long, few)) stands2)))
    asked state turned (tables-start contents empty unused) stands
