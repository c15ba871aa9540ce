-- The first five calls of a load: the collection is made and is unlocked, and the session is opened.
use Rattle.std.proofs.Common.{◌≡◌, ℕ, ◌&&◌, Bool, true, cond, List, [], ◌∷◌, length, map, Option, Some, None, Ok, codes, refl, sym, ap, ◌∙◌, subst, arith}
use Rattle.key_derivation.specs.Kdf.{key_of, vector_of}
use Rattle.kr_base.specs.Attributes.{is_name}
use Rattle.connection_worker.specs.service_events.specs.secret_calls.specs.declared.call.Call.{Call}
use Rattle.connection_worker.specs.service_events.specs.secret_calls.specs.declared.call.Call.TheVariants as call
use Rattle.connection_worker.specs.service_events.specs.secret_calls.specs.declared.out.Body.{Body}
use Rattle.connection_worker.specs.service_events.specs.secret_calls.specs.declared.out.Body.TheVariants as body
use Rattle.connection_worker.specs.service_events.specs.secret_calls.specs.declared.out.ErrorName.TheVariants as name
use Rattle.connection_worker.specs.service_events.specs.secret_calls.specs.declared.out.Out.TheVariants as out
use Rattle.connection_worker.specs.service_events.specs.secret_calls.specs.declared.signal.Signal.{Signal}
use Rattle.connection_worker.specs.service_events.specs.secret_calls.specs.declared.work.Work.{Work}
use Rattle.connection_worker.specs.service_events.specs.secret_calls.proofs.SizeLemmas.{prompt-short}
use Rattle.connection_worker.specs.service_events.specs.alias_table.specs.Table.{AliasRows}
use Rattle.connection_worker.specs.service_events.specs.collection_table.specs.Rows.{Rows, CollectionRow, stored}
use Rattle.prompt_state.specs.Prompts.{no_prompts}
use Rattle.prompt_state.specs.declared.row.Prompts.{Prompts}
use Rattle.prompt_state.specs.declared.row.PromptKind.TheVariants as kind
use Rattle.prompt_state.specs.declared.row.Stage.{Stage}
use Rattle.prompt_state.specs.declared.row.Stage.TheVariants as stage
use Rattle.session_table.specs.Sessions.{no_sessions}
use Rattle.session_table.specs.declared.row.Sessions.{Sessions}
use Rattle.connection_worker.specs.service_events.specs.service_tables.specs.State.{State}
use Rattle.connection_worker.specs.service_events.specs.service_tables.specs.Storing.{Brought}
use Rattle.connection_worker.specs.service_events.specs.service_tables.specs.declared.rows.ConnRows.{ConnRows}
use Rattle.connection_worker.specs.service_events.specs.service_tables.specs.declared.fate.Fate.{Fate}
use Rattle.connection_worker.specs.service_events.specs.service_tables.specs.declared.fate.Fate.TheVariants as fate
use Rattle.connection_worker.specs.service_events.specs.service_tables.specs.declared.fate.StoreFate.{StoreFate}
use Rattle.connection_worker.specs.service_events.specs.service_tables.specs.declared.fate.StoreFate.TheVariants as ended
use Rattle.connection_worker.specs.service_events.specs.service_disk.specs.Making as making
use Rattle.connection_worker.specs.service_events.specs.service_disk.proofs.MakingLemmas.{room-tested}
use Rattle.connection_worker.specs.service_events.specs.service_disk.proofs.TakingLemmas.{itself}
use Rattle.stem_choice.specs.Choice.{chosen}
use Rattle.connection_worker.specs.service_events.specs.declared.event.Derivation.{Derivation}
use Rattle.connection_worker.specs.service_events.specs.Derivation.{can_make, derived, dismissing, making_ended, new_iterations}
use Rattle.connection_worker.specs.service_events.specs.PublicBody as public
use Rattle.connection_worker.specs.service_events.specs.Fates.{AreFaultless}
use Rattle.connection_worker.specs.service_events.specs.Plan.{Answer, Returns, Change, Become_agent, Begin_prompt, Derive_key, Go_on, Open_session, Plan, Ends, Asks, Make}
use Rattle.connection_worker.specs.service_events.specs.Run.{AreFates, AreNone, Ran, asked, by_store, by_test, demanded, failing, filled, fits, performed_all, run, sent_all}
use Rattle.connection_worker.specs.service_events.specs.Step.{brought_with, brought_derived, finished, row_of, terms_of, work_of}
use Rattle.connection_worker.specs.service_events.specs.service_prompts.specs.Announcing.{made_signals}
use Rattle.connection_worker.specs.Fitting.{announced_in}
use Rattle.load_plan.specs.Plan.{the_name, the_prompt}
use Rattle.load_laws.specs.Requests.{the_connection}
use Rattle.load_laws.proofs.TurnLemmas.{Tables, tables, with_tables}
use Rattle.load_laws.proofs.SizeLemmas.{empty-fits, object-fits, session-fits}

-- ---- prompts

-- the prompt of the collection at a stage, with this agent
abbrev pub prompted : List ℕ → Stage → Prompts
prompted salt at = record {
  rows = record { prompt = record { 0 = 1 }; owner = the_connection; kind = kind.Create the_name [] salt; stage = at; wrong = 0 } ∷ [];
  agent = Some the_connection;
  next = 2;
}

-- no prompt, but an agent
abbrev pub registered : ℕ → Prompts
registered next = record { rows = []; agent = Some the_connection; next = next }

-- the only session
abbrev pub the_sessions : Sessions
the_sessions = record { rows = record { owner = the_connection; session = record { 0 = 1 } } ∷ []; next = 2 }

-- before the session is opened
abbrev pub opening_tables : Option AliasRows → List (List ℕ) → Prompts → Rows → Tables
opening_tables aliases used prompts rows = record { sessions = no_sessions; prompts = prompts; collections = rows; aliases = aliases; used = used }

-- what a call leads to from these tables, whatever the connections are
abbrev pub ran_from : ConnRows → Tables → Call → List ℕ → ℕ → List Fate → Ran
ran_from connections before call salt now fates =
    let state = with_tables connections before in
    run the_connection (brought_with now (Ok call)) (row_of salt call (asked the_connection (brought_with now (Ok call)) state)) fates state

-- a call that is answered so, leaves these tables, and announces nothing
pub record Leads (connections : ConnRows) (before : Tables) (call : Call) (salt : List ℕ) (now : ℕ) (fates : List Fate) (it : Body) (after : Tables) : Type 0 where
  pub answer : (ran_from connections before call salt now fates).answer ≡ Ok it
  pub leaves : tables (ran_from connections before call salt now fates).state ≡ after
  pub silent : announced_in (ran_from connections before call salt now fates).sends ≡ []

-- a plan that ends at once, if its answer fits
pub run-ends : (brought : Brought) (fates : List Fate) (state : State) (answer : Answer) (changes : List Change) → fits (filled the_connection state answer) ≡ true
    → run the_connection brought (Ends answer changes) fates state ≡ record { answer = filled the_connection state answer; state = performed_all the_connection changes state; sends = sent_all the_connection changes state }
run-ends brought fates state answer changes is =
    ap (λ (b : Bool). by_test b (record { answer = filled the_connection state answer; state = performed_all the_connection changes state; sends = sent_all the_connection changes state }) (failing name.LimitsExceeded state)) is

module _ (connections : ConnRows) (aliases : Option AliasRows) (salt : List ℕ) (now : ℕ) (fates : List Fate) where
  -- from these tables
  abbrev from : Prompts → State
  from prompts = with_tables connections (opening_tables aliases [] prompts [])

  pub registers : Leads connections (opening_tables aliases [] no_prompts []) call.Register salt now fates body.Empty (opening_tables aliases [] (registered 1) [])
  registers =
      let ends = run-ends (brought_with now (Ok call.Register)) fates (from no_prompts) (Returns public.Empty) (Become_agent ∷ []) empty-fits in
      record { answer = ap (λ (r : Ran). r.answer) ends; leaves = ap (λ (r : Ran). tables r.state) ends; silent = ap (λ (r : Ran). announced_in r.sends) ends }

  pub creates : Leads connections (opening_tables aliases [] (registered 1) []) (call.CreateCollection the_name None) salt now fates (body.ObjectAndPrompt (codes "/") (Some the_prompt))
      (opening_tables aliases [] (prompted salt stage.Made) [])
  creates =
      let small = object-fits (codes "/") (Some the_prompt) (omega arith) (omega (arith, prompt-short the_prompt (omega arith))) in
      let ends =
      run-ends (brought_with now (Ok (call.CreateCollection the_name None))) fates (from (registered 1)) (Returns (public.ObjectAndPrompt (codes "/") (Some the_prompt))) (Begin_prompt (kind.Create the_name [] salt) ∷ []) small in
      record { answer = ap (λ (r : Ran). r.answer) ends; leaves = ap (λ (r : Ran). tables r.state) ends; silent = ap (λ (r : Ran). announced_in r.sends) ends }

  pub prompts : (kept : List ℕ) → Leads connections (opening_tables aliases [] (prompted kept stage.Made) []) (call.Prompt the_prompt) salt now fates body.Empty
      (opening_tables aliases [] (prompted kept (stage.Asked 1)) [])
  prompts kept =
      let ends = run-ends (brought_with now (Ok (call.Prompt the_prompt))) fates (from (prompted kept stage.Made)) (Returns public.Empty) (Go_on the_prompt ∷ []) empty-fits in
      record { answer = ap (λ (r : Ran). r.answer) ends; leaves = ap (λ (r : Ran). tables r.state) ends; silent = ap (λ (r : Ran). announced_in r.sends) ends }

  pub answers : (kept : List ℕ) → Leads connections (opening_tables aliases [] (prompted kept (stage.Asked 1)) []) (call.Answer (Some the_prompt) 1 the_name) salt now fates body.Empty
      (opening_tables aliases [] (prompted kept (stage.Deriving 1)) [])
  answers kept =
      let ends =
      run-ends (brought_with now (Ok (call.Answer (Some the_prompt) 1 the_name))) fates (from (prompted kept (stage.Asked 1))) (Returns public.Empty) (Derive_key the_prompt 1 ∷ []) empty-fits in
      record { answer = ap (λ (r : Ran). r.answer) ends; leaves = ap (λ (r : Ran). tables r.state) ends; silent = ap (λ (r : Ran). announced_in r.sends) ends }

  pub opens : (prompts : Prompts) (rows : Rows) (used : List (List ℕ)) → Leads connections (opening_tables aliases used prompts rows) (call.OpenSession (codes "plain")) salt now fates (body.Session (record { 0 = 1 }))
      (record { sessions = the_sessions; prompts = prompts; collections = rows; aliases = aliases; used = used })
  opens prompts rows used =
      let ends =
      run-ends (brought_with now (Ok (call.OpenSession (codes "plain")))) fates (with_tables connections (opening_tables aliases used prompts rows)) (Returns (public.Session (record { 0 = 1 }))) (Open_session ∷ []) session-fits in
      record { answer = ap (λ (r : Ran). r.answer) ends; leaves = ap (λ (r : Ran). tables r.state) ends; silent = ap (λ (r : Ran). announced_in r.sends) ends }

-- ---- the key

-- the work that the answer gives
abbrev pub the_work : List ℕ → Work
the_work salt = record { prompt = the_prompt; round = 1; salt = salt; iterations = new_iterations; password = the_name }

pub works : (connections : ConnRows) (aliases : Option AliasRows) (salt : List ℕ)
    → work_of (Ok (call.Answer (Some the_prompt) 1 the_name)) (Ok body.Empty) (with_tables connections (opening_tables aliases [] (prompted salt (stage.Deriving 1)) [])) ≡ Some (the_work salt)
works connections aliases salt = refl

-- there is one fate, of a storing that didn't fail, if so much is asked for
pub one-stored : (brought : Brought) (next : StoreFate → Plan) (after : StoreFate → State) (fates : List Fate)
    → by_store ⊥ (λ (how : StoreFate) (rest : List Fate). AreFates the_connection brought (next how) rest (after how)) fates → AreFaultless fates
    → ((rest : List Fate) → AreFates the_connection brought (next ended.Stored) rest (after ended.Stored) → AreNone rest) → fates ≡ fate.Store ended.Stored ∷ []
one-stored brought next after [] are faultless last = absurd are
one-stored brought next after (fate.Read how ∷ rest) are faultless last = absurd are
one-stored brought next after (fate.Store ended.Before ∷ rest) are faultless last = absurd (faultless.0 tt)
one-stored brought next after (fate.Store ended.Unsure ∷ rest) are faultless last = absurd (faultless.0 tt)
one-stored brought next after (fate.Store ended.Stored ∷ []) are faultless last = refl
one-stored brought next after (fate.Store ended.Stored ∷ other ∷ rest) are faultless last = absurd (last (other ∷ rest) are)

-- the collection as it is made
abbrev pub new_plan : List ℕ → ℕ → making.Plan
new_plan salt now = record { label = the_name; key = record { password = the_name; salt = salt; iterations = new_iterations }; now = now }

abbrev pub new_collection : List ℕ → ℕ → CollectionRow
new_collection salt now = stored (making.content_of (new_plan salt now)) (key_of (new_plan salt now).key) (vector_of (new_plan salt now).key)

first-stem : chosen the_name [] ≡ the_name
unfolding chosen
first-stem = refl

module _ (connections : ConnRows) (aliases : Option AliasRows) (salt : List ℕ) (now : ℕ) (fates : List Fate) (eight : length salt ≡ 8) where
  -- the derived key as it is recorded
  abbrev the_key : Derivation
  the_key = record { conn = the_connection; prompt = the_prompt; round = 1; password = the_name; salt = salt; iterations = new_iterations; now = now; fates = fates }

  abbrev here : State
  here = with_tables connections (opening_tables aliases [] (prompted salt (stage.Deriving 1)) [])

  abbrev brought : Brought
  brought = brought_derived the_key

  -- there is room for its file
  roomy : making.has_room (new_plan salt now) [] ≡ true
  roomy = sym (room-tested (new_plan salt now) [] eight)

  -- the plan of the key
  abbrev making_plan : Plan
  making_plan = derived the_prompt 1 (terms_of the_key) (asked the_connection brought here)

  same-salt : is_name salt salt ≡ true
  same-salt = itself salt

  can : can_make the_name salt (terms_of the_key) (asked the_connection brought here) ≡ true
  can = λ i. (same-salt i && true) && (true && roomy i)

  -- what it asks of the disk
  abbrev the_plan : Plan
  the_plan = Asks (Make the_name the_name (terms_of the_key)) (making_ended the_prompt [] the_name)

  plan-is : making_plan ≡ the_plan
  plan-is =
      ap (λ (b : Bool). cond b (Asks (Make (chosen the_name []) the_name (terms_of the_key)) (making_ended the_prompt [] (chosen the_name []))) (dismissing the_prompt)) can
      ∙ ap (λ (stem : List ℕ). Asks (Make stem the_name (terms_of the_key)) (making_ended the_prompt [] stem)) first-stem

  module _ (are : AreFates the_connection brought making_plan fates here) (faultless : AreFaultless fates) where
    fates-are : fates ≡ fate.Store ended.Stored ∷ []
    fates-are =
        one-stored brought (making_ended the_prompt [] the_name) (λ (how : StoreFate). demanded brought (Make the_name the_name (terms_of the_key)) how here) fates
        (subst (λ (plan : Plan). AreFates the_connection brought plan fates here) plan-is are) faultless (λ rest none. none)

    -- the collection is made, and the prompt is over
    pub key-leaves : tables (finished the_key here).state ≡ opening_tables aliases (the_name ∷ []) (registered 2) ((the_name, new_collection salt now) ∷ [])
    key-leaves =
        ap (λ (plan : Plan). tables (run the_connection brought plan fates here).state) plan-is
        ∙ ap (λ (them : List Fate). tables (run the_connection brought the_plan them here).state) fates-are

    -- that is announced, and nothing else is
    pub key-says : announced_in (finished the_key here).sends ≡ map (λ (it : Signal). out.Signal it) (made_signals the_name)
    key-says =
        ap (λ (plan : Plan). announced_in (run the_connection brought plan fates here).sends) plan-is
        ∙ ap (λ (them : List Fate). announced_in (run the_connection brought the_plan them here).sends) fates-are
