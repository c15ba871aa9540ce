-- Alike requests lead to the same: what a call leads to depends on its moment and on its salt only if it takes them, and on what it
-- brings only by what it stores.
use Rattle.std.proofs.Common.{◌≡◌, ℕ, nat_eq, Bool, true, false, cond, if◌then◌else◌, List, [], ◌∷◌, ◌++◌, Option, Some, None, Result, Ok, refl, sym, ap, subst, ◌∙◌}
use Rattle.std.specs.List.{filter_map}
use Rattle.kr_base.specs.declared.ids.ConnId.{ConnId}
use Rattle.kr_base.specs.declared.ids.ItemId.{ItemId}
use Rattle.kr_base.specs.declared.ids.PromptId.{PromptId}
use Rattle.kr_base.specs.declared.ids.SessionId.{SessionId}
use Rattle.kr_names.specs.declared.object_name.ObjectName.{ObjectName}
use Rattle.kr_names.specs.declared.object_name.ObjectName.TheVariants as object
use Rattle.prompt_state.specs.Prompts.{last_round}
use Rattle.prompt_state.specs.declared.row.PromptKind.{PromptKind}
use Rattle.prompt_state.specs.declared.row.PromptKind.TheVariants as kind
use Rattle.prompt_state.specs.declared.row.PromptRow.{PromptRow}
use Rattle.prompt_state.specs.declared.table.PromptRefused.{PromptRefused}
use Rattle.prompt_state.specs.declared.targets.Target.{Target}
use Rattle.service_prompts.specs.Unlocking.{targets_of, unlocked_there}
use Rattle.service_prompts.specs.secret_calls.specs.declared.call.Call.{Call}
use Rattle.service_prompts.specs.secret_calls.specs.declared.call.Call.TheVariants as call
use Rattle.service_prompts.specs.secret_calls.specs.declared.call.CallFault.{CallFault}
use Rattle.service_prompts.specs.secret_calls.specs.declared.out.ErrorName.TheVariants as name
use Rattle.service_prompts.specs.service_tables.specs.declared.fate.Fate.{Fate}
use Rattle.service_prompts.specs.service_tables.specs.declared.fate.Fate.TheVariants as fate
use Rattle.service_prompts.specs.service_tables.specs.declared.fate.ReadFate.{ReadFate}
use Rattle.service_prompts.specs.service_tables.specs.declared.fate.ReadFate.TheVariants as read
use Rattle.service_prompts.specs.service_tables.specs.declared.fate.StoreFate.{StoreFate}
use Rattle.service_prompts.specs.service_tables.specs.declared.fate.StoreFate.TheVariants as stored
use Rattle.service_prompts.specs.service_tables.specs.Sent.{One}
use Rattle.service_prompts.specs.service_tables.specs.Objects.{alias_target, collection_named}
use Rattle.service_prompts.specs.service_tables.specs.Opened.{contents_of}
use Rattle.service_prompts.specs.service_tables.specs.Questions.{CollectionQuestions}
use Rattle.service_prompts.specs.service_tables.specs.TablesReading.{asked_collections}
use Rattle.service_prompts.specs.service_tables.specs.State.{State}
use Rattle.service_prompts.specs.service_tables.specs.Storing.{Brought}
use Rattle.service_events.specs.declared.event.Event.TheVariants as event
use Rattle.service_events.specs.declared.event.Recorded.{Recorded}
use Rattle.service_events.specs.AgentCalls.{refuse, unless_refused}
use Rattle.service_events.specs.AliasCalls.{alias_settled, alias_stored, on_target}
use Rattle.service_events.specs.AnswerCalls.{answer_prompt, deriving_key, going_on, kind_answered, left_answered, row_answered, target_answered}
use Rattle.service_events.specs.CollectionCalls.{by_fate, delete_collection, if_open, no_prompt, on_collection}
use Rattle.service_events.specs.Plan.{Demand, Store, Make, Rekey, End_prompt, Erase, Set_alias, Plan, Questions, Ends, Asks, Resolves, Opens, answered, refused}
use Rattle.service_events.specs.PublicBody as public
use Rattle.service_events.specs.PublicBody.{PublicBody}
use Rattle.service_events.specs.Run.{AreFates, AreNone, Ran, asked, by_read, by_reading, by_store, by_test, demanded, failing, fits, is_in_doubt, promised, run, sending, sent_asked, sent_settled, settled}
use Rattle.service_events.specs.PropertyCalls.{holder_of, on_holder, shown_by, value_of, value_returned}
use Rattle.service_events.specs.KeyringCalls.{the_prompt}
use Rattle.service_events.specs.ServiceCalls.{unlocking, with_new_prompt}
use Rattle.service_events.specs.Step.{AreAlike, TakesMoment, TakesSalt, message_of, plan_of, step, value_in, with_delivered}
use Rattle.service_events.specs.Stored.{StoresNothing}
use Rattle.service_events.proofs.RunLemmas.{ended-alike, fates-none, no-fates, none-is, quiet-row}

-- what a request brings is what its moment and its call say
abbrev pub brings : Result Call CallFault → ℕ → Brought
brings given now = record { now = now; value = value_in given }

-- the plan of a call
abbrev pub plan : ConnId → State → List ℕ → Result Call CallFault → ℕ → Plan
plan caller state salt given now = plan_of salt given (asked caller (brings given now) state)

-- what it leads to
abbrev leads : ConnId → List Fate → State → List ℕ → Result Call CallFault → ℕ → Ran
leads caller fates state salt given now = run caller (brings given now) (plan caller state salt given now) fates state

-- ---- plans to which it doesn't matter what is brought

-- what is asked of the disk stores nothing that is brought
abbrev IsFreeDemand : Demand → Type 0
IsFreeDemand (Store stem edit) = ⊥
IsFreeDemand (Erase stem) = Unit {0}
IsFreeDemand (Set_alias alias stem) = Unit {0}
IsFreeDemand (Make stem label terms) = ⊥
IsFreeDemand (Rekey stem terms) = ⊥

free-demanded : (one other : Brought) (demand : Demand) → IsFreeDemand demand → (ended : StoreFate) (state : State) → demanded one demand ended state ≡ demanded other demand ended state
free-demanded one other (Store stem edit) free ended state = absurd free
free-demanded one other (Erase stem) free ended state = refl
free-demanded one other (Set_alias alias stem) free ended state = refl
free-demanded one other (Make stem label terms) free ended state = absurd free
free-demanded one other (Rekey stem terms) free ended state = absurd free

free-sent : (one other : Brought) (demand : Demand) → IsFreeDemand demand → (ended : StoreFate) (state : State) → sent_asked one demand ended state ≡ sent_asked other demand ended state
free-sent one other (Store stem edit) free ended state = absurd free
free-sent one other (Erase stem) free ended state = refl
free-sent one other (Set_alias alias stem) free ended state = refl
free-sent one other (Make stem label terms) free ended state = absurd free
free-sent one other (Rekey stem terms) free ended state = absurd free

-- by the first of the fates
store-same : (none : Ran) (first second : StoreFate → List Fate → Ran) → ((ended : StoreFate) (rest : List Fate) → first ended rest ≡ second ended rest) → (fates : List Fate)
    → by_store none first fates ≡ by_store none second fates
store-same none first second same [] = refl
store-same none first second same (fate.Store ended ∷ rest) = same ended rest
store-same none first second same (fate.Read ended ∷ rest) = refl

read-same : (none : Ran) (first second : ReadFate → List Fate → Ran) → ((ended : ReadFate) (rest : List Fate) → first ended rest ≡ second ended rest) → (fates : List Fate)
    → by_read none first fates ≡ by_read none second fates
read-same none first second same [] = refl
read-same none first second same (fate.Store ended ∷ rest) = refl
read-same none first second same (fate.Read ended ∷ rest) = same ended rest

store-goes : (first second : StoreFate → List Fate → Type 0) → ((ended : StoreFate) (rest : List Fate) → first ended rest → second ended rest) → (fates : List Fate)
    → by_store ⊥ first fates → by_store ⊥ second fates
store-goes first second goes [] are = are
store-goes first second goes (fate.Store ended ∷ rest) are = goes ended rest are
store-goes first second goes (fate.Read ended ∷ rest) are = are

read-goes : (first second : ReadFate → List Fate → Type 0) → ((ended : ReadFate) (rest : List Fate) → first ended rest → second ended rest) → (fates : List Fate)
    → by_read ⊥ first fates → by_read ⊥ second fates
read-goes first second goes [] are = are
read-goes first second goes (fate.Store ended ∷ rest) are = are
read-goes first second goes (fate.Read ended ∷ rest) are = goes ended rest are

reading-same : (ended : ReadFate) (one other first second : Ran) → one ≡ first → other ≡ second → by_reading ended one other ≡ by_reading ended first second
reading-same ended one other first second left right = λ i. by_reading ended (left i) (right i)

reading-goes : (ended : ReadFate) (one other first second : Type 0) → (one → first) → (other → second) → by_reading ended one other → by_reading ended first second
reading-goes read.ReadFailed one other first second left right are = left are
reading-goes read.Old one other first second left right are = right are
reading-goes read.New one other first second left right are = right are
reading-goes read.Other one other first second left right are = right are

module _ (caller : ConnId) where
  -- what is done after a file was read again depends on the state alone
  abbrev IsFree : Plan → Type 0
  IsFree (Ends answer changes) = Unit {0}
  IsFree (Asks demand next) = IsFreeDemand demand × ((ended : StoreFate) → IsFree (next ended))
  IsFree (Resolves reading unread next) =
      IsFree unread × ((one other : Brought) (its : State) → next (asked caller one its) ≡ next (asked caller other its)) × ((one : Brought) (its : State) → IsFree (next (asked caller one its)))
  IsFree (Opens stem terms next) = ⊥

  -- such a plan leads to the same, whatever is brought
  free-run : (one other : Brought) (its : Plan) → IsFree its → (fates : List Fate) (state : State) → run caller one its fates state ≡ run caller other its fates state
  free-run one other (Ends answer changes) free fates state = refl
  free-run one other (Asks demand next) free fates state =
      let next_by : Brought → StoreFate → List Fate → Ran =
      λ brought ended rest. sending (sent_asked brought demand ended state) (run caller brought (next ended) rest (demanded brought demand ended state)) in
      let same : (ended : StoreFate) (rest : List Fate) → next_by one ended rest ≡ next_by other ended rest =
      λ ended rest. (
      let sent : sent_asked one demand ended state ≡ sent_asked other demand ended state = free-sent one other demand free.0 ended state in
      let ran : run caller one (next ended) rest (demanded one demand ended state) ≡ run caller other (next ended) rest (demanded other demand ended state) =
      free-run one other (next ended) (free.1 ended) rest (demanded one demand ended state) ∙ ap (run caller other (next ended) rest) (free-demanded one other demand free.0 ended state) in
      λ i. sending (sent i) (ran i)
      ) in
      ap (λ done. by_test (fits (promised caller state (next stored.Stored))) done (failing name.LimitsExceeded state))
      (store-same (failing name.IOError state) (next_by one) (next_by other) same fates)
  free-run one other (Resolves reading unread next) free fates state =
      let after : ReadFate → State = λ ended. settled reading ended state in
      let known : (its : State) (rest : List Fate) → run caller one (next (asked caller one its)) rest its ≡ run caller other (next (asked caller other its)) rest its =
      λ its rest. free-run one other (next (asked caller one its)) (free.2 one its) rest its ∙ ap (λ p. run caller other p rest its) (free.1 one other its) in
      let next_by : Brought → ReadFate → List Fate → Ran =
      λ brought ended rest. sending (sent_settled reading ended state) (by_reading ended (run caller brought unread rest (after ended)) (run caller brought (next (asked caller brought (after ended))) rest (after ended))) in
      let same : (ended : ReadFate) (rest : List Fate) → next_by one ended rest ≡ next_by other ended rest =
      λ ended rest. ap (sending (sent_settled reading ended state)) (reading-same ended _ _ _ _ (free-run one other unread free.0 rest (after ended)) (known (after ended) rest)) in
      λ i. by_test (is_in_doubt reading state) (read-same (failing name.IOError state) (next_by one) (next_by other) same fates i) (known state fates i)
  free-run one other (Opens stem terms next) free fates state = absurd free

  free-fates : (one other : Brought) (its : Plan) → IsFree its → (fates : List Fate) (state : State) → AreFates caller one its fates state → AreFates caller other its fates state
  free-fates one other (Ends answer changes) free fates state are = are
  free-fates one other (Asks demand next) free fates state are =
      let next_by : Brought → StoreFate → List Fate → Type 0 = λ brought ended rest. AreFates caller brought (next ended) rest (demanded brought demand ended state) in
      let goes : (ended : StoreFate) (rest : List Fate) → next_by one ended rest → next_by other ended rest =
      λ ended rest is. subst (λ (its : State). AreFates caller other (next ended) rest its) (free-demanded one other demand free.0 ended state)
      (free-fates one other (next ended) (free.1 ended) rest (demanded one demand ended state) is) in
      let pass : (b : Bool) → by_test b (by_store ⊥ (next_by one) fates) (AreNone fates) → by_test b (by_store ⊥ (next_by other) fates) (AreNone fates) =
      elim [ true ↦ λ is. store-goes (next_by one) (next_by other) goes fates is | false ↦ λ is. is ] in
      pass (fits (promised caller state (next stored.Stored))) are
  free-fates one other (Resolves reading unread next) free fates state are =
      let after : ReadFate → State = λ ended. settled reading ended state in
      let known : (its : State) (rest : List Fate) → AreFates caller one (next (asked caller one its)) rest its → AreFates caller other (next (asked caller other its)) rest its =
      λ its rest is. subst (λ p. AreFates caller other p rest its) (free.1 one other its) (free-fates one other (next (asked caller one its)) (free.2 one its) rest its is) in
      let next_by : Brought → ReadFate → List Fate → Type 0 =
      λ brought ended rest. by_reading ended (AreFates caller brought unread rest (after ended)) (AreFates caller brought (next (asked caller brought (after ended))) rest (after ended)) in
      let goes : (ended : ReadFate) (rest : List Fate) → next_by one ended rest → next_by other ended rest =
      λ ended rest is. reading-goes ended _ _ _ _ (free-fates one other unread free.0 rest (after ended)) (known (after ended) rest) is in
      let pass : (b : Bool) → by_test b (by_read ⊥ (next_by one) fates) (AreFates caller one (next (asked caller one state)) fates state)
      → by_test b (by_read ⊥ (next_by other) fates) (AreFates caller other (next (asked caller other state)) fates state) =
      elim [ true ↦ λ is. read-goes (next_by one) (next_by other) goes fates is | false ↦ λ is. known state fates is ] in
      pass (is_in_doubt reading state) are
  free-fates one other (Opens stem terms next) free fates state are = absurd free

  -- ---- the rows that are so

  fate-free : (body : PublicBody) (ended : StoreFate) → IsFree (by_fate body ended)
  fate-free body stored.Stored = tt
  fate-free body stored.Before = tt
  fate-free body stored.Unsure = tt

  if-free : (b : Bool) (one other : Plan) → IsFree one → IsFree other → IsFree (cond b one other)
  if-free true one other first second = first
  if-free false one other first second = second

  erase-free : (asks : Questions) (named : Option (List ℕ)) → IsFree (on_collection named (λ stem. if_open stem asks (Asks (Erase stem) (by_fate no_prompt))))
  erase-free asks None = tt
  erase-free asks (Some stem) = if-free (asks.collections.is_open stem) (Asks (Erase stem) (by_fate no_prompt)) (refused name.IsLocked) (tt, fate-free no_prompt) tt

  stored-free : (alias : List ℕ) (stem : Option (List ℕ)) (asks : Questions) → IsFree (alias_stored alias stem asks)
  stored-free alias stem asks = if-free (asks.aliases.can_set alias stem) (Asks (Set_alias alias stem) (by_fate public.Empty)) (refused name.LimitsExceeded) (tt, fate-free public.Empty) tt

  set-free : (alias : List ℕ) (target : Option (Option (List ℕ))) → IsFree (on_target target (alias_settled alias))
  set-free alias None = tt
  set-free alias (Some stem) = (tt, λ one other its. refl, λ one its. stored-free alias stem (asked caller one its))

  answered-free : (prompt : PromptId) (round : ℕ) (stem : List ℕ) (asks : Questions) → IsFree (target_answered prompt round stem asks)
  answered-free prompt round stem asks =
      if-free (asks.collections.has stem) (cond (asks.collections.is_open stem) (going_on prompt) (deriving_key prompt round)) (going_on prompt)
      (if-free (asks.collections.is_open stem) (going_on prompt) (deriving_key prompt round) tt tt) tt

  left-free : (prompt : PromptId) (round : ℕ) (left : List Target) → IsFree (left_answered prompt round left)
  left-free prompt round [] = tt
  left-free prompt round (target ∷ left) = (tt, λ one other its. refl, λ one its. answered-free prompt round target.stem (asked caller one its))

  kind-free : (prompt : PromptId) (round : ℕ) (of : PromptKind) (asks : CollectionQuestions) → IsFree (kind_answered prompt round of asks)
  kind-free prompt round (kind.Unlock targets) asks = left-free prompt round targets.left
  kind-free prompt round (kind.Create label alias salt) asks = tt
  kind-free prompt round (kind.Change stem salt) asks = if-free (asks.is_open stem) (deriving_key prompt round) (going_on prompt) tt tt

  row-free : (prompt : PromptId) (round : ℕ) (row : Option PromptRow) (asks : CollectionQuestions) → IsFree (row_answered prompt round row asks)
  row-free prompt round None asks = tt
  row-free prompt round (Some row) asks =
      if-free (nat_eq round last_round) (answered public.Empty (End_prompt prompt true None ∷ [])) (kind_answered prompt round row.kind asks) tt (kind-free prompt round row.kind asks)

  unless-free : (why : Option PromptRefused) (next : Plan) → IsFree next → IsFree (unless_refused why next)
  unless-free None next free = free
  unless-free (Some why) next free = tt

  answer-free : (prompt : Option PromptId) (round : ℕ) (asks : Questions) → IsFree (answer_prompt prompt round asks)
  answer-free None round asks = if-free asks.prompts.is_agent (refused name.NoSuchObject) (refused name.AccessDenied) tt tt
  answer-free (Some prompt) round asks = unless-free (asks.prompts.refusal prompt round) (row_answered prompt round (asks.prompts.row prompt) asks.collections) (row-free prompt round (asks.prompts.row prompt) asks.collections)

  answer-same : (prompt : Option PromptId) (round : ℕ) (one other : Brought) (state : State) → answer_prompt prompt round (asked caller one state) ≡ answer_prompt prompt round (asked caller other state)
  answer-same None round one other state = refl
  answer-same (Some prompt) round one other state = refl

module _ (caller : ConnId) (state : State) where
  secrets-same : (items : List ObjectName) (session : Option SessionId) (a b : ℕ) (s t : List ℕ) → plan caller state s (Ok (call.GetSecrets items session)) a ≡ plan caller state t (Ok (call.GetSecrets items session)) b
  secrets-same items None a b s t = refl
  secrets-same items (Some session) a b s t = refl

  secret-same : (stem : List ℕ) (item : ItemId) (session : Option SessionId) (a b : ℕ) (s t : List ℕ) → plan caller state s (Ok (call.GetSecret stem item session)) a ≡ plan caller state t (Ok (call.GetSecret stem item session)) b
  secret-same stem item None a b s t = refl
  secret-same stem item (Some session) a b s t = refl

  unlock-same : (paths : List (List ℕ)) (targets : List Target) (one other : Brought) → unlocking paths targets (asked caller one state) ≡ unlocking paths targets (asked caller other state)
  unlock-same paths [] one other = refl
  unlock-same paths (target ∷ targets) one other = refl

  change-same : (named : Option (List ℕ)) (salt : List ℕ) (one other : Brought)
      → on_collection named (λ stem. if_open stem (asked caller one state) (with_new_prompt true the_prompt (kind.Change stem salt) (asked caller one state)))
      ≡ on_collection named (λ stem. if_open stem (asked caller other state) (with_new_prompt true the_prompt (kind.Change stem salt) (asked caller other state)))
  change-same None salt one other = refl
  change-same (Some stem) salt one other = refl

  refuse-same : (prompt : Option PromptId) (round : ℕ) (one other : Brought) → refuse prompt round (asked caller one state) ≡ refuse prompt round (asked caller other state)
  refuse-same None round one other = refl
  refuse-same (Some prompt) round one other = refl

  -- which objects are there
  holder-same : (target : ObjectName) (one other : Brought) → holder_of target (asked caller one state) ≡ holder_of target (asked caller other state)
  holder-same object.Nothing one other = refl
  holder-same _ one other = refl

  -- a call that stores nothing
  quiet-alike : (given : Result Call CallFault) → StoresNothing given → (fates : List Fate) (a b : ℕ) (s t : List ℕ) → plan caller state s given a ≡ plan caller state t given b
      → leads caller fates state s given a ≡ leads caller fates state t given b
  quiet-alike given nothing fates a b s t same =
      ended-alike caller (brings given a) (brings given b) (plan caller state s given a) fates state (quiet-row s given (asked caller (brings given a) state) nothing)
      ∙ ap (λ p. run caller (brings given b) p fates state) same

  quiet-fates : (given : Result Call CallFault) → StoresNothing given → (fates : List Fate) (a b : ℕ) (s t : List ℕ) → AreFates caller (brings given a) (plan caller state s given a) fates state
      → AreFates caller (brings given b) (plan caller state t given b) fates state
  quiet-fates given nothing fates a b s t are =
      let none = none-is fates (fates-none caller (brings given a) (plan caller state s given a) fates state (quiet-row s given (asked caller (brings given a) state) nothing) are) in
      subst (λ f. AreFates caller (brings given b) (plan caller state t given b) f state) (sym none)
      (no-fates caller (brings given b) (plan caller state t given b) state (quiet-row t given (asked caller (brings given b) state) nothing))

  -- the same call leads to the same at two moments and with two salts, unless it takes the moment or the salt
  pub moment-alike : (given : Result Call CallFault) (fates : List Fate) (a b : ℕ) (s t : List ℕ) → (TakesMoment given → a ≡ b) → (TakesSalt given → s ≡ t)
      → leads caller fates state s given a ≡ leads caller fates state t given b
  moment-alike (Ok (call.SetAlias alias object)) fates a b s t same salts =
      let target = alias_target (asked_collections (contents_of state)) object in
      free-run caller (brings (Ok (call.SetAlias alias object)) a) (brings (Ok (call.SetAlias alias object)) b) (on_target target (alias_settled alias)) (set-free caller alias target) fates state
  moment-alike (Ok (call.GetSecrets items session)) fates a b s t same salts = quiet-alike (Ok (call.GetSecrets items session)) tt fates a b s t (secrets-same items session a b s t)
  moment-alike (Ok (call.GetSecret stem item session)) fates a b s t same salts = quiet-alike (Ok (call.GetSecret stem item session)) tt fates a b s t (secret-same stem item session a b s t)
  moment-alike (Ok (call.CreateItem collection label attributes secret replace)) fates a b s t same salts = ap (leads caller fates state s (Ok (call.CreateItem collection label attributes secret replace))) (same tt)
  moment-alike (Ok (call.DeleteCollection collection)) fates a b s t same salts =
      let one = brings (Ok (call.DeleteCollection collection)) a in
      free-run caller one (brings (Ok (call.DeleteCollection collection)) b) (delete_collection collection (asked caller one state))
      (erase-free caller (asked caller one state) (collection_named (asked_collections (contents_of state)) collection)) fates state
  moment-alike (Ok (call.DeleteItem stem item)) fates a b s t same salts = ap (leads caller fates state s (Ok (call.DeleteItem stem item))) (same tt)
  moment-alike (Ok (call.SetSecret stem item secret)) fates a b s t same salts = ap (leads caller fates state s (Ok (call.SetSecret stem item secret))) (same tt)
  moment-alike (Ok (call.Get target property)) fates a b s t same salts =
      let given : Result Call CallFault = Ok (call.Get target property) in
      quiet-alike given tt fates a b s t
      (ap (λ held. on_holder held (λ it. value_returned (value_of (asked_collections (contents_of state)) it property))) (holder-same target (brings given a) (brings given b)))
  moment-alike (Ok (call.GetAll target properties)) fates a b s t same salts =
      let given : Result Call CallFault = Ok (call.GetAll target properties) in
      quiet-alike given tt fates a b s t
      (ap (λ held. on_holder held (λ it. answered (public.Properties (filter_map (shown_by (asked_collections (contents_of state)) it) properties)) [])) (holder-same target (brings given a) (brings given b)))
  moment-alike (Ok (call.SetCollectionLabel collection label)) fates a b s t same salts = ap (leads caller fates state s (Ok (call.SetCollectionLabel collection label))) (same tt)
  moment-alike (Ok (call.SetItemLabel stem item label)) fates a b s t same salts = ap (leads caller fates state s (Ok (call.SetItemLabel stem item label))) (same tt)
  moment-alike (Ok (call.SetAttributes stem item attributes)) fates a b s t same salts = ap (leads caller fates state s (Ok (call.SetAttributes stem item attributes))) (same tt)
  moment-alike (Ok (call.CreateCollection label alias)) fates a b s t same salts =
      quiet-alike (Ok (call.CreateCollection label alias)) tt fates a b s t (ap (λ salt. plan caller state salt (Ok (call.CreateCollection label alias)) a) (salts tt))
  moment-alike (Ok (call.ChangePassword collection)) fates a b s t same salts =
      quiet-alike (Ok (call.ChangePassword collection)) tt fates a b s t
      (ap (λ salt. plan caller state salt (Ok (call.ChangePassword collection)) a) (salts tt) ∙ change-same (collection_named (asked_collections (contents_of state)) collection) t
      (brings (Ok (call.ChangePassword collection)) a) (brings (Ok (call.ChangePassword collection)) b))
  moment-alike (Ok (call.Unlock objects)) fates a b s t same salts =
      let asks = asked_collections (contents_of state) in
      quiet-alike (Ok (call.Unlock objects)) tt fates a b s t
      (unlock-same (unlocked_there asks objects) (targets_of asks objects) (brings (Ok (call.Unlock objects)) a) (brings (Ok (call.Unlock objects)) b))
  moment-alike (Ok (call.Refuse prompt round)) fates a b s t same salts =
      quiet-alike (Ok (call.Refuse prompt round)) tt fates a b s t (refuse-same prompt round (brings (Ok (call.Refuse prompt round)) a) (brings (Ok (call.Refuse prompt round)) b))
  moment-alike (Ok (call.Answer prompt round password)) fates a b s t same salts =
      let one = brings (Ok (call.Answer prompt round password)) a in
      let other = brings (Ok (call.Answer prompt round password)) b in
      free-run caller one other (answer_prompt prompt round (asked caller one state)) (answer-free caller prompt round (asked caller one state)) fates state
      ∙ ap (λ p. run caller other p fates state) (answer-same caller prompt round one other state)
  moment-alike given fates a b s t same salts = quiet-alike given tt fates a b s t refl

  -- the fates of a call fit at both moments and with both salts, unless it takes the moment
  pub moment-fates : (given : Result Call CallFault) (fates : List Fate) (a b : ℕ) (s t : List ℕ) → (TakesMoment given → a ≡ b) → AreFates caller (brings given a) (plan caller state s given a) fates state
      → AreFates caller (brings given b) (plan caller state t given b) fates state
  moment-fates (Ok (call.SetAlias alias object)) fates a b s t same are =
      let target = alias_target (asked_collections (contents_of state)) object in
      free-fates caller (brings (Ok (call.SetAlias alias object)) a) (brings (Ok (call.SetAlias alias object)) b) (on_target target (alias_settled alias)) (set-free caller alias target) fates state are
  moment-fates (Ok (call.CreateItem collection label attributes secret replace)) fates a b s t same are =
      let given : Result Call CallFault = Ok (call.CreateItem collection label attributes secret replace) in
      subst (λ now. AreFates caller (brings given now) (plan caller state s given now) fates state) (same tt) are
  moment-fates (Ok (call.DeleteCollection collection)) fates a b s t same are =
      let one = brings (Ok (call.DeleteCollection collection)) a in
      free-fates caller one (brings (Ok (call.DeleteCollection collection)) b) (delete_collection collection (asked caller one state))
      (erase-free caller (asked caller one state) (collection_named (asked_collections (contents_of state)) collection)) fates state are
  moment-fates (Ok (call.DeleteItem stem item)) fates a b s t same are =
      let given : Result Call CallFault = Ok (call.DeleteItem stem item) in
      subst (λ now. AreFates caller (brings given now) (plan caller state s given now) fates state) (same tt) are
  moment-fates (Ok (call.SetSecret stem item secret)) fates a b s t same are =
      let given : Result Call CallFault = Ok (call.SetSecret stem item secret) in
      subst (λ now. AreFates caller (brings given now) (plan caller state s given now) fates state) (same tt) are
  moment-fates (Ok (call.SetCollectionLabel collection label)) fates a b s t same are =
      let given : Result Call CallFault = Ok (call.SetCollectionLabel collection label) in
      subst (λ now. AreFates caller (brings given now) (plan caller state s given now) fates state) (same tt) are
  moment-fates (Ok (call.SetItemLabel stem item label)) fates a b s t same are =
      let given : Result Call CallFault = Ok (call.SetItemLabel stem item label) in
      subst (λ now. AreFates caller (brings given now) (plan caller state s given now) fates state) (same tt) are
  moment-fates (Ok (call.SetAttributes stem item attributes)) fates a b s t same are =
      let given : Result Call CallFault = Ok (call.SetAttributes stem item attributes) in
      subst (λ now. AreFates caller (brings given now) (plan caller state s given now) fates state) (same tt) are
  moment-fates (Ok (call.Answer prompt round password)) fates a b s t same are =
      let one = brings (Ok (call.Answer prompt round password)) a in
      let other = brings (Ok (call.Answer prompt round password)) b in
      subst (λ p. AreFates caller other p fates state) (answer-same caller prompt round one other state)
      (free-fates caller one other (answer_prompt prompt round (asked caller one state)) (answer-free caller prompt round (asked caller one state)) fates state are)
  moment-fates given fates a b s t same are = quiet-fates given tt fates a b s t are

-- requests that are alike, each storing of which ended the same way, lead to one state
pub step_alike : (state : State) (one other : Recorded) → AreAlike one.arrival other.arrival → one.fates ≡ other.fates → step state (event.Arrive one) ≡ step state (event.Arrive other)
step_alike state one other alike fates =
    let conn = one.arrival.conn in
    let given = one.arrival.request.call in
    let becomes : Ran → State =
    λ after. with_delivered ((if one.arrival.request.wants_reply then record { to = One conn; out = message_of one.arrival.request.serial after.answer } ∷ [] else []) ++ after.sends) after.state in
    ap becomes (moment-alike conn state given one.fates one.arrival.now other.arrival.now one.arrival.salt other.arrival.salt alike.moment alike.salt)
    ∙ (λ i.
    let after = leads (alike.conn i) (fates i) state other.arrival.salt (alike.call i) other.arrival.now in
    with_delivered ((if alike.wants_reply i then record { to = One (alike.conn i); out = message_of (alike.serial i) after.answer } ∷ [] else []) ++ after.sends) after.state)
