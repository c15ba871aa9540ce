-- All that one event puts out for the only connection can wait together if what it sends to every connection is short: what a request sends to one
-- connection alone is its reply, or an empty reply and short signals; and what a key sends to one alone is one signal.
use Rattle.std.proofs.Common.{◌≡◌, ℕ, ◌+◌, ◌^◌, ◌<◌, ◌≤◌, ◌⊎◌, inl, inr, ⊎_elim, Bool, true, false, cond, ◌||◌, ◌==◌, nat_eq, nat_le, IsTrue, IfSome, List, [], ◌∷◌, ◌++◌, filter, length, Option, Some, None, Result, Ok, Err, refl, sym, ◌∙◌, ap, subst, arith, rules, append-nil}
use Rattle.std.specs.List.{AllByRecursion, cons_option}
use Rattle.std.specs.Option.{option_and_then, option_map}
use Rattle.std.proofs.lemmas.Bool.{eqb-true}
use Rattle.std.proofs.lemmas.List.Sums.{sum_by-cons, sum_by_push}
use Rattle.kr_base.specs.Stem.{IsStem}
use Rattle.kr_base.specs.declared.ids.ConnId.{ConnId}
use Rattle.kr_base.specs.declared.ids.PromptId.{PromptId}
use Rattle.dbus_marshal.specs.Wire.{number_bytes}
use Rattle.service_desk.specs.collection_table.specs.Rows.{Rows}
use Rattle.prompt_state.specs.Prompts.{ask_in, ask_of, asked_again, changed, ended_row, is_deriving_in, is_of, is_prompt, registered, round_of, row_at}
use Rattle.prompt_state.specs.declared.row.PromptKind.{PromptKind}
use Rattle.prompt_state.specs.declared.row.PromptKind.TheVariants as kind
use Rattle.prompt_state.specs.declared.row.PromptRow.{PromptRow}
use Rattle.prompt_state.specs.declared.row.Prompts.{Prompts}
use Rattle.prompt_state.specs.declared.row.Stage.{Stage}
use Rattle.prompt_state.specs.declared.row.Stage.TheVariants.{Made, Asked, Deriving}
use Rattle.prompt_state.specs.declared.targets.Target.{Target}
use Rattle.service_desk.specs.secret_calls.specs.declared.call.Request.{Request}
use Rattle.service_desk.specs.secret_calls.specs.declared.out.Body.{Body}
use Rattle.service_desk.specs.secret_calls.specs.declared.out.Body.TheVariants as body
use Rattle.service_desk.specs.secret_calls.specs.declared.out.ErrorName.{ErrorName}
use Rattle.service_desk.specs.secret_calls.specs.declared.out.ErrorName.TheVariants as name
use Rattle.service_desk.specs.secret_calls.specs.declared.out.Out.{Out}
use Rattle.service_desk.specs.secret_calls.specs.declared.out.Out.TheVariants as out
use Rattle.service_desk.specs.secret_calls.specs.declared.serial.Serial.{Serial}
use Rattle.service_desk.specs.secret_calls.specs.declared.signal.Signal.{Signal}
use Rattle.service_desk.specs.secret_calls.specs.Outs.{spelled}
use Rattle.service_desk.specs.secret_calls.proofs.SizeLemmas.{return-short}
use Rattle.service_desk.specs.service_disk.specs.declared.opening.Opening.{Opening}
use Rattle.service_desk.specs.service_disk.specs.declared.opening.Opening.TheVariants as ends
use Rattle.service_desk.specs.service_tables.specs.Connections.{has, size_of, size_waiting, sent_to}
use Rattle.service_desk.specs.service_tables.specs.Limits.{most_weight}
use Rattle.service_desk.specs.service_tables.specs.Opened.{contents_of}
use Rattle.service_desk.specs.service_tables.specs.Questions.{CollectionQuestions}
use Rattle.service_desk.specs.service_tables.specs.TablesReading.{asked_collections}
use Rattle.service_desk.specs.service_tables.specs.Sent.{Everyone, One, Recipient, Sent, is_for}
use Rattle.service_desk.specs.service_tables.specs.Sound.{IsSound, IsSoundKind, IsSoundPrompt}
use Rattle.service_desk.specs.service_tables.specs.State.{State}
use Rattle.service_desk.specs.service_tables.specs.Storing.{Brought}
use Rattle.service_desk.specs.service_tables.specs.Targets.{weight, weight_of}
use Rattle.service_desk.specs.service_tables.specs.declared.fate.Fate.{Fate}
use Rattle.service_desk.specs.service_tables.specs.declared.fate.StoreFate.{StoreFate}
use Rattle.service_desk.specs.service_tables.specs.declared.fate.StoreFate.TheVariants as stored
use Rattle.service_desk.specs.service_tables.specs.signal_fanout.specs.declared.rows.ConnRow.{ConnRow}
use Rattle.service_desk.specs.service_tables.proofs.EachLemmas.{each-mapped, each-weaker}
use Rattle.service_desk.specs.service_prompts.specs.Announcing.{announced}
use Rattle.service_desk.specs.service_prompts.specs.Prompting.{ask_sent, ask_signal_in, asks_sent, completed_sent, completed_signal}
use Rattle.service_desk.specs.service_prompts.proofs.SignalLemmas.{found-row}
use Rattle.service_desk.specs.service_events.specs.AliasCalls.{alias_settled, alias_stored}
use Rattle.service_desk.specs.service_events.specs.Announced.{demand_signals, reading_signals, unlock_signals}
use Rattle.service_desk.specs.service_events.specs.CollectionCalls.{by_fate}
use Rattle.service_desk.specs.service_events.specs.Derivation.{alias_given, are_terms, can_make, changing_ended, derived, dismissing, kind_derived, left_derived, making_ended, most_wrong_answers, opening_ended, quietly, row_derived}
use Rattle.service_desk.specs.service_events.specs.declared.event.Derivation.{Derivation}
use Rattle.service_desk.specs.service_events.specs.declared.event.Event.{Event}
use Rattle.service_desk.specs.service_events.specs.declared.event.Event.TheVariants as event
use Rattle.service_desk.specs.service_events.specs.declared.event.Recorded.{Recorded}
use Rattle.service_desk.specs.service_events.specs.Plan.{Answer, Returns, Change, Open_session, Close_session, Lock_collection, Begin_prompt, Ask_prompt, Derive_key, Count_wrong, Clear_wrong, Go_on, End_prompt, Become_agent, Leave_agent, KeyTerms, Plan, Ends, Asks, Resolves, Opens, Questions, Set_alias, followed, refused}
use Rattle.service_desk.specs.service_events.specs.PromptCalls.{advance_sent, asks_for, completes, go_on_sent, is_given_up, is_over, passed, passed_kind}
use Rattle.service_desk.specs.service_events.specs.PublicBody as public
use Rattle.service_desk.specs.service_events.specs.Run.{Ran, asked, filled, key_with, performed, run, sending, sent_all, sent_asked, sent_by, sent_opened, sent_settled}
use Rattle.service_desk.specs.service_events.specs.Step.{Fits, brought_by, brought_derived, finished, message_of, put_out, puts_out, replies, served, terms_of}
use Rattle.service_desk.specs.service_events.proofs.AnnouncedLemmas.{AreAnnounced}
use Rattle.service_desk.specs.service_events.proofs.EndLemmas.{AllEnds, AreQuiet, IsEnd, IsLone, IsOfCall, any-call-ends, ends-run, prompts-settled, quiet-all}
use Rattle.service_desk.specs.service_events.proofs.RunLemmas.{plan_for}
use Rattle.service_desk.specs.service_events.proofs.SmallLemmas.{IsSmall, answer-small}
use Rattle.stem_choice.proofs.ChoiceLemmas.{IsStem-chosen}
use Rattle.service_desk.specs.Places.{Told}
use Rattle.connection_worker.specs.Fitting.{CanWaitTogether, announced_in, if_announced, most_beside}
use Rattle.connection_worker.specs.Serving.{IsOwed}
use Rattle.connection_worker.proofs.DeliveryLemmas.{due_row}
use Rattle.connection_worker.proofs.KeyLemmas.{key_plan}
use Rattle.connection_worker.proofs.SizeLemmas.{asks-size, done_weight, one-ask, one-completed, option-ask, size_alone, size_to}

-- nothing is sent to one connection alone beside the reply; or the reply is empty, and what is sent so is short
abbrev pub IsModest : Ran → Type 0
IsModest ran = (size_alone ran.sends ≡ 0) ⊎ ((ran.answer ≡ Ok body.Empty) × (size_alone ran.sends ≤ 8388836))

-- the number of a prompt has its type, and what it is for is sound
record IsLight (row : PromptRow) : Type 0 where
  number : row.prompt.0 < 2 ^ 64
  kind : IsSoundKind row.kind

abbrev AreLight : Prompts → Type 0
AreLight prompts = AllByRecursion IsLight prompts.rows

-- ---- what goes to everyone

size-append : (one more : List Sent) → size_alone (one ++ more) ≡ size_alone one + size_alone more
size-append [] more = omega arith
size-append (sent ∷ one) more = omega (arith, size-append one more)

announced-alone : (signals : List Signal) → size_alone (announced signals) ≡ 0
announced-alone [] = refl
announced-alone (it ∷ more) = omega (arith, announced-alone more)

are-alone : (sent : List Sent) → AreAnnounced sent → size_alone sent ≡ 0
are-alone [] are = refl
are-alone (one ∷ more) are =
    let none : size_to one.to one.out ≡ 0 = ap (λ r. size_to r one.out) are.0.to in
    omega (arith, none, are-alone more are.1)

-- before other outputs it adds nothing to what goes to one connection alone
alone-behind : (sent more : List Sent) → size_alone sent ≡ 0 → size_alone (sent ++ more) ≡ size_alone more
alone-behind sent more none = omega (arith, none, size-append sent more)

modest-behind : (sent : List Sent) (ran : Ran) → size_alone sent ≡ 0 → IsModest ran → IsModest (sending sent ran)
modest-behind sent ran none (inl quiet) = inl (alone-behind sent ran.sends none ∙ quiet)
modest-behind sent ran none (inr (empty, few)) = inr (empty, omega (arith, few, alone-behind sent ran.sends none))

-- ---- the targets of a prompt

-- no more weighs once targets are passed over
passed-light : (asked : CollectionQuestions) (left done : List Target) → weight (passed asked done left).done ≤ weight done + weight left
passed-light asked [] done = omega arith
passed-light asked (target ∷ left) done =
    let cons = sum_by-cons weight_of target left in
    let pass : (there unlocked : Bool)
    → weight (cond there (cond unlocked (passed asked (done ++ target ∷ []) left) (record { done = done; left = target ∷ left })) (passed asked done left)).done ≤ weight done + weight (target ∷ left) =
    elim [
      | true ↦ elim [
        | true ↦ omega (arith, cons, sum_by_push weight_of done target, passed-light asked left (done ++ target ∷ []))
        | false ↦ omega arith
      ]
      | false ↦ λ unlocked. omega (arith, cons, passed-light asked left done)
    ] in
    pass (asked.has target.stem) (asked.is_open target.stem)

done-light : (asked : CollectionQuestions) (k : PromptKind) → IsSoundKind k → done_weight (passed_kind asked k) ≤ most_weight
done-light asked (kind.Unlock targets) is = omega (arith, passed-light asked targets.left targets.done, is.light)
done-light asked (kind.Create label alias salt) is = omega arith
done-light asked (kind.Change stem salt) is = omega arith

kind-light : (k : PromptKind) → IsSoundKind k → done_weight k ≤ most_weight
kind-light (kind.Unlock targets) is = omega (arith, is.light)
kind-light (kind.Create label alias salt) is = omega arith
kind-light (kind.Change stem salt) is = omega arith

-- ---- the change that a call ends with

-- a prompt that ends
end-size : (prompt : PromptId) (dismissed : Bool) (created : Option (List ℕ)) (prompts : Prompts) → AreLight prompts → IfSome created IsStem
    → size_alone (completed_sent prompt dismissed created prompts) ≤ 8388836
end-size prompt dismissed created prompts light stem =
    let pass : (o : Option PromptRow) → row_at prompt prompts ≡ o → size_alone (cons_option (option_map (λ (row : PromptRow). completed_signal dismissed created (ended_row row)) o) []) ≤ 8388836 =
    elim [
      | None ↦ λ found. omega arith
      | Some row ↦ λ found.
          let is = found-row IsLight prompt prompts row light found in
          one-completed dismissed created (ended_row row) is.number (kind-light row.kind is.kind) stem
    ] in
    pass (row_at prompt prompts) refl

-- a prompt that advances
over-size : (asked : CollectionQuestions) (collections : Rows) (row : PromptRow) (k : PromptKind) (agent : Option ConnId) → row.prompt.0 < 2 ^ 64 → done_weight k ≤ most_weight
    → size_alone (advance_sent asked collections row k agent) ≤ 8388836
over-size asked collections row k agent number light =
    let asks : (o : Option ConnId) → size_alone (asks_for collections row k o) ≤ 8388836 =
    elim [
      | None ↦ omega arith
      | Some agent ↦ omega (arith, one-ask collections k (record { agent = agent; prompt = row.prompt; round = round_of row.stage + 1; wrong = row.wrong }) number)
    ] in
    let pass : (b : Bool) → size_alone (cond b (completes row k) (asks_for collections row k agent)) ≤ 8388836 =
    elim [ true ↦ one-completed (is_given_up k) None (record { prompt = row.prompt; owner = row.owner; kind = k }) number light tt | false ↦ asks agent ] in
    pass (is_over asked k)

go_on-size : (asks : CollectionQuestions) (collections : Rows) (prompt : PromptId) (prompts : Prompts) → AreLight prompts
    → size_alone (go_on_sent asks collections prompts.agent (row_at prompt prompts)) ≤ 8388836
go_on-size asks collections prompt prompts light =
    let pass : (o : Option PromptRow) → row_at prompt prompts ≡ o → size_alone (go_on_sent asks collections prompts.agent o) ≤ 8388836 =
    elim [
      | None ↦ λ found. omega arith
      | Some row ↦ λ found.
          let is = found-row IsLight prompt prompts row light found in
          over-size asks collections row (passed_kind asks row.kind) prompts.agent is.number (done-light asks row.kind is.kind)
    ] in
    pass (row_at prompt prompts) refl

-- every prompt is asked again
agent-size : (caller : ConnId) (collections : Rows) (prompts : Prompts) → AreLight prompts → length prompts.rows ≤ 64 → size_alone (asks_sent (registered caller prompts) collections) ≤ 8388836
agent-size caller collections prompts light few =
    let numbered = each-weaker IsLight (λ (row : PromptRow). row.prompt.0 < 2 ^ 64) (λ row is. is.number) prompts.rows light in
    let size = asks-size (registered caller prompts) collections numbered in
    omega (arith, size, few)

-- a prompt that is asked again
again-size : (collections : Rows) (prompt : PromptId) (prompts : Prompts) → AreLight prompts → size_alone (ask_sent prompt prompts collections) ≤ 8388836
again-size collections prompt prompts light =
    let each : (agent : ConnId) (row : PromptRow) → row.prompt.0 < 2 ^ 64 → (stage : Stage) → size_alone (cons_option (option_and_then (ask_signal_in collections prompts) (ask_in stage agent row)) []) ≤ 8388836 =
    λ agent row number. elim [
      | Made ↦ omega arith
      | Asked round ↦ omega (arith, option-ask collections prompts (record { agent = agent; prompt = row.prompt; round = round; wrong = row.wrong }) number)
      | Deriving round ↦ omega arith
    ] in
    let pass : (agent : Option ConnId) (o : Option PromptRow) → row_at prompt prompts ≡ o → size_alone (cons_option (option_and_then (ask_signal_in collections prompts) (ask_of agent o)) []) ≤ 8388836 =
    elim [
      | None ↦ elim [ None ↦ λ found. omega arith | Some row ↦ λ found. omega arith ]
      | Some agent ↦ elim [ None ↦ λ found. omega arith | Some row ↦ λ found. each agent row (found-row IsLight prompt prompts row light found).number row.stage ]
    ] in
    pass prompts.agent (row_at prompt prompts) refl

module _ (caller : ConnId) where
  change-size : (change : Change) (state : State) → IsOfCall change → AreLight state.prompts → length state.prompts.rows ≤ 64 → size_alone (sent_by caller change state) ≤ 8388836
  change-size (Go_on prompt) state is light few = go_on-size (asked_collections (contents_of state)) state.collections prompt state.prompts light
  change-size (End_prompt prompt dismissed created) state is light few =
      subst (λ (c : Option (List ℕ)). size_alone (completed_sent prompt dismissed c state.prompts) ≤ 8388836) (sym is) (end-size prompt dismissed None state.prompts light tt)
  change-size Become_agent state is light few = agent-size caller state.collections state.prompts light few
  change-size Leave_agent state is light few = omega arith
  change-size Open_session state is light few = absurd is
  change-size (Close_session session) state is light few = absurd is
  change-size (Lock_collection stem) state is light few = absurd is
  change-size (Begin_prompt kind) state is light few = absurd is
  change-size (Ask_prompt prompt) state is light few = absurd is
  change-size (Derive_key prompt round) state is light few = absurd is
  change-size (Count_wrong prompt) state is light few = absurd is
  change-size (Clear_wrong prompt) state is light few = absurd is

  lone-size : (changes : List Change) (state : State) → IsLone IsOfCall changes → AreLight state.prompts → length state.prompts.rows ≤ 64 → size_alone (sent_all caller changes state) ≤ 8388836
  lone-size [] state is light few = absurd is
  lone-size (change ∷ []) state is light few = subst (λ (s : List Sent). size_alone s ≤ 8388836) (sym (append-nil (sent_by caller change state))) (change-size change state is light few)
  lone-size (change ∷ next ∷ more) state is light few = absurd is

  -- ---- plans

  -- so it is whatever a plan does before such an end, which is none of the prompts
  modest : (brought : Brought) (plan : Plan) (fates : List Fate) (state : State) → AllEnds (IsEnd true (IsLone IsOfCall)) plan → AreLight state.prompts → length state.prompts.rows ≤ 64
      → IsModest (run caller brought plan fates state)
  modest brought =
      ends-run (IsEnd true (IsLone IsOfCall)) caller brought (λ before ran. AreLight before.prompts → length before.prompts.rows ≤ 64 → IsModest ran)
      (record {
        ends = λ answer changes state is light few. ⊎_elim
            (λ (quiet : AreQuiet changes). inl (are-alone (sent_all caller changes state) (quiet-all caller changes state quiet)))
            (λ (lone : (answer ≡ Returns public.Empty) × IsLone IsOfCall changes). inr (ap (filled caller state) lone.0, lone-size changes state lone.1 light few))
            is.1;
        fails = λ name state light few. inl refl;
        asks = λ demand ended state ran is light few. modest-behind (sent_asked brought demand ended state) ran (announced-alone (demand_signals brought demand ended state.collections)) (is light few);
        settles = λ reading ended state ran is light few.
            modest-behind (sent_settled reading ended state) ran (announced-alone (reading_signals reading ended state.collections))
            (subst (λ (q : Prompts). AreLight q → length q.rows ≤ 64 → IsModest ran) (prompts-settled reading ended state) is light few);
        opens = λ stem terms state ran is light few. modest-behind (sent_opened brought stem terms state) ran (announced-alone (unlock_signals (key_with brought terms) stem state.collections)) (is light few);
      })

-- ---- the row of a derived key

-- the change with which it ends, and one that may come before
abbrev IsLast : Change → Type 0
IsLast (Ask_prompt prompt) = Unit {0}
IsLast (Go_on prompt) = Unit {0}
IsLast (End_prompt prompt dismissed created) = IfSome created IsStem
IsLast _ = ⊥

abbrev IsCount : Change → Type 0
IsCount (Count_wrong prompt) = Unit {0}
IsCount (Clear_wrong prompt) = Unit {0}
IsCount _ = ⊥

-- its changes: none, the last one, or a count of wrong answers before it
abbrev IsKeyEnd : Answer → List Change → Type 0
IsKeyEnd answer [] = Unit {0}
IsKeyEnd answer (change ∷ []) = IsLast change
IsKeyEnd answer (first ∷ change ∷ []) = IsCount first × IsLast change
IsKeyEnd answer (first ∷ change ∷ other ∷ more) = ⊥

abbrev OfKey : Plan → Type 0
OfKey plan = AllEnds IsKeyEnd plan

-- an end without changes
abbrev IsNone : Answer → List Change → Type 0
IsNone answer changes = changes ≡ []

key-if : (b : Bool) (one other : Plan) → OfKey one → OfKey other → OfKey (cond b one other)
key-if true one other first second = first
key-if false one other first second = second

none-stored : (alias : List ℕ) (stem : Option (List ℕ)) (questions : Questions) → AllEnds IsNone (alias_stored alias stem questions)
none-stored alias stem questions =
    let fates : (ended : StoreFate) → AllEnds IsNone (by_fate public.Empty ended) = elim [ stored.Stored ↦ refl | stored.Before ↦ refl | stored.Unsure ↦ refl ] in
    let pass : (b : Bool) → AllEnds IsNone (cond b (Asks (Set_alias alias stem) (by_fate public.Empty)) (refused name.LimitsExceeded)) = elim [ true ↦ fates | false ↦ refl ] in
    pass (questions.aliases.can_set alias stem)

followed-key : (change : Change) → IsLast change → (plan : Plan) → AllEnds IsNone plan → OfKey (followed (change ∷ []) plan)
followed-key change is (Ends answer changes) none = subst (λ (before : List Change). IsKeyEnd (Returns public.Empty) (before ++ change ∷ [])) (sym none) is
followed-key change is (Asks demand next) none = λ ended. followed-key change is (next ended) (none ended)
followed-key change is (Resolves reading unread next) none = (followed-key change is unread none.0, λ questions. followed-key change is (next questions) (none.1 questions))
followed-key change is (Opens stem terms next) none = followed-key change is next none

opening-key : (prompt : PromptId) (wrong : ℕ) (stem : List ℕ) (terms : KeyTerms) (opening : Opening) → OfKey (opening_ended prompt wrong stem terms opening)
opening-key prompt wrong stem terms ends.Settled = tt
opening-key prompt wrong stem terms ends.Unfit = tt
opening-key prompt wrong stem terms ends.WrongPassword = key-if (nat_le most_wrong_answers (wrong + 1)) (dismissing prompt) _ tt (tt, tt)
opening-key prompt wrong stem terms ends.Damaged = tt
opening-key prompt wrong stem terms ends.Opened = (tt, tt)

given-key : (prompt : PromptId) (alias stem : List ℕ) → IsStem stem → OfKey (alias_given prompt alias stem)
given-key prompt [] stem is = is
given-key prompt (byte ∷ bytes) stem is =
    followed-key (End_prompt prompt false (Some stem)) is (alias_settled (byte ∷ bytes) (Some stem)) (refl, λ questions. none-stored (byte ∷ bytes) (Some stem) questions)

making-key : (prompt : PromptId) (alias stem : List ℕ) (ended : StoreFate) → IsStem stem → OfKey (making_ended prompt alias stem ended)
making-key prompt alias stem stored.Stored is = given-key prompt alias stem is
making-key prompt alias stem stored.Before is = tt
making-key prompt alias stem stored.Unsure is = tt

changing-key : (prompt : PromptId) (stem : List ℕ) (ended : StoreFate) → IsStem stem → OfKey (changing_ended prompt stem ended)
changing-key prompt stem stored.Stored is = is
changing-key prompt stem stored.Before is = tt
changing-key prompt stem stored.Unsure is = tt

module _ (questions : Questions) (stems : (label : List ℕ) → IsStem (questions.files.stem_for label)) where
  kind-key : (prompt : PromptId) (wrong : ℕ) (what : PromptKind) (terms : KeyTerms) → IsSoundKind what → OfKey (kind_derived prompt wrong what terms questions)
  kind-key prompt wrong (kind.Unlock targets) terms is =
      let pass : (left : List Target) → OfKey (left_derived prompt wrong left terms questions) =
      elim [ [] ↦ tt | target ∷ left ↦ opening-key prompt wrong target.stem terms (questions.files.opening terms target.stem) ] in
      pass targets.left
  kind-key prompt wrong (kind.Create label alias salt) terms is =
      key-if (can_make label salt terms questions) _ (dismissing prompt) (λ ended. making-key prompt alias (questions.files.stem_for label) ended (stems label)) tt
  kind-key prompt wrong (kind.Change stem salt) terms is =
      key-if (are_terms salt terms) _ (dismissing prompt) (key-if (questions.files.can_rekey terms stem) _ (dismissing prompt) (λ ended. changing-key prompt stem ended is.stem) tt) tt

  key-ends : (prompt : PromptId) (round : ℕ) (terms : KeyTerms) → IfSome (questions.prompts.row prompt) IsLight → OfKey (derived prompt round terms questions)
  key-ends prompt round terms light =
      let pass : (row : Option PromptRow) → IfSome row IsLight → OfKey (row_derived prompt round row terms questions) =
      elim [ None ↦ λ is. tt | Some row ↦ λ is. key-if (is_deriving_in round row.stage) _ (quietly []) (kind-key prompt row.wrong row.kind terms is.kind) tt ] in
      pass (questions.prompts.row prompt) light

-- a change of a row that leaves its number and what it is for
light-changed : (prompt : PromptId) (change : PromptRow → PromptRow) → ((row : PromptRow) → IsLight row → IsLight (change row)) → (prompts : Prompts) → AreLight prompts → AreLight (changed prompt change prompts)
light-changed prompt change keeps prompts light =
    each-mapped _ IsLight prompts.rows
    (each-weaker IsLight _ (λ row is. let pass : (b : Bool) → IsLight (cond b (change row) row) = elim [ true ↦ keeps row is | false ↦ is ] in pass (is_prompt prompt row)) prompts.rows light)

module _ (caller : ConnId) where
  last-size : (change : Change) (state : State) → IsLast change → AreLight state.prompts → size_alone (sent_by caller change state) ≤ 8388836
  last-size (Ask_prompt prompt) state is light =
      again-size state.collections prompt (asked_again prompt state.prompts) (light-changed prompt _ (λ row it. record { number = it.number; kind = it.kind }) state.prompts light)
  last-size (Go_on prompt) state is light = go_on-size (asked_collections (contents_of state)) state.collections prompt state.prompts light
  last-size (End_prompt prompt dismissed created) state is light = end-size prompt dismissed created state.prompts light is
  last-size Open_session state is light = absurd is
  last-size (Close_session session) state is light = absurd is
  last-size (Lock_collection stem) state is light = absurd is
  last-size (Begin_prompt kind) state is light = absurd is
  last-size (Derive_key prompt round) state is light = absurd is
  last-size (Count_wrong prompt) state is light = absurd is
  last-size (Clear_wrong prompt) state is light = absurd is
  last-size Become_agent state is light = absurd is
  last-size Leave_agent state is light = absurd is

  -- a count of wrong answers sends nothing, and leaves what prompts are for
  counted-size : (first change : Change) (state : State) → IsCount first → IsLast change → AreLight state.prompts → size_alone (sent_all caller (first ∷ change ∷ []) state) ≤ 8388836
  counted-size first change state is last light =
      let next = performed caller first state in
      let sent : size_alone (sent_by caller first state) ≡ 0 = count-none first state is in
      let size = last-size change next last (count-light first state is light) in
      omega (arith, size, sent, size-append (sent_by caller first state) (sent_by caller change next ++ []), size-append (sent_by caller change next) [])
    where
      count-none : (first : Change) (state : State) → IsCount first → size_alone (sent_by caller first state) ≡ 0
      count-none (Count_wrong prompt) state is = refl
      count-none (Clear_wrong prompt) state is = refl
      count-none _ state is = absurd is

      count-light : (first : Change) (state : State) → IsCount first → AreLight state.prompts → AreLight (performed caller first state).prompts
      count-light (Count_wrong prompt) state is light = light-changed prompt _ (λ row it. record { number = it.number; kind = it.kind }) state.prompts light
      count-light (Clear_wrong prompt) state is light = light-changed prompt _ (λ row it. record { number = it.number; kind = it.kind }) state.prompts light
      count-light _ state is light = absurd is

  key-changes : (answer : Answer) (changes : List Change) (state : State) → IsKeyEnd answer changes → AreLight state.prompts → size_alone (sent_all caller changes state) ≤ 8388836
  key-changes answer [] state is light = omega arith
  key-changes answer (change ∷ []) state is light = subst (λ (s : List Sent). size_alone s ≤ 8388836) (sym (append-nil (sent_by caller change state))) (last-size change state is light)
  key-changes answer (first ∷ change ∷ []) state is light = counted-size first change state is.0 is.1 light
  key-changes answer (first ∷ change ∷ other ∷ more) state is light = absurd is

  few-behind : (sent : List Sent) (ran : Ran) → size_alone sent ≡ 0 → size_alone ran.sends ≤ 8388836 → size_alone (sending sent ran).sends ≤ 8388836
  few-behind sent ran none few = omega (arith, few, alone-behind sent ran.sends none)

  key-run : (brought : Brought) (plan : Plan) (fates : List Fate) (state : State) → OfKey plan → AreLight state.prompts → size_alone (run caller brought plan fates state).sends ≤ 8388836
  key-run brought =
      ends-run IsKeyEnd caller brought (λ before ran. AreLight before.prompts → size_alone ran.sends ≤ 8388836)
      (record {
        ends = λ answer changes state is light. key-changes answer changes state is light;
        fails = λ name state light. omega arith;
        asks = λ demand ended state ran is light. few-behind (sent_asked brought demand ended state) ran (announced-alone (demand_signals brought demand ended state.collections)) (is light);
        settles = λ reading ended state ran is light.
            few-behind (sent_settled reading ended state) ran (announced-alone (reading_signals reading ended state.collections))
            (subst (λ (q : Prompts). AreLight q → size_alone ran.sends ≤ 8388836) (prompts-settled reading ended state) is light);
        opens = λ stem terms state ran is light. few-behind (sent_opened brought stem terms state) ran (announced-alone (unlock_signals (key_with brought terms) stem state.collections)) (is light);
      })

-- ---- the only connection

-- a number is itself
same : (n : ℕ) → nat_eq n n ≡ true
same n = search rules

one-owner : (a b : Bool) → (a || b) ≡ true → b ≡ false → a ≡ true
one-owner true b is none = refl
one-owner false b is none = sym none ∙ is

-- all prompts are the only connection's
all-own : (one : ConnRow) (rows : List PromptRow) → AllByRecursion (λ (row : PromptRow). IsTrue (has row.owner (one ∷ []))) rows → length (filter (is_of one.conn) rows) ≡ length rows
all-own one [] owned = refl
all-own one (row ∷ rows) owned =
    let number : one.conn.0 ≡ row.owner.0 = eqb-true one.conn.0 row.owner.0 (one-owner (one.conn.0 == row.owner.0) false owned.0 refl) in
    let is : nat_eq row.owner.0 one.conn.0 ≡ true = ap (nat_eq row.owner.0) number ∙ same row.owner.0 in
    ap (λ b. length (cond b (row ∷ filter (is_of one.conn) rows) (filter (is_of one.conn) rows))) is ∙ omega (arith, all-own one rows owned.1)

few-prompts : (one : ConnRow) (state : State) → IsSound state → state.connections.rows ≡ one ∷ [] → length state.prompts.rows ≤ 64
few-prompts one state sound only =
    let owned = subst (λ (rows : List ConnRow). AllByRecursion (λ (row : PromptRow). IsTrue (has row.owner rows)) state.prompts.rows) only sound.prompts.owned in
    omega (arith, all-own one state.prompts.rows owned, sound.prompts.kept.few one.conn)

light-prompts : (state : State) → IsSound state → AreLight state.prompts
light-prompts state sound = each-weaker IsSoundPrompt IsLight (λ row is. record { number = is.number; kind = is.kind }) state.prompts.rows sound.prompts.each

-- ---- all that an event puts out for one connection alone

reply-size : (wanted : Bool) (conn : ConnId) (out : Out) (most : ℕ) → size_of out ≤ most → size_alone (cond wanted (record { to = One conn; out = out } ∷ []) []) ≤ most
reply-size true conn out most few = omega (arith, few)
reply-size false conn out most few = omega (arith, few)

empty-size : (request : Request) (answer : Result Body ErrorName) → answer ≡ Ok body.Empty → size_of (message_of request.serial answer) ≤ 48
unfolding size_of
empty-size request answer is =
    subst (λ (a : Result Body ErrorName). size_of (message_of request.serial a) ≤ 48) (sym is) (omega (arith, return-short request.serial 1 body.Empty))

-- an error is short
error-size : (to : Serial) (name : ErrorName) → length (spelled (out.Error to name) 1) ≤ 8388656
unfolding number_bytes
error-size to name.NotSupported = omega arith
error-size to _ = omega arith

message-size : (request : Request) (answer : Result Body ErrorName) → IsSmall answer → size_of (message_of request.serial answer) ≤ 8388656
unfolding size_of
message-size request (Ok body) small = omega (arith, return-short request.serial 1 body, small)
message-size request (Err name) small = error-size request.serial name

alone-ran : (conn : ConnId) (request : Request) (ran : Ran) → IsModest ran → IsSmall ran.answer → size_alone (put_out conn request ran) ≤ 8388884
alone-ran conn request ran (inl none) small =
    let reply = reply-size request.wants_reply conn (message_of request.serial ran.answer) 8388656 (message-size request ran.answer small) in
    omega (arith, size-append (replies conn request ran.answer) ran.sends, reply, none)
alone-ran conn request ran (inr (empty, few)) small =
    let reply = reply-size request.wants_reply conn (message_of request.serial ran.answer) 48 (empty-size request ran.answer empty) in
    omega (arith, size-append (replies conn request ran.answer) ran.sends, reply, few)

alone-arrived : (one : ConnRow) (came : Recorded) (state : State) → IsSound state → state.connections.rows ≡ one ∷ [] → size_alone (put_out came.arrival.conn came.arrival.request (served came state)) ≤ 8388884
alone-arrived one came state sound only =
    let conn = came.arrival.conn in
    let brought = brought_by came.arrival in
    let ran = served came state in
    let ends = any-call-ends came.arrival.salt came.arrival.request.call (asked conn brought state) in
    let all : IsModest ran = modest conn brought (plan_for came state) came.fates state ends (light-prompts state sound) (few-prompts one state sound only) in
    alone-ran conn came.arrival.request ran all (answer-small came state)

alone-derived : (came : Derivation) (state : State) → IsSound state → size_alone (finished came state).sends ≤ 8388884
alone-derived came state sound =
    let brought = brought_derived came in
    let questions = asked came.conn brought state in
    let light = light-prompts state sound in
    let found : (o : Option PromptRow) → row_at came.prompt state.prompts ≡ o → IfSome o IsLight =
    elim [ None ↦ λ at. tt | Some row ↦ λ at. found-row IsLight came.prompt state.prompts row light at ] in
    let ends = key-ends questions (λ label. IsStem-chosen label state.used) came.prompt came.round (terms_of came) (found (row_at came.prompt state.prompts) refl) in
    omega (arith, key-run came.conn brought (key_plan came state) came.fates state ends light)

-- ---- what waits for the only connection

-- what is on its way to one connection goes to it alone or to every one
split-size : (conn : ConnId) (outs : List Sent) → size_waiting (sent_to conn outs) ≤ size_alone outs + size_waiting (announced_in outs)
split-size conn [] = omega arith
split-size conn (sent ∷ more) =
    let rest = split-size conn more in
    let out = sent.out in
    let pass : (to : Recipient) → size_waiting (cond (is_for to conn) (out ∷ sent_to conn more) (sent_to conn more)) ≤ size_to to out + size_alone more + size_waiting (if_announced to out (announced_in more)) =
    elim [
      | Everyone ↦ omega (arith, rest, sum_by-cons size_of out (sent_to conn more), sum_by-cons size_of out (announced_in more))
      | One other ↦
          let its : (b : Bool) → size_waiting (cond b (out ∷ sent_to conn more) (sent_to conn more)) ≤ size_of out + size_alone more + size_waiting (announced_in more) =
          elim [ true ↦ omega (arith, rest, sum_by-cons size_of out (sent_to conn more)) | false ↦ omega (arith, rest) ] in
          its (conn.0 == other.0)
    ] in
    pass sent.to

fits-beside : (conn : ConnId) (outs : List Sent) → size_alone outs ≤ 8388884 → size_waiting (announced_in outs) ≤ most_beside → CanWaitTogether (sent_to conn outs)
fits-beside conn outs alone few = omega (arith, alone, few, split-size conn outs)

pub beside : (told : Told) (event : Event) → IsOwed told [] → Fits told.state event → size_waiting (announced_in (puts_out told.state event)) ≤ most_beside
    → CanWaitTogether (sent_to told.conn (puts_out told.state event))
beside told (event.Arrive came) is fits few =
    fits-beside told.conn (puts_out told.state (event.Arrive came)) (alone-arrived (due_row told.conn [] false is.taken) came told.state is.sound is.only) few
beside told (event.Derived came) is fits few = fits-beside told.conn (puts_out told.state (event.Derived came)) (alone-derived came told.state is.sound) few
beside told (event.Connect conn) is fits few = omega arith
beside told (event.Leave conn) is fits few = omega arith
beside told (event.Take conn) is fits few = omega arith
beside told (event.Gone conn) is fits few = omega arith
