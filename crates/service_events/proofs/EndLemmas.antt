-- How each row of the table of calls ends, and that of a derived key, whatever it is told: by changes that send signals to everyone at most and leave the agent, or by
-- an empty return with changes of which the last one alone may send anything else or change the agent. So what is true of such ends and of the steps before them is
-- true of all rows, without a word on each call.
use Rattle.std.proofs.Common.{◌≡◌, ◌⊎◌, inl, inr, ⊎_elim, ℕ, ◌+◌, Bool, true, false, IsTrue, cond, nat_eq, nat_le, List, [], ◌∷◌, ◌++◌, length, map, Option, Some, None, Result, Ok, Err, refl, sym, subst, append-nil}
use Rattle.std.specs.List.{AllByRecursion, filter_map}
use Rattle.std.specs.Option.{option_and_then}
use Rattle.kr_base.specs.declared.ids.ConnId.{ConnId}
use Rattle.kr_base.specs.declared.ids.ItemId.{ItemId}
use Rattle.kr_base.specs.declared.ids.PromptId.{PromptId}
use Rattle.kr_base.specs.declared.ids.SessionId.{SessionId}
use Rattle.prompt_state.specs.Prompts.{is_deriving_in, last_round}
use Rattle.prompt_state.specs.declared.row.PromptKind.{PromptKind}
use Rattle.prompt_state.specs.declared.row.PromptKind.TheVariants as kind
use Rattle.prompt_state.specs.declared.row.PromptRow.{PromptRow}
use Rattle.prompt_state.specs.declared.table.PromptRefused.{PromptRefused}
use Rattle.prompt_state.specs.declared.targets.Target.{Target}
use Rattle.service_prompts.specs.secret_calls.specs.declared.call.Call.{Call}
use Rattle.service_prompts.specs.secret_calls.specs.declared.call.Call.TheVariants as call
use Rattle.service_prompts.specs.secret_calls.specs.declared.call.CallFault.{CallFault}
use Rattle.service_prompts.specs.secret_calls.specs.declared.out.ErrorName.{ErrorName}
use Rattle.service_prompts.specs.secret_calls.specs.declared.out.ErrorName.TheVariants as name
use Rattle.service_disk.specs.declared.opening.Opening.{Opening}
use Rattle.service_disk.specs.declared.opening.Opening.TheVariants as ends
use Rattle.service_prompts.specs.Unlocking.{targets_of, unlocked_there}
use Rattle.service_prompts.specs.service_tables.specs.Limits.{most_content}
use Rattle.service_prompts.specs.service_tables.specs.Objects.{alias_target, collection_around, collection_named}
use Rattle.service_prompts.specs.service_tables.specs.Questions.{CollectionQuestions}
use Rattle.service_prompts.specs.service_tables.specs.Targets.{are_light}
use Rattle.service_prompts.specs.service_tables.specs.State.{State}
use Rattle.service_prompts.specs.service_tables.specs.Storing.{Brought, Edit, Remove_item, Set_attributes, Set_label, Set_name, Set_secret}
use Rattle.service_prompts.specs.service_tables.specs.declared.fate.Fate.{Fate}
use Rattle.service_prompts.specs.service_tables.specs.declared.fate.ReadFate.{ReadFate}
use Rattle.service_prompts.specs.service_tables.specs.declared.fate.StoreFate.{StoreFate}
use Rattle.service_prompts.specs.service_tables.specs.declared.fate.StoreFate.TheVariants as stored
use Rattle.service_prompts.specs.service_tables.specs.Sent.{Sent}
use Rattle.service_prompts.specs.folder_store.specs.Limits.{the_limits}
use Rattle.service_events.specs.AgentCalls.{in_round, unless_refused}
use Rattle.service_events.specs.AliasCalls.{alias_settled, on_target}
use Rattle.service_events.specs.AnswerCalls.{deriving_key, going_on, kind_answered, left_answered, row_answered}
use Rattle.service_events.specs.CollectionCalls.{by_fate, made, no_prompt, on_collection, secret_stored, storing}
use Rattle.service_events.specs.Derivation.{alias_given, are_terms, can_make, changing_ended, derived, dismissing, kind_derived, left_derived, making_ended, most_wrong_answers, opening_ended, quietly, row_derived}
use Rattle.service_events.specs.ItemCalls.{secret_if_open}
use Rattle.service_events.specs.KeyringCalls.{the_prompt}
use Rattle.service_events.specs.Plan.{Answer, Returns, Gives, Refuses, Demand, KeyTerms, Questions, Reading, Aliases_file, Collection_file, Change, Open_session, Close_session, Lock_collection, Begin_prompt, Ask_prompt, Derive_key, Count_wrong, Clear_wrong, Go_on, End_prompt, Become_agent, Leave_agent, Plan, Ends, Asks, Resolves, Opens, answered, followed, refused}
use Rattle.service_events.specs.PromptCalls.{is_made_row}
use Rattle.service_events.specs.PublicBody.{PublicBody}
use Rattle.service_events.specs.PublicBody as public
use Rattle.service_events.specs.Run.{Ran, asked, by_read, by_reading, by_test, demanded, failing, filled, is_in_doubt, performed, performed_all, promised, run, sending, sent_all, sent_asked, sent_by, sent_opened, sent_settled, settled, unlocked_with}
use Rattle.service_prompts.specs.collection_store.specs.declared.change.Changed.{Changed}
use Rattle.service_prompts.specs.secret_calls.specs.declared.property.PropertyValue.{PropertyValue}
use Rattle.service_events.specs.declared.holder.Holder.{Holder}
use Rattle.service_events.specs.PropertyCalls.{editing, editing_item, holder_of, on_holder, value_of, value_returned}
use Rattle.service_events.specs.ServiceCalls.{creating, in_order, is_plain, no_collection, there_already, unlocking, with_new_prompt}
use Rattle.service_events.specs.SessionCalls.{with_session}
use Rattle.service_events.specs.Step.{plan_of}
use Rattle.service_prompts.specs.service_tables.proofs.EachLemmas.{each-append}
use Rattle.service_events.proofs.AnnouncedLemmas.{AreAnnounced, IsAnnounced, closing-announced}
use Rattle.service_events.proofs.RunLemmas.{fits-either, read-either, reading-either, store-either}

-- ---- ends

-- it is true of each end of a plan, whatever the plan is told
abbrev pub AllEnds : (Answer → List Change → Type 0) → Plan → Type 0
AllEnds E (Ends answer changes) = E answer changes
AllEnds E (Asks demand next) = (ended : StoreFate) → AllEnds E (next ended)
AllEnds E (Resolves reading unread next) = AllEnds E unread × ((questions : Questions) → AllEnds E (next questions))
AllEnds E (Opens stem terms next) = AllEnds E next

pub ends-weaker : (E F : Answer → List Change → Type 0) → ((answer : Answer) (changes : List Change) → E answer changes → F answer changes) → (plan : Plan) → AllEnds E plan → AllEnds F plan
ends-weaker E F leads (Ends answer changes) is = leads answer changes is
ends-weaker E F leads (Asks demand next) is = λ ended. ends-weaker E F leads (next ended) (is ended)
ends-weaker E F leads (Resolves reading unread next) is = (ends-weaker E F leads unread is.0, λ questions. ends-weaker E F leads (next questions) (is.1 questions))
ends-weaker E F leads (Opens stem terms next) is = ends-weaker E F leads next is

-- what is true of what a plan at its end leads to, and of the refusal of an answer that is too large, is true of a run
pub ends-either : (P : Ran → Type 0) (caller : ConnId) (brought : Brought) (answer : Answer) (changes : List Change) (fates : List Fate) (state : State)
    → P (record { answer = filled caller state answer; state = performed_all caller changes state; sends = sent_all caller changes state })
    → P (failing name.LimitsExceeded state) → P (run caller brought (Ends answer changes) fates state)
ends-either P caller brought answer changes fates state first second = fits-either P (filled caller state answer) _ (failing name.LimitsExceeded state) (λ small. first) second

-- what holds from a state on of what a plan leads to, by its kinds of step, if this is true of its ends
pub record KeepsEnds (E : Answer → List Change → Type 0) (caller : ConnId) (brought : Brought) (R : State → Ran → Type 0) : Type 0 where
  pub ends : (answer : Answer) (changes : List Change) (state : State) → E answer changes
      → R state (record { answer = filled caller state answer; state = performed_all caller changes state; sends = sent_all caller changes state })
  pub fails : (name : ErrorName) (state : State) → R state (failing name state)
  pub asks : (demand : Demand) (ended : StoreFate) (state : State) (ran : Ran) → R (demanded brought demand ended state) ran → R state (sending (sent_asked brought demand ended state) ran)
  pub settles : (reading : Reading) (ended : ReadFate) (state : State) (ran : Ran) → R (settled reading ended state) ran → R state (sending (sent_settled reading ended state) ran)
  pub opens : (stem : List ℕ) (terms : KeyTerms) (state : State) (ran : Ran) → R (unlocked_with brought stem terms state) ran → R state (sending (sent_opened brought stem terms state) ran)

pub ends-run : (E : Answer → List Change → Type 0) (caller : ConnId) (brought : Brought) (R : State → Ran → Type 0) → KeepsEnds E caller brought R → (plan : Plan) (fates : List Fate) (state : State) → AllEnds E plan
    → R state (run caller brought plan fates state)
ends-run E caller brought R keeps (Ends answer changes) fates state is =
    ends-either (R state) caller brought answer changes fates state (keeps.ends answer changes state is) (keeps.fails name.LimitsExceeded state)
ends-run E caller brought R keeps (Asks demand next) fates state is =
    fits-either (R state) (promised caller state (next stored.Stored)) _ (failing name.LimitsExceeded state)
    (λ small. store-either (R state) (failing name.IOError state) _ fates (keeps.fails name.IOError state)
    (λ ended rest. keeps.asks demand ended state (run caller brought (next ended) rest (demanded brought demand ended state))
    (ends-run E caller brought R keeps (next ended) rest (demanded brought demand ended state) (is ended))))
    (keeps.fails name.LimitsExceeded state)
ends-run E caller brought R keeps (Resolves reading unread next) fates state is =
    let after : ReadFate → State = λ ended. settled reading ended state in
    let ran_unread : ReadFate → List Fate → Ran = λ ended rest. run caller brought unread rest (after ended) in
    let ran_known : ReadFate → List Fate → Ran = λ ended rest. run caller brought (next (asked caller brought (after ended))) rest (after ended) in
    let pass : (b : Bool) → R state (by_test b (by_read (failing name.IOError state) (λ ended rest. sending (sent_settled reading ended state) (by_reading ended (ran_unread ended rest) (ran_known ended rest))) fates)
    (run caller brought (next (asked caller brought state)) fates state)) =
    elim [
      | true ↦ read-either (R state) (failing name.IOError state) _ fates (keeps.fails name.IOError state)
          (λ ended rest. keeps.settles reading ended state (by_reading ended (ran_unread ended rest) (ran_known ended rest))
          (reading-either (R (after ended)) ended (ran_unread ended rest) (ran_known ended rest) (ends-run E caller brought R keeps unread rest (after ended) is.0)
          (ends-run E caller brought R keeps (next (asked caller brought (after ended))) rest (after ended) (is.1 (asked caller brought (after ended))))))
      | false ↦ ends-run E caller brought R keeps (next (asked caller brought state)) fates state (is.1 (asked caller brought state))
    ] in
    pass (is_in_doubt reading state)
ends-run E caller brought R keeps (Opens stem terms next) fates state is =
    keeps.opens stem terms state (run caller brought next fates (unlocked_with brought stem terms state)) (ends-run E caller brought R keeps next fates (unlocked_with brought stem terms state) is)

-- a file that is read again is none of the prompts
pub prompts-settled : (reading : Reading) (ended : ReadFate) (state : State) → (settled reading ended state).prompts ≡ state.prompts
prompts-settled Aliases_file ended state = refl
prompts-settled (Collection_file stem) ended state = refl

-- ---- changes of which the last one alone may send something to one connection

-- what the change sends goes to everyone, and it leaves the agent
abbrev pub IsQuiet : Change → Type 0
IsQuiet Open_session = Unit {0}
IsQuiet (Close_session session) = Unit {0}
IsQuiet (Lock_collection stem) = Unit {0}
IsQuiet (Begin_prompt kind) = Unit {0}
IsQuiet (Ask_prompt prompt) = ⊥
IsQuiet (Derive_key prompt round) = Unit {0}
IsQuiet (Count_wrong prompt) = Unit {0}
IsQuiet (Clear_wrong prompt) = Unit {0}
IsQuiet (Go_on prompt) = ⊥
IsQuiet (End_prompt prompt dismissed created) = ⊥
IsQuiet Become_agent = ⊥
IsQuiet Leave_agent = ⊥

abbrev pub AreQuiet : List Change → Type 0
AreQuiet changes = AllByRecursion IsQuiet changes

quiet-one : (caller : ConnId) (change : Change) (state : State) → IsQuiet change → AreAnnounced (sent_by caller change state)
quiet-one caller Open_session state quiet = tt
quiet-one caller (Close_session session) state quiet = tt
quiet-one caller (Lock_collection stem) state quiet = closing-announced stem state.collections
quiet-one caller (Begin_prompt kind) state quiet = tt
quiet-one caller (Ask_prompt prompt) state quiet = absurd quiet
quiet-one caller (Derive_key prompt round) state quiet = tt
quiet-one caller (Count_wrong prompt) state quiet = tt
quiet-one caller (Clear_wrong prompt) state quiet = tt
quiet-one caller (Go_on prompt) state quiet = absurd quiet
quiet-one caller (End_prompt prompt dismissed created) state quiet = absurd quiet
quiet-one caller Become_agent state quiet = absurd quiet
quiet-one caller Leave_agent state quiet = absurd quiet

pub quiet-all : (caller : ConnId) (changes : List Change) (state : State) → AreQuiet changes → AreAnnounced (sent_all caller changes state)
quiet-all caller [] state quiet = tt
quiet-all caller (change ∷ changes) state quiet =
    let next = performed caller change state in
    each-append IsAnnounced (sent_by caller change state) (sent_all caller changes next) (quiet-one caller change state quiet.0) (quiet-all caller changes next quiet.1)

-- one change, of this kind
abbrev pub IsLone : (Change → Type 0) → List Change → Type 0
IsLone L [] = ⊥
IsLone L (change ∷ []) = L change
IsLone L (change ∷ next ∷ more) = ⊥

-- one change of this kind, after others that are quiet
abbrev pub AreInTurn : (Change → Type 0) → List Change → Type 0
AreInTurn L [] = ⊥
AreInTurn L (change ∷ []) = L change
AreInTurn L (change ∷ next ∷ more) = IsQuiet change × AreInTurn L (next ∷ more)

-- what the last change does, and quiet ones keep
pub in-turn : (caller : ConnId) (L : Change → Type 0) (R : State → List Sent → State → Type 0)
    → ((change : Change) (state : State) (said sent : List Sent) (new : State) → IsQuiet change → AreAnnounced said → R (performed caller change state) sent new → R state (said ++ sent) new)
    → ((change : Change) (state : State) → L change → R state (sent_by caller change state) (performed caller change state))
    → (changes : List Change) (state : State) → AreInTurn L changes → R state (sent_all caller changes state) (performed_all caller changes state)
in-turn caller L R quiet last [] state are = absurd are
in-turn caller L R quiet last (change ∷ []) state are = subst (λ sent. R state sent (performed caller change state)) (sym (append-nil (sent_by caller change state))) (last change state are)
in-turn caller L R quiet last (change ∷ other ∷ more) state are =
    let next = performed caller change state in
    let sent = sent_all caller (other ∷ more) next in
    let new = performed_all caller (other ∷ more) next in
    quiet change state (sent_by caller change state) sent new are.0 (quiet-one caller change state are.0) (in-turn caller L R quiet last (other ∷ more) next are.1)

-- ---- ends of rows

-- secrets are given only if they may be
abbrev pub GivesIf : Bool → Answer → Type 0
GivesIf may (Returns body) = Unit {0}
GivesIf may (Gives gift) = IsTrue may
GivesIf may (Refuses name) = Unit {0}

-- an end gives secrets only if it may, and its changes are quiet; or it is an empty return with such changes
abbrev pub IsEnd : Bool → (List Change → Type 0) → Answer → List Change → Type 0
IsEnd may M answer changes = GivesIf may answer × (AreQuiet changes ⊎ ((answer ≡ Returns public.Empty) × M changes))

-- the change with which a call may end by an empty return
abbrev pub IsOfCall : Change → Type 0
IsOfCall (Go_on prompt) = Unit {0}
IsOfCall (End_prompt prompt dismissed created) = created ≡ None
IsOfCall Become_agent = Unit {0}
IsOfCall Leave_agent = Unit {0}
IsOfCall _ = ⊥

-- the change with which a derived key may end
abbrev pub IsOfKey : Change → Type 0
IsOfKey (Ask_prompt prompt) = Unit {0}
IsOfKey (Go_on prompt) = Unit {0}
IsOfKey (End_prompt prompt dismissed created) = Unit {0}
IsOfKey _ = ⊥

-- any change
abbrev pub IsAny : Change → Type 0
IsAny change = Unit {0}

lone-turn : (changes : List Change) → IsLone IsOfCall changes → AreInTurn IsAny changes
lone-turn [] is = absurd is
lone-turn (change ∷ []) is = tt
lone-turn (change ∷ next ∷ more) is = absurd is

key-turn : (changes : List Change) → AreInTurn IsOfKey changes → AreInTurn IsAny changes
key-turn [] is = absurd is
key-turn (change ∷ []) is = tt
key-turn (change ∷ next ∷ more) is = (is.0, key-turn (next ∷ more) is.1)

turn-weaker : (may : Bool) (M N : List Change → Type 0) → ((changes : List Change) → M changes → N changes) → (plan : Plan) → AllEnds (IsEnd may M) plan → AllEnds (IsEnd may N) plan
turn-weaker may M N leads =
    ends-weaker (IsEnd may M) (IsEnd may N)
    (λ answer changes is. (is.0, ⊎_elim (λ (quiet : AreQuiet changes). inl quiet) (λ (rest : (answer ≡ Returns public.Empty) × M changes). inr (rest.0, leads changes rest.1)) is.1))

-- ---- the rows of the table of calls

-- no change, and no secret
abbrev IsIdle : Answer → List Change → Type 0
IsIdle answer changes = GivesIf false answer × (changes ≡ [])

fate-idle : (body : PublicBody) (ended : StoreFate) → AllEnds IsIdle (by_fate body ended)
fate-idle body stored.Stored = (tt, refl)
fate-idle body stored.Before = (tt, refl)
fate-idle body stored.Unsure = (tt, refl)

idle-if : (b : Bool) (plan : Plan) (error : ErrorName) → AllEnds IsIdle plan → AllEnds IsIdle (cond b plan (refused error))
idle-if true plan error idle = idle
idle-if false plan error idle = (tt, refl)

idle-alias : (alias : List ℕ) (stem : Option (List ℕ)) → AllEnds IsIdle (alias_settled alias stem)
idle-alias alias stem = ((tt, refl), λ questions. idle-if (questions.aliases.can_set alias stem) _ name.LimitsExceeded (fate-idle public.Empty))

idle-storing : (stem : List ℕ) (edit : Edit) (returned : Changed → PublicBody) (answer : Option Changed) → AllEnds IsIdle (storing stem edit returned answer)
idle-storing stem edit returned None = (tt, refl)
idle-storing stem edit returned (Some answer) = fate-idle (returned answer)

idle-session : (session : Option SessionId) (questions : Questions) (next : SessionId → Plan) → ((own : SessionId) → AllEnds IsIdle (next own)) → AllEnds IsIdle (with_session session questions next)
idle-session None questions next idle = (tt, refl)
idle-session (Some session) questions next idle = idle-if (questions.sessions.owns session) (next session) name.NoSession (idle session)

idle-secret : (session : Option SessionId) (stem content : List ℕ) (edit : Edit) (returned : Changed → PublicBody) (questions : Questions) → AllEnds IsIdle (secret_stored session stem content edit returned questions)
idle-secret session stem content edit returned questions =
    idle-session session questions _
    (λ own. idle-if (questions.collections.is_open stem) _ name.IsLocked (idle-if (nat_le (length content) most_content) _ name.LimitsExceeded (idle-storing stem edit returned (questions.storable stem edit))))

idle-collection : (named : Option (List ℕ)) (next : List ℕ → Plan) → ((stem : List ℕ) → AllEnds IsIdle (next stem)) → AllEnds IsIdle (on_collection named next)
idle-collection None next idle = (tt, refl)
idle-collection (Some stem) next idle = idle stem

idle-editing : (stem : List ℕ) (edit : Edit) (questions : Questions) → AllEnds IsIdle (editing stem edit questions)
idle-editing stem edit questions =
    idle-if (questions.collections.is_open stem) _ name.IsLocked (idle-storing stem edit (λ _. public.Empty) (questions.storable stem edit))

idle-item : (stem : List ℕ) (item : ItemId) (edit : Edit) (questions : Questions) → AllEnds IsIdle (editing_item stem item edit questions)
idle-item stem item edit questions = idle-if (questions.collections.has_item stem item) _ name.NoSuchObject (idle-editing stem edit questions)

idle-object : (held : Result Holder ErrorName) (next : Holder → Plan) → ((it : Holder) → AllEnds IsIdle (next it)) → AllEnds IsIdle (on_holder held next)
idle-object (Ok it) next idle = idle it
idle-object (Err error) next idle = (tt, refl)

idle-value : (value : Option PropertyValue) → AllEnds IsIdle (value_returned value)
idle-value None = (tt, refl)
idle-value (Some value) = (tt, refl)

idle-target : (target : Option (Option (List ℕ))) (next : Option (List ℕ) → Plan) → ((stem : Option (List ℕ)) → AllEnds IsIdle (next stem)) → AllEnds IsIdle (on_target target next)
idle-target None next idle = (tt, refl)
idle-target (Some stem) next idle = idle stem

module _ (may : Bool) where
  -- the ends of a call's row
  abbrev OfCall : Plan → Type 0
  OfCall plan = AllEnds (IsEnd may (IsLone IsOfCall)) plan

  idle-call : (plan : Plan) → AllEnds IsIdle plan → OfCall plan
  idle-call =
      let gives : (answer : Answer) → GivesIf false answer → GivesIf may answer =
      elim [ Returns body ↦ λ is. tt | Gives gift ↦ λ is. absurd (let no : false ≡ true = is in cc) | Refuses name ↦ λ is. tt ] in
      ends-weaker IsIdle (IsEnd may (IsLone IsOfCall)) (λ answer changes is. (gives answer is.0, inl (subst AreQuiet (sym is.1) tt)))

  call-if : (b : Bool) (one other : Plan) → OfCall one → OfCall other → OfCall (cond b one other)
  call-if true one other first second = first
  call-if false one other first second = second

  call-session : (session : Option SessionId) (questions : Questions) (next : SessionId → Plan) → ((own : SessionId) → OfCall (next own)) → OfCall (with_session session questions next)
  call-session None questions next is = (tt, inl tt)
  call-session (Some session) questions next is = call-if (questions.sessions.owns session) (next session) (refused name.NoSession) (is session) (tt, inl tt)

  call-new : (fits : Bool) (returned : Option PromptId → PublicBody) (kind : PromptKind) (questions : Questions) → OfCall (with_new_prompt fits returned kind questions)
  call-new fits returned kind questions =
      call-if questions.prompts.is_full (refused name.LimitsExceeded) _ (tt, inl tt) (call-if fits _ (refused name.LimitsExceeded) (tt, inl (tt, tt)) (tt, inl tt))

  call-unlocking : (paths : List (List ℕ)) (targets : List Target) (questions : Questions) → OfCall (unlocking paths targets questions)
  call-unlocking paths [] questions = (tt, inl tt)
  call-unlocking paths (target ∷ targets) questions = call-new (are_light (target ∷ targets)) (public.ObjectsAndPrompt paths) _ questions

  call-collection : (named : Option (List ℕ)) (next : List ℕ → Plan) → ((stem : List ℕ) → OfCall (next stem)) → OfCall (on_collection named next)
  call-collection None next is = (tt, inl tt)
  call-collection (Some stem) next is = is stem

  call-there : (there : Option (List ℕ)) (next : Plan) → OfCall next → OfCall (there_already there next)
  call-there None next is = is
  call-there (Some stem) next is = (tt, inl tt)

  quiet-locks : (stems : List (List ℕ)) → AreQuiet (map Lock_collection stems)
  quiet-locks [] = tt
  quiet-locks (stem ∷ stems) = (tt, quiet-locks stems)

  call-unless : (why : Option PromptRefused) (next : Plan) → OfCall next → OfCall (unless_refused why next)
  call-unless None next is = is
  call-unless (Some why) next is = (tt, inl tt)

  call-round : (prompt : Option PromptId) (round : ℕ) (questions : Questions) (next : PromptId → Plan) → ((it : PromptId) → OfCall (next it)) → OfCall (in_round prompt round questions next)
  call-round None round questions next is = call-if questions.prompts.is_agent (refused name.NoSuchObject) (refused name.AccessDenied) (tt, inl tt) (tt, inl tt)
  call-round (Some prompt) round questions next is = call-unless (questions.prompts.refusal prompt round) (next prompt) (is prompt)

  call-left : (prompt : PromptId) (round : ℕ) (left : List Target) → OfCall (left_answered prompt round left)
  call-left prompt round [] = (tt, inr (refl, tt))
  call-left prompt round (target ∷ left) = (
    (tt, inl tt),
    λ questions. call-if (questions.collections.has target.stem) _ (going_on prompt)
        (call-if (questions.collections.is_open target.stem) (going_on prompt) (deriving_key prompt round) (tt, inr (refl, tt)) (tt, inl (tt, tt))) (tt, inr (refl, tt)),
  )

  call-kind : (prompt : PromptId) (round : ℕ) (what : PromptKind) (asked_of : CollectionQuestions) → OfCall (kind_answered prompt round what asked_of)
  call-kind prompt round (kind.Unlock targets) asked_of = call-left prompt round targets.left
  call-kind prompt round (kind.Create label alias salt) asked_of = (tt, inl (tt, tt))
  call-kind prompt round (kind.Change stem salt) asked_of =
      call-if (asked_of.is_open stem) (deriving_key prompt round) (going_on prompt) (tt, inl (tt, tt)) (tt, inr (refl, tt))

  call-row : (prompt : PromptId) (round : ℕ) (row : Option PromptRow) (asked_of : CollectionQuestions) → OfCall (row_answered prompt round row asked_of)
  call-row prompt round None asked_of = (tt, inl tt)
  call-row prompt round (Some row) asked_of = call-if (nat_eq round last_round) (dismissing prompt) _ (tt, inr (refl, refl)) (call-kind prompt round row.kind asked_of)

  -- a call isn't GetSecret or GetSecrets, unless secrets may be given
  abbrev pub GivesNone : Result Call CallFault → Type 0
  GivesNone (Ok (call.GetSecret stem item session)) = IsTrue may
  GivesNone (Ok (call.GetSecrets items session)) = IsTrue may
  GivesNone _ = Unit {0}

  pub call-ends : (salt : List ℕ) (given : Result Call CallFault) (questions : Questions) → GivesNone given → AllEnds (IsEnd may (IsLone IsOfCall)) (plan_of salt given questions)
  call-ends salt (Ok (call.OpenSession algorithm)) questions none =
      call-if (is_plain algorithm) _ (refused name.NotSupported) (call-if questions.sessions.is_full (refused name.LimitsExceeded) _ (tt, inl tt) (tt, inl (tt, tt))) (tt, inl tt)
  call-ends salt (Ok (call.CloseSession session)) questions none = call-if (questions.sessions.owns session) _ (refused name.NoSession) (tt, inl (tt, tt)) (tt, inl tt)
  call-ends salt (Ok (call.CreateCollection label alias)) questions none =
      call-there (option_and_then questions.collections.alias alias) (creating label alias salt questions)
      (call-if (nat_le the_limits.collections questions.collections.count) (refused name.LimitsExceeded) _ (tt, inl tt) (call-new true no_collection _ questions))
  call-ends salt (Ok (call.SetAlias alias object)) questions none =
      idle-call (plan_of salt (Ok (call.SetAlias alias object)) questions) (idle-target (alias_target questions.collections object) (alias_settled alias) (idle-alias alias))
  call-ends salt (Ok (call.Unlock objects)) questions none = call-unlocking (unlocked_there questions.collections objects) (targets_of questions.collections objects) questions
  call-ends salt (Ok (call.Lock objects)) questions none = (tt, inl (quiet-locks (in_order (filter_map (collection_around questions.collections) objects))))
  call-ends salt (Ok (call.GetSecrets items session)) questions none = call-session session questions _ (λ own. (none, inl tt))
  call-ends salt (Ok (call.SearchCollection collection wanted)) questions none =
      idle-call (plan_of salt (Ok (call.SearchCollection collection wanted)) questions) (idle-collection (collection_named questions.collections collection) _ (λ stem. (tt, refl)))
  call-ends salt (Ok (call.CreateItem collection label attributes secret replace)) questions none =
      idle-call (plan_of salt (Ok (call.CreateItem collection label attributes secret replace)) questions)
      (idle-collection (collection_named questions.collections collection) _ (λ stem. idle-secret secret.session stem secret.content _ (made stem) questions))
  call-ends salt (Ok (call.DeleteCollection collection)) questions none =
      idle-call (plan_of salt (Ok (call.DeleteCollection collection)) questions)
      (idle-collection (collection_named questions.collections collection) _ (λ stem. idle-if (questions.collections.is_open stem) _ name.IsLocked (fate-idle no_prompt)))
  call-ends salt (Ok (call.ChangePassword collection)) questions none =
      call-collection (collection_named questions.collections collection) _
      (λ stem. call-if (questions.collections.is_open stem) _ (refused name.IsLocked) (call-new true the_prompt _ questions) (tt, inl tt))
  call-ends salt (Ok (call.DeleteItem stem item)) questions none =
      idle-call (plan_of salt (Ok (call.DeleteItem stem item)) questions)
      (idle-if (questions.collections.has_item stem item) _ name.NoSuchObject
      (idle-if (questions.collections.is_open stem) _ name.IsLocked (idle-storing stem (Remove_item item) (λ _. no_prompt) (questions.storable stem (Remove_item item)))))
  call-ends salt (Ok (call.GetSecret stem item session)) questions none =
      call-if (questions.collections.has_item stem item) _ (refused name.NoSuchObject)
      (call-session session questions (secret_if_open stem item questions) (λ own. call-if (questions.collections.is_open stem) _ (refused name.IsLocked) (none, inl tt) (tt, inl tt))) (tt, inl tt)
  call-ends salt (Ok (call.SetSecret stem item secret)) questions none =
      idle-call (plan_of salt (Ok (call.SetSecret stem item secret)) questions)
      (idle-if (questions.collections.has_item stem item) _ name.NoSuchObject (idle-secret secret.session stem secret.content (Set_secret item secret.content) (λ _. public.Empty) questions))
  call-ends salt (Ok (call.Get object property)) questions none =
      idle-call (plan_of salt (Ok (call.Get object property)) questions) (idle-object (holder_of object questions) _ (λ held. idle-value (value_of questions.collections held property)))
  call-ends salt (Ok (call.GetAll object properties)) questions none =
      idle-call (plan_of salt (Ok (call.GetAll object properties)) questions) (idle-object (holder_of object questions) _ (λ held. (tt, refl)))
  call-ends salt (Ok (call.SetCollectionLabel collection label)) questions none =
      idle-call (plan_of salt (Ok (call.SetCollectionLabel collection label)) questions)
      (idle-collection (collection_named questions.collections collection) _ (λ stem. idle-editing stem (Set_name label) questions))
  call-ends salt (Ok (call.SetItemLabel stem item label)) questions none =
      idle-call (plan_of salt (Ok (call.SetItemLabel stem item label)) questions) (idle-item stem item (Set_label item label) questions)
  call-ends salt (Ok (call.SetAttributes stem item attributes)) questions none =
      idle-call (plan_of salt (Ok (call.SetAttributes stem item attributes)) questions) (idle-item stem item (Set_attributes item attributes) questions)
  call-ends salt (Ok (call.Prompt prompt)) questions none =
      let pass : (b : Bool) → OfCall (answered public.Empty (cond b (Go_on prompt ∷ []) [])) = elim [ true ↦ (tt, inr (refl, tt)) | false ↦ (tt, inl tt) ] in
      call-if (questions.prompts.owns prompt) _ (refused name.NoSuchObject) (pass (is_made_row (questions.prompts.row prompt))) (tt, inl tt)
  call-ends salt (Ok (call.Dismiss prompt)) questions none = call-if (questions.prompts.owns prompt) _ (refused name.NoSuchObject) (tt, inr (refl, refl)) (tt, inl tt)
  call-ends salt (Ok call.Register) questions none = call-if questions.prompts.is_taken (refused name.AgentTaken) _ (tt, inl tt) (tt, inr (refl, tt))
  call-ends salt (Ok call.Unregister) questions none = call-if questions.prompts.is_agent _ (refused name.AccessDenied) (tt, inr (refl, tt)) (tt, inl tt)
  call-ends salt (Ok (call.Answer prompt round password)) questions none = call-round prompt round questions _ (λ it. call-row it round (questions.prompts.row it) questions.collections)
  call-ends salt (Ok (call.Refuse prompt round)) questions none = call-round prompt round questions _ (λ it. (tt, inr (refl, refl)))
  call-ends salt (Err fault) questions none = (tt, inl tt)
  call-ends salt _ questions none = (tt, inl tt)

-- whatever a call is
pub any-call-ends : (salt : List ℕ) (given : Result Call CallFault) (questions : Questions) → AllEnds (IsEnd true (IsLone IsOfCall)) (plan_of salt given questions)
any-call-ends salt (Ok (call.GetSecret stem item session)) questions = call-ends true salt (Ok (call.GetSecret stem item session)) questions refl
any-call-ends salt (Ok (call.GetSecrets items session)) questions = call-ends true salt (Ok (call.GetSecrets items session)) questions refl
any-call-ends salt given questions = call-ends true salt given questions tt

pub call-in-turn : (salt : List ℕ) (given : Result Call CallFault) (questions : Questions) → AllEnds (IsEnd true (AreInTurn IsAny)) (plan_of salt given questions)
call-in-turn salt given questions = turn-weaker true (IsLone IsOfCall) (AreInTurn IsAny) lone-turn (plan_of salt given questions) (any-call-ends salt given questions)

-- ---- the row of a derived key

-- the ends of this row
abbrev OfKey : Plan → Type 0
OfKey plan = AllEnds (IsEnd true (AreInTurn IsOfKey)) plan

key-if : (b : Bool) (one other : Plan) → OfKey one → OfKey other → OfKey (cond b one other)
key-if true one other first second = first
key-if false one other first second = second

-- an end after other plans
followed-key : (change : Change) → IsOfKey change → (plan : Plan) → AllEnds IsIdle plan → OfKey (followed (change ∷ []) plan)
followed-key change is (Ends answer changes) idle = (tt, inr (refl, subst (λ (none : List Change). AreInTurn IsOfKey (none ++ change ∷ [])) (sym idle.1) is))
followed-key change is (Asks demand next) idle = λ ended. followed-key change is (next ended) (idle ended)
followed-key change is (Resolves reading unread next) idle = (followed-key change is unread idle.0, λ questions. followed-key change is (next questions) (idle.1 questions))
followed-key change is (Opens stem terms next) idle = followed-key change is next idle

opening-key : (prompt : PromptId) (wrong : ℕ) (stem : List ℕ) (terms : KeyTerms) (opening : Opening) → OfKey (opening_ended prompt wrong stem terms opening)
opening-key prompt wrong stem terms ends.Settled = (tt, inr (refl, tt))
opening-key prompt wrong stem terms ends.Unfit = (tt, inr (refl, tt))
opening-key prompt wrong stem terms ends.WrongPassword = key-if (nat_le most_wrong_answers (wrong + 1)) (dismissing prompt) _ (tt, inr (refl, tt)) (tt, inr (refl, (tt, tt)))
opening-key prompt wrong stem terms ends.Damaged = (tt, inr (refl, tt))
opening-key prompt wrong stem terms ends.Opened = (tt, inr (refl, (tt, tt)))

given-key : (prompt : PromptId) (alias stem : List ℕ) → OfKey (alias_given prompt alias stem)
given-key prompt [] stem = (tt, inr (refl, tt))
given-key prompt (byte ∷ bytes) stem = followed-key (End_prompt prompt false (Some stem)) tt (alias_settled (byte ∷ bytes) (Some stem)) (idle-alias (byte ∷ bytes) (Some stem))

making-key : (prompt : PromptId) (alias stem : List ℕ) (ended : StoreFate) → OfKey (making_ended prompt alias stem ended)
making-key prompt alias stem stored.Stored = given-key prompt alias stem
making-key prompt alias stem stored.Before = (tt, inr (refl, tt))
making-key prompt alias stem stored.Unsure = (tt, inr (refl, tt))

changing-key : (prompt : PromptId) (stem : List ℕ) (ended : StoreFate) → OfKey (changing_ended prompt stem ended)
changing-key prompt stem stored.Stored = (tt, inr (refl, tt))
changing-key prompt stem stored.Before = (tt, inr (refl, tt))
changing-key prompt stem stored.Unsure = (tt, inr (refl, tt))

kind-key : (prompt : PromptId) (wrong : ℕ) (what : PromptKind) (terms : KeyTerms) (questions : Questions) → OfKey (kind_derived prompt wrong what terms questions)
kind-key prompt wrong (kind.Unlock targets) terms questions =
    let pass : (left : List Target) → OfKey (left_derived prompt wrong left terms questions) =
    elim [ [] ↦ (tt, inr (refl, tt)) | target ∷ left ↦ opening-key prompt wrong target.stem terms (questions.files.opening terms target.stem) ] in
    pass targets.left
kind-key prompt wrong (kind.Create label alias salt) terms questions =
    key-if (can_make label salt terms questions) _ (dismissing prompt) (making-key prompt alias (questions.files.stem_for label)) (tt, inr (refl, tt))
kind-key prompt wrong (kind.Change stem salt) terms questions =
    key-if (are_terms salt terms) _ (dismissing prompt)
    (key-if (questions.files.can_rekey terms stem) _ (dismissing prompt) (changing-key prompt stem) (tt, inr (refl, tt))) (tt, inr (refl, tt))

pub key-ends : (prompt : PromptId) (round : ℕ) (terms : KeyTerms) (questions : Questions) → AllEnds (IsEnd true (AreInTurn IsOfKey)) (derived prompt round terms questions)
key-ends prompt round terms questions =
    let pass : (row : Option PromptRow) → OfKey (row_derived prompt round row terms questions) =
    elim [
      | None ↦ (tt, inl tt)
      | Some row ↦ key-if (is_deriving_in round row.stage) _ (quietly []) (kind-key prompt row.wrong row.kind terms questions) (tt, inl tt)
    ] in
    pass (questions.prompts.row prompt)

pub key-in-turn : (prompt : PromptId) (round : ℕ) (terms : KeyTerms) (questions : Questions) → AllEnds (IsEnd true (AreInTurn IsAny)) (derived prompt round terms questions)
key-in-turn prompt round terms questions = turn-weaker true (AreInTurn IsOfKey) (AreInTurn IsAny) key-turn (derived prompt round terms questions) (key-ends prompt round terms questions)
