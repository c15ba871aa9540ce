-- What a plan leaves alone, whatever it does, and which plans ask nothing of the disk.
use Rattle.std.proofs.Common.{◌≡◌, ℕ, Bool, true, false, cond, nat_le, List, [], ◌∷◌, Option, Some, None, Result, Ok, Err, refl, ◌∙◌}
use Rattle.std.specs.Option.{option_and_then}
use Rattle.kr_base.specs.declared.ids.ConnId.{ConnId}
use Rattle.kr_base.specs.declared.ids.PromptId.{PromptId}
use Rattle.kr_base.specs.declared.ids.SessionId.{SessionId}
use Rattle.kr_outside.specs.RenameDisk.{Image}
use Rattle.service_prompts.specs.folder_store.specs.Limits.{the_limits}
use Rattle.prompt_state.specs.Targets.{all_left}
use Rattle.prompt_state.specs.declared.row.PromptKind.{PromptKind}
use Rattle.prompt_state.specs.declared.row.PromptKind.TheVariants as kind
use Rattle.prompt_state.specs.declared.table.PromptRefused.{PromptRefused}
use Rattle.prompt_state.specs.declared.targets.Target.{Target}
use Rattle.service_prompts.specs.secret_calls.specs.declared.call.Call.{Call}
use Rattle.service_prompts.specs.secret_calls.specs.declared.call.Call.TheVariants as call
use Rattle.service_prompts.specs.secret_calls.specs.declared.call.CallFault.{CallFault}
use Rattle.service_prompts.specs.secret_calls.specs.declared.out.Body.{Body}
use Rattle.service_prompts.specs.secret_calls.specs.declared.out.ErrorName.{ErrorName}
use Rattle.service_prompts.specs.secret_calls.specs.declared.out.ErrorName.TheVariants as name
use Rattle.service_prompts.specs.service_tables.specs.declared.fate.Fate.{Fate}
use Rattle.service_prompts.specs.service_tables.specs.declared.fate.Fate.TheVariants as fate
use Rattle.service_prompts.specs.service_tables.specs.declared.fate.ReadFate.{ReadFate}
use Rattle.service_prompts.specs.service_tables.specs.declared.fate.ReadFate.TheVariants as read
use Rattle.service_prompts.specs.service_tables.specs.declared.fate.StoreFate.{StoreFate}
use Rattle.service_prompts.specs.service_tables.specs.declared.fate.StoreFate.TheVariants as stored
use Rattle.service_prompts.specs.service_tables.specs.Disk.{DiskState}
use Rattle.service_prompts.specs.service_tables.specs.Objects.{collection_named}
use Rattle.service_prompts.specs.service_tables.specs.Targets.{are_light}
use Rattle.service_prompts.specs.Unlocking.{targets_of, unlocked_there}
use Rattle.service_prompts.specs.service_tables.specs.State.{State}
use Rattle.service_prompts.specs.service_tables.specs.Storing.{Brought}
use Rattle.service_events.specs.declared.event.Recorded.{Recorded}
use Rattle.service_events.specs.AgentCalls.{in_round, unless_refused}
use Rattle.service_events.specs.CollectionCalls.{on_collection}
use Rattle.service_events.specs.ItemCalls.{secret_if_open}
use Rattle.service_events.specs.KeyringCalls.{the_prompt}
use Rattle.service_events.specs.Plan.{Aliases_file, Answer, Change, Collection_file, Demand, KeyTerms, Open_session, Close_session, Lock_collection, Begin_prompt, Ask_prompt, Derive_key, Count_wrong, Clear_wrong, Go_on, End_prompt, Become_agent, Leave_agent, Plan, Ends, Asks, Resolves, Opens, Questions, Reading, Secret_of, given, refused}
use Rattle.service_events.specs.PublicBody.{PublicBody}
use Rattle.service_events.specs.PublicBody as public
use Rattle.service_events.specs.Run.{AreFates, AreNone, asked, by_read, by_reading, by_store, by_test, demanded, failing, filled, fits, if_fits, is_in_doubt, performed, performed_all, promised, sending, sent_all, sent_asked, sent_opened, sent_settled, settled, Ran, run, unlocked_with}
use Rattle.service_prompts.specs.secret_calls.specs.declared.property.PropertyValue.{PropertyValue}
use Rattle.service_events.specs.declared.holder.Holder.{Holder}
use Rattle.service_events.specs.PropertyCalls.{holder_of, on_holder, value_of, value_returned}
use Rattle.service_events.specs.ServiceCalls.{creating, is_plain, no_collection, there_already, unlocking, with_new_prompt}
use Rattle.service_events.specs.SessionCalls.{with_session}
use Rattle.service_events.specs.Step.{brought_by, plan_of, served}
use Rattle.service_events.specs.Stored.{StoresNothing, StoresOf}

-- no change is one of the connections
pub connections-performed : (caller : ConnId) (change : Change) (state : State) → (performed caller change state).connections ≡ state.connections
connections-performed caller Open_session state = refl
connections-performed caller (Close_session session) state = refl
connections-performed caller (Lock_collection stem) state = refl
connections-performed caller (Begin_prompt kind) state = refl
connections-performed caller (Ask_prompt prompt) state = refl
connections-performed caller (Derive_key prompt round) state = refl
connections-performed caller (Count_wrong prompt) state = refl
connections-performed caller (Clear_wrong prompt) state = refl
connections-performed caller (Go_on prompt) state = refl
connections-performed caller (End_prompt prompt dismissed created) state = refl
connections-performed caller Become_agent state = refl
connections-performed caller Leave_agent state = refl

pub connections-all : (caller : ConnId) (changes : List Change) (state : State) → (performed_all caller changes state).connections ≡ state.connections
connections-all caller [] state = refl
connections-all caller (change ∷ changes) state = connections-all caller changes (performed caller change state) ∙ connections-performed caller change state

-- ---- what is true of a run

-- what is true of both ends of a test of size is true of the test
pub fits-either {ℓ} : {A : Type ℓ} (P : A → Type 0) (answer : Result Body ErrorName) (done large : A) → (fits answer ≡ true → P done) → P large → P (if_fits answer done large)
fits-either P answer done large first second =
    let pass : (b : Bool) → fits answer ≡ b → P (by_test b done large) = elim [ true ↦ λ is. first is | false ↦ λ is. second ] in
    pass (fits answer) refl

-- by the first of the fates
pub store-either {ℓ} : {A : Type ℓ} (P : A → Type 0) (none : A) (next : StoreFate → List Fate → A) (fates : List Fate) → P none → ((ended : StoreFate) (rest : List Fate) → P (next ended rest)) → P (by_store none next fates)
store-either P none next [] first second = first
store-either P none next (fate.Store ended ∷ rest) first second = second ended rest
store-either P none next (fate.Read ended ∷ rest) first second = first

pub read-either {ℓ} : {A : Type ℓ} (P : A → Type 0) (none : A) (next : ReadFate → List Fate → A) (fates : List Fate) → P none → ((ended : ReadFate) (rest : List Fate) → P (next ended rest)) → P (by_read none next fates)
read-either P none next [] first second = first
read-either P none next (fate.Store ended ∷ rest) first second = first
read-either P none next (fate.Read ended ∷ rest) first second = second ended rest

-- by whether the file could be read
pub reading-either {ℓ} : {A : Type ℓ} (P : A → Type 0) (ended : ReadFate) (unread known : A) → P unread → P known → P (by_reading ended unread known)
reading-either P read.ReadFailed unread known first second = first
reading-either P read.Old unread known first second = second
reading-either P read.New unread known first second = second
reading-either P read.Other unread known first second = second

-- What holds from a state on of what a plan leads to, whatever the plan is: of an end, of a refusal by the step itself, and then also after something
-- was asked of the disk, read again or unlocked.
pub record Keeps (caller : ConnId) (brought : Brought) (R : State → Ran → Type 0) : Type 0 where
  pub ends : (answer : Answer) (changes : List Change) (state : State) → fits (filled caller state answer) ≡ true
      → R state (record { answer = filled caller state answer; state = performed_all caller changes state; sends = sent_all caller changes state })
  pub fails : (name : ErrorName) (state : State) → R state (failing name state)
  pub asks : (demand : Demand) (ended : StoreFate) (state : State) (ran : Ran) → R (demanded brought demand ended state) ran → R state (sending (sent_asked brought demand ended state) ran)
  pub settles : (reading : Reading) (ended : ReadFate) (state : State) (ran : Ran) → R (settled reading ended state) ran → R state (sending (sent_settled reading ended state) ran)
  pub opens : (stem : List ℕ) (terms : KeyTerms) (state : State) (ran : Ran) → R (unlocked_with brought stem terms state) ran → R state (sending (sent_opened brought stem terms state) ran)

pub keeps-run : (caller : ConnId) (brought : Brought) (R : State → Ran → Type 0) → Keeps caller brought R → (plan : Plan) (fates : List Fate) (state : State) → R state (run caller brought plan fates state)
keeps-run caller brought R keeps (Ends answer changes) fates state =
    fits-either (R state) (filled caller state answer) _ (failing name.LimitsExceeded state) (keeps.ends answer changes state) (keeps.fails name.LimitsExceeded state)
keeps-run caller brought R keeps (Asks demand next) fates state =
    fits-either (R state) (promised caller state (next stored.Stored)) _ (failing name.LimitsExceeded state)
    (λ is. store-either (R state) (failing name.IOError state) _ fates (keeps.fails name.IOError state)
    (λ ended rest. keeps.asks demand ended state (run caller brought (next ended) rest (demanded brought demand ended state)) (keeps-run caller brought R keeps (next ended) rest (demanded brought demand ended state))))
    (keeps.fails name.LimitsExceeded state)
keeps-run caller brought R keeps (Resolves reading unread next) fates state =
    let after : ReadFate → State = λ ended. settled reading ended state in
    let ran_unread : ReadFate → List Fate → Ran = λ ended rest. run caller brought unread rest (after ended) in
    let ran_known : ReadFate → List Fate → Ran = λ ended rest. run caller brought (next (asked caller brought (after ended))) rest (after ended) in
    let pass : (b : Bool) → R state (by_test b (by_read (failing name.IOError state) (λ ended rest. sending (sent_settled reading ended state) (by_reading ended (ran_unread ended rest) (ran_known ended rest))) fates)
    (run caller brought (next (asked caller brought state)) fates state)) =
    elim [
      | true ↦ read-either (R state) (failing name.IOError state) _ fates (keeps.fails name.IOError state)
          (λ ended rest. keeps.settles reading ended state (by_reading ended (ran_unread ended rest) (ran_known ended rest))
          (reading-either (R (after ended)) ended (ran_unread ended rest) (ran_known ended rest) (keeps-run caller brought R keeps unread rest (after ended))
          (keeps-run caller brought R keeps (next (asked caller brought (after ended))) rest (after ended))))
      | false ↦ keeps-run caller brought R keeps (next (asked caller brought state)) fates state
    ] in
    pass (is_in_doubt reading state)
keeps-run caller brought R keeps (Opens stem terms next) fates state =
    keeps.opens stem terms state (run caller brought next fates (unlocked_with brought stem terms state)) (keeps-run caller brought R keeps next fates (unlocked_with brought stem terms state))

-- ---- the connections

connections-settled : (reading : Reading) (ended : ReadFate) (state : State) → (settled reading ended state).connections ≡ state.connections
connections-settled Aliases_file ended state = refl
connections-settled (Collection_file stem) ended state = refl

pub connections-run : (caller : ConnId) (brought : Brought) (plan : Plan) (fates : List Fate) (state : State) → (run caller brought plan fates state).state.connections ≡ state.connections
connections-run caller brought =
    keeps-run caller brought (λ before ran. ran.state.connections ≡ before.connections)
    (record {
      ends = λ answer changes state small. connections-all caller changes state;
      fails = λ name state. refl;
      asks = λ demand ended state ran same. same;
      settles = λ reading ended state ran same. same ∙ connections-settled reading ended state;
      opens = λ stem terms state ran same. same;
    })

-- the plan of a request, in a state
abbrev pub plan_for : Recorded → State → Plan
plan_for came state = plan_of came.arrival.salt came.arrival.request.call (asked came.arrival.conn (brought_by came.arrival) state)

pub connections-served : (came : Recorded) (state : State) → (served came state).state.connections ≡ state.connections
connections-served came state =
    connections-run came.arrival.conn (brought_by came.arrival) (plan_for came state) came.fates state

-- ---- plans that end at once

-- a plan asks nothing of the disk, and nothing of a state in between
abbrev pub EndsAtOnce : Plan → Type 0
EndsAtOnce (Ends answer changes) = Unit {0}
EndsAtOnce (Resolves reading unread next) = ⊥
EndsAtOnce (Asks demand next) = ⊥
EndsAtOnce (Opens stem terms next) = ⊥

-- it has no fates
pub no-fates : (caller : ConnId) (brought : Brought) (plan : Plan) (state : State) → EndsAtOnce plan → AreFates caller brought plan [] state
no-fates caller brought (Ends answer changes) state quiet = tt
no-fates caller brought (Resolves reading unread next) state quiet = absurd quiet
no-fates caller brought (Asks demand next) state quiet = absurd quiet
no-fates caller brought (Opens stem terms next) state quiet = absurd quiet

pub fates-none : (caller : ConnId) (brought : Brought) (plan : Plan) (fates : List Fate) (state : State) → EndsAtOnce plan → AreFates caller brought plan fates state → AreNone fates
fates-none caller brought (Ends answer changes) fates state quiet are = are
fates-none caller brought (Resolves reading unread next) fates state quiet are = absurd quiet
fates-none caller brought (Asks demand next) fates state quiet are = absurd quiet
fates-none caller brought (Opens stem terms next) fates state quiet are = absurd quiet

-- no fates are the empty list
pub none-is : (fates : List Fate) → AreNone fates → fates ≡ []
none-is [] none = refl
none-is (fate ∷ fates) none = absurd none

-- it leads to the same whatever the request brings
pub ended-alike : (caller : ConnId) (one other : Brought) (plan : Plan) (fates : List Fate) (state : State) → EndsAtOnce plan → run caller one plan fates state ≡ run caller other plan fates state
ended-alike caller one other (Ends answer changes) fates state quiet = refl
ended-alike caller one other (Resolves reading unread next) fates state quiet = absurd quiet
ended-alike caller one other (Asks demand next) fates state quiet = absurd quiet
ended-alike caller one other (Opens stem terms next) fates state quiet = absurd quiet

-- and leaves the disk alone
module _ {F S : Type 0} (folder_honest folder_steady : F → Bool) (folder_faults : F → ℕ) (images : F → List ℕ → Image) (folder_leaves : F → List ℕ → Image → Type 0) (names_made : F → List (List ℕ)) (is_honest is_steady : S → Bool) (faults moment : S → ℕ) (left_since : S → ℕ → Image → Type 0) (may_leave : S → Image → Type 0) where
  pub no-storing : (caller : ConnId) (brought : Brought) (plan : Plan) (state : State) (old new : DiskState F S) → EndsAtOnce plan → new ≡ old
      → StoresOf folder_honest folder_steady folder_faults images folder_leaves names_made is_honest is_steady faults moment left_since may_leave caller brought plan [] state old new
  no-storing caller brought (Ends answer changes) state old new quiet same = same
  no-storing caller brought (Resolves reading unread next) state old new quiet same = absurd quiet
  no-storing caller brought (Asks demand next) state old new quiet same = absurd quiet
  no-storing caller brought (Opens stem terms next) state old new quiet same = absurd quiet

-- ---- the rows of the table of calls that ask for no storing

quiet-if : (b : Bool) (one other : Plan) → EndsAtOnce one → EndsAtOnce other → EndsAtOnce (cond b one other)
quiet-if true one other first second = first
quiet-if false one other first second = second

quiet-session : (session : Option SessionId) (asked : Questions) (next : SessionId → Plan) → ((own : SessionId) → EndsAtOnce (next own)) → EndsAtOnce (with_session session asked next)
quiet-session None asked next quiet = tt
quiet-session (Some session) asked next quiet = quiet-if (asked.sessions.owns session) (next session) _ (quiet session) tt

quiet-collection : (named : Option (List ℕ)) (next : List ℕ → Plan) → ((stem : List ℕ) → EndsAtOnce (next stem)) → EndsAtOnce (on_collection named next)
quiet-collection None next quiet = tt
quiet-collection (Some stem) next quiet = quiet stem

quiet-new : (fits : Bool) (returned : Option PromptId → PublicBody) (kind : PromptKind) (asked : Questions) → EndsAtOnce (with_new_prompt fits returned kind asked)
quiet-new fits returned kind asked =
    quiet-if asked.prompts.is_full (refused name.LimitsExceeded) _ tt
    (quiet-if fits _ (refused name.LimitsExceeded) tt tt)

quiet-unlocking : (paths : List (List ℕ)) (targets : List Target) (asked : Questions) → EndsAtOnce (unlocking paths targets asked)
quiet-unlocking paths [] asked = tt
quiet-unlocking paths (target ∷ targets) asked = quiet-new (are_light (target ∷ targets)) (public.ObjectsAndPrompt paths) (kind.Unlock (all_left (target ∷ targets))) asked

quiet-creating : (label : List ℕ) (alias : Option (List ℕ)) (salt : List ℕ) (asked : Questions) → EndsAtOnce (creating label alias salt asked)
quiet-creating label alias salt asked = quiet-if (nat_le the_limits.collections asked.collections.count) (refused name.LimitsExceeded) _ tt (quiet-new true no_collection _ asked)

quiet-there : (named : Option (List ℕ)) (next : Plan) → EndsAtOnce next → EndsAtOnce (there_already named next)
quiet-there None next quiet = quiet
quiet-there (Some stem) next quiet = tt

quiet-unless : (why : Option PromptRefused) (next : Plan) → EndsAtOnce next → EndsAtOnce (unless_refused why next)
quiet-unless None next quiet = quiet
quiet-unless (Some why) next quiet = tt

quiet-round : (prompt : Option PromptId) (round : ℕ) (asked : Questions) (next : PromptId → Plan) → ((it : PromptId) → EndsAtOnce (next it)) → EndsAtOnce (in_round prompt round asked next)
quiet-round None round asked next quiet = quiet-if asked.prompts.is_agent (refused name.NoSuchObject) (refused name.AccessDenied) tt tt
quiet-round (Some prompt) round asked next quiet = quiet-unless (asked.prompts.refusal prompt round) (next prompt) (quiet prompt)

quiet-object : (held : Result Holder ErrorName) (next : Holder → Plan) → ((it : Holder) → EndsAtOnce (next it)) → EndsAtOnce (on_holder held next)
quiet-object (Ok it) next quiet = quiet it
quiet-object (Err error) next quiet = tt

quiet-value : (value : Option PropertyValue) → EndsAtOnce (value_returned value)
quiet-value None = tt
quiet-value (Some value) = tt

pub quiet-row : (salt : List ℕ) (call : Result Call CallFault) (asked : Questions) → StoresNothing call → EndsAtOnce (plan_of salt call asked)
quiet-row salt (Ok (call.OpenSession algorithm)) asked nothing =
    quiet-if (is_plain algorithm) _ (refused name.NotSupported) (quiet-if asked.sessions.is_full (refused name.LimitsExceeded) _ tt tt) tt
quiet-row salt (Ok (call.CloseSession session)) asked nothing = quiet-if (asked.sessions.owns session) _ (refused name.NoSession) tt tt
quiet-row salt (Ok (call.SetAlias alias object)) asked nothing = absurd nothing
quiet-row salt (Ok (call.GetSecrets items session)) asked nothing = quiet-session session asked _ (λ own. tt)
quiet-row salt (Ok (call.SearchCollection collection wanted)) asked nothing = quiet-collection (collection_named asked.collections collection) _ (λ stem. tt)
quiet-row salt (Ok (call.GetSecret stem item session)) asked nothing =
    quiet-if (asked.collections.has_item stem item) _ (refused name.NoSuchObject)
    (quiet-session session asked (secret_if_open stem item asked) (λ own. quiet-if (asked.collections.is_open stem) (given (Secret_of own stem item)) (refused name.IsLocked) tt tt)) tt
quiet-row salt (Ok (call.CreateItem collection label attributes secret replace)) asked nothing = absurd nothing
quiet-row salt (Ok (call.DeleteCollection collection)) asked nothing = absurd nothing
quiet-row salt (Ok (call.DeleteItem stem item)) asked nothing = absurd nothing
quiet-row salt (Ok (call.SetSecret stem item secret)) asked nothing = absurd nothing
quiet-row salt (Ok (call.Get object property)) asked nothing = quiet-object (holder_of object asked) _ (λ held. quiet-value (value_of asked.collections held property))
quiet-row salt (Ok (call.GetAll object properties)) asked nothing = quiet-object (holder_of object asked) _ (λ held. tt)
quiet-row salt (Ok (call.SetCollectionLabel collection label)) asked nothing = absurd nothing
quiet-row salt (Ok (call.SetItemLabel stem item label)) asked nothing = absurd nothing
quiet-row salt (Ok (call.SetAttributes stem item attributes)) asked nothing = absurd nothing
quiet-row salt (Ok (call.CreateCollection label alias)) asked nothing = quiet-there (option_and_then asked.collections.alias alias) (creating label alias salt asked) (quiet-creating label alias salt asked)
quiet-row salt (Ok (call.ChangePassword collection)) asked nothing =
    quiet-collection (collection_named asked.collections collection) _ (λ stem. quiet-if (asked.collections.is_open stem) _ (refused name.IsLocked) (quiet-new true the_prompt _ asked) tt)
quiet-row salt (Ok (call.Unlock objects)) asked nothing = quiet-unlocking (unlocked_there asked.collections objects) (targets_of asked.collections objects) asked
quiet-row salt (Ok (call.Prompt prompt)) asked nothing = quiet-if (asked.prompts.owns prompt) _ (refused name.NoSuchObject) tt tt
quiet-row salt (Ok (call.Dismiss prompt)) asked nothing = quiet-if (asked.prompts.owns prompt) _ (refused name.NoSuchObject) tt tt
quiet-row salt (Ok call.Register) asked nothing = quiet-if asked.prompts.is_taken (refused name.AgentTaken) _ tt tt
quiet-row salt (Ok call.Unregister) asked nothing = quiet-if asked.prompts.is_agent _ (refused name.AccessDenied) tt tt
quiet-row salt (Ok (call.Answer prompt round password)) asked nothing = absurd nothing
quiet-row salt (Ok (call.Refuse prompt round)) asked nothing = quiet-round prompt round asked _ (λ it. tt)
quiet-row salt (Err fault) asked nothing = tt
quiet-row salt _ asked nothing = tt
