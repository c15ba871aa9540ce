-- What a plan leads to: its answer, the state after its changes, and what these send.
use Rattle.std.specs.Prelude.{ℕ, Bool, true, false, nat_le, if◌then◌else◌, List, [], ◌∷◌, ◌++◌, length, Option, Some, None, Result, Ok, Err}
use Rattle.std.specs.List.{filter_map}
use Rattle.kr_base.specs.declared.ids.ConnId.{ConnId}
use Rattle.kr_base.specs.declared.ids.SessionId.{SessionId}
use Rattle.service_prompts.specs.alias_table.specs.Table.{AliasRows}
use Rattle.service_prompts.specs.collection_table.specs.Entries.{changed}
use Rattle.service_prompts.specs.collection_table.specs.Rows as collections
use Rattle.service_prompts.specs.collection_table.specs.Rows.{is_open}
use Rattle.prompt_state.specs.Prompts.{asked_again, begun, cleared, ended, registered, row_at, staged, unregistered, wronged}
use Rattle.prompt_state.specs.declared.row.Stage.TheVariants.{Deriving}
use Rattle.service_prompts.specs.secret_calls.specs.declared.out.Body.{Body}
use Rattle.service_prompts.specs.secret_calls.specs.declared.out.Body.TheVariants as body
use Rattle.service_prompts.specs.secret_calls.specs.declared.out.ErrorName.{ErrorName}
use Rattle.service_prompts.specs.secret_calls.specs.declared.out.ErrorName.TheVariants as name
use Rattle.service_prompts.specs.secret_calls.specs.declared.secret.ReturnedSecret.{ReturnedSecret}
use Rattle.service_prompts.specs.secret_calls.specs.Outs.{spelled_body}
use Rattle.session_table.specs.Sessions.{owns, is_full, opened, closed}
use Rattle.service_prompts.specs.service_tables.specs.Sent.{Sent}
use Rattle.service_prompts.specs.service_tables.specs.Limits.{most_body}
use Rattle.service_prompts.specs.service_tables.specs.Aliases.{aliases_resolved, aliases_set, are_doubtful, asked_aliases}
use Rattle.service_prompts.specs.service_tables.specs.Opened.{Contents, contents_of}
use Rattle.key_derivation.specs.Kdf.{Inputs}
use Rattle.service_disk.specs.Making as making
use Rattle.service_disk.specs.Opening.{opening_of, rows_opened}
use Rattle.service_disk.specs.Rekeying as rekeying
use Rattle.service_disk.specs.Rekeying.{rows_rekeyed}
use Rattle.service_disk.specs.Resolving.{is_doubtful, rows_resolved}
use Rattle.stem_choice.specs.Choice.{chosen}
use Rattle.stem_choice.specs.UsedStems.{with_stem}
use Rattle.service_prompts.specs.Announcing.{announced, closing_signals}
use Rattle.service_prompts.specs.Prompting.{ask_sent, asks_sent, completed_sent}
use Rattle.service_prompts.specs.service_tables.specs.TablesReading.{asked_collections, asked_prompts, item_secret, secret_of}
use Rattle.service_prompts.specs.service_tables.specs.Storing.{Brought, change_of, rows_erased, rows_stored, storable_edit}
use Rattle.service_prompts.specs.service_tables.specs.declared.fate.Fate.{Fate}
use Rattle.service_prompts.specs.service_tables.specs.declared.fate.Fate.TheVariants as fate
use Rattle.service_prompts.specs.service_tables.specs.declared.fate.ReadFate.{ReadFate}
use Rattle.service_prompts.specs.service_tables.specs.declared.fate.ReadFate.TheVariants as read
use Rattle.service_prompts.specs.service_tables.specs.declared.fate.StoreFate.{StoreFate}
use Rattle.service_prompts.specs.service_tables.specs.declared.fate.StoreFate.TheVariants as stored
use Rattle.service_events.specs.Announced.{demand_signals, reading_signals, unlock_signals}
use Rattle.service_events.specs.PublicBody.{body_with}
use Rattle.service_events.specs.PromptCalls.{go_on_sent, gone_on}
use Rattle.service_events.specs.Plan.{SessionQuestions, KeyTerms, FileQuestions, Questions, Demand, Store, Erase, Set_alias, Make, Rekey, Reading, Aliases_file, Collection_file, Change, Open_session, Close_session, Lock_collection, Begin_prompt, Ask_prompt, Derive_key, Count_wrong, Clear_wrong, Go_on, End_prompt, Become_agent, Leave_agent, Gift, Secret_of, Secrets_of, Answer, Returns, Gives, Refuses, Plan, Ends, Asks, Resolves, Opens}
use Rattle.service_prompts.specs.service_tables.specs.State.{State}

-- ---- what is asked

-- the answers to a caller's questions about its sessions
abbrev pub asked_sessions : ConnId → State → SessionQuestions
asked_sessions caller state = record {
  owns = λ session. owns caller session state.sessions;
  is_full = is_full caller state.sessions;
  next = state.sessions.next;
}

-- what a key is derived from: these terms, and the password that an event brings
abbrev pub key_with : Brought → KeyTerms → Inputs
key_with brought terms = record { password = brought.value; salt = terms.salt; iterations = terms.iterations }

-- what a collection of this label is made of at the moment of the event, with such a key
abbrev pub made_of : Brought → KeyTerms → List ℕ → making.Plan
made_of brought terms label = record { label = label; key = key_with brought terms; now = brought.now }

-- the answers to questions about the files of the collections, for an event that brings this
abbrev pub asked_files : Brought → State → FileQuestions
asked_files brought state = record {
  opening = λ terms stem. opening_of (key_with brought terms) stem state.collections;
  stem_for = λ label. chosen label state.used;
  has_room = λ terms label. making.has_room (made_of brought terms label) state.collections;
  can_rekey = λ terms stem. rekeying.can_rekey (key_with brought terms) brought.now stem state.collections;
}

-- the answers to a caller's questions, for an event that brings this
abbrev pub asked : ConnId → Brought → State → Questions
asked caller brought state = record {
  sessions = asked_sessions caller state;
  collections = asked_collections (contents_of state);
  aliases = asked_aliases (contents_of state);
  prompts = asked_prompts caller state.prompts;
  files = asked_files brought state;
  storable = storable_edit brought state.collections;
}

-- ---- what is changed

-- a change of the state
abbrev pub performed : ConnId → Change → State → State
performed caller Open_session state = record state { sessions = opened caller state.sessions }
performed caller (Close_session session) state = record state { sessions = closed caller session state.sessions }
performed caller (Lock_collection stem) state = record state { collections = changed stem collections.locked state.collections }
performed caller (Begin_prompt kind) state = record state { prompts = begun caller kind state.prompts }
performed caller (Ask_prompt prompt) state = record state { prompts = asked_again prompt state.prompts }
performed caller (Derive_key prompt round) state = record state { prompts = staged prompt (Deriving round) state.prompts }
performed caller (Count_wrong prompt) state = record state { prompts = wronged prompt state.prompts }
performed caller (Clear_wrong prompt) state = record state { prompts = cleared prompt state.prompts }
performed caller (Go_on prompt) state = record state { prompts = gone_on prompt (asked_collections (contents_of state)) state.prompts }
performed caller (End_prompt prompt dismissed created) state = record state { prompts = ended prompt state.prompts }
performed caller Become_agent state = record state { prompts = registered caller state.prompts }
performed caller Leave_agent state = record state { prompts = unregistered state.prompts }

-- changes in order
abbrev pub performed_all : ConnId → List Change → State → State
performed_all caller [] state = state
performed_all caller (change ∷ changes) state = performed_all caller changes (performed caller change state)

-- what a change sends besides the reply: to everyone that a collection is locked; Ask to the agent, for each prompt that is asked by it; and
-- Completed to the owner of a prompt that ends
abbrev pub sent_by : ConnId → Change → State → List Sent
sent_by caller Open_session state = []
sent_by caller (Close_session session) state = []
sent_by caller (Lock_collection stem) state = announced (closing_signals stem state.collections)
sent_by caller (Begin_prompt kind) state = []
sent_by caller (Ask_prompt prompt) state = ask_sent prompt (asked_again prompt state.prompts) state.collections
sent_by caller (Derive_key prompt round) state = []
sent_by caller (Count_wrong prompt) state = []
sent_by caller (Clear_wrong prompt) state = []
sent_by caller (Go_on prompt) state = go_on_sent (asked_collections (contents_of state)) state.collections state.prompts.agent (row_at prompt state.prompts)
sent_by caller (End_prompt prompt dismissed created) state = completed_sent prompt dismissed created state.prompts
sent_by caller Become_agent state = asks_sent (registered caller state.prompts) state.collections
sent_by caller Leave_agent state = []

-- what changes send, in order
abbrev pub sent_all : ConnId → List Change → State → List Sent
sent_all caller [] state = []
sent_all caller (change ∷ changes) state = sent_by caller change state ++ sent_all caller changes (performed caller change state)

-- ---- what is stored

-- the collections after something was asked of the disk, by how that ended
abbrev pub rows_asked : Brought → Demand → StoreFate → collections.Rows → collections.Rows
rows_asked brought (Store stem edit) fate rows = rows_stored stem (change_of brought.value edit) brought.now fate rows
rows_asked brought (Erase stem) fate rows = rows_erased stem fate rows
rows_asked brought (Set_alias alias stem) fate rows = rows
rows_asked brought (Make stem label terms) fate rows = making.rows_made stem (made_of brought terms label) fate rows
rows_asked brought (Rekey stem terms) fate rows = rows_rekeyed stem (key_with brought terms) brought.now fate rows

-- the aliases after it
abbrev pub aliases_asked : Demand → StoreFate → Contents → Option AliasRows
aliases_asked (Store stem edit) fate contents = contents.aliases
aliases_asked (Erase stem) fate contents = contents.aliases
aliases_asked (Set_alias alias stem) fate contents = aliases_set alias stem fate contents
aliases_asked (Make stem label terms) fate contents = contents.aliases
aliases_asked (Rekey stem terms) fate contents = contents.aliases

-- the used stems after it: once a collection was to be made under a stem, it is used, however that ended
abbrev pub used_asked : Demand → List (List ℕ) → List (List ℕ)
used_asked (Store stem edit) used = used
used_asked (Erase stem) used = used
used_asked (Set_alias alias stem) used = used
used_asked (Make stem label terms) used = with_stem stem used
used_asked (Rekey stem terms) used = used

-- the state after it
abbrev pub demanded : Brought → Demand → StoreFate → State → State
demanded brought demand fate state = record state {
  collections = rows_asked brought demand fate state.collections;
  aliases = aliases_asked demand fate (contents_of state);
  used = used_asked demand state.used;
}

-- what that sends
abbrev pub sent_asked : Brought → Demand → StoreFate → State → List Sent
sent_asked brought demand fate state = announced (demand_signals brought demand fate state.collections)

-- ---- what is read again

-- whether two images of the file are known, of which it has one
abbrev pub is_in_doubt : Reading → State → Bool
is_in_doubt Aliases_file state = are_doubtful state.aliases
is_in_doubt (Collection_file stem) state = is_doubtful stem state.collections

-- the state after the file was to be read again, by how that ended
abbrev pub settled : Reading → ReadFate → State → State
settled Aliases_file fate state = record state { aliases = aliases_resolved fate state.aliases }
settled (Collection_file stem) fate state = record state { collections = rows_resolved stem fate state.collections }

-- what that sends
abbrev pub sent_settled : Reading → ReadFate → State → List Sent
sent_settled reading fate state = announced (reading_signals reading fate state.collections)

-- one thing if the file couldn't be read, and the other if it was
abbrev pub by_reading {ℓ} : {A : Type ℓ} → ReadFate → A → A → A
by_reading read.ReadFailed unread known = unread
by_reading read.Old unread known = known
by_reading read.New unread known = known
by_reading read.Other unread known = known

-- ---- what is unlocked

-- the state after the collection of a stem was to be unlocked with the key of these terms and of the password that the event brings
abbrev pub unlocked_with : Brought → List ℕ → KeyTerms → State → State
unlocked_with brought stem terms state = record state { collections = rows_opened (key_with brought terms) stem state.collections }

-- what that sends
abbrev pub sent_opened : Brought → List ℕ → KeyTerms → State → List Sent
sent_opened brought stem terms state = announced (unlock_signals (key_with brought terms) stem state.collections)

-- ---- what is answered

-- the return that has a secret; no plan gives one that isn't there
abbrev pub secret_returned : Option ReturnedSecret → Result Body ErrorName
secret_returned None = Err name.NoSuchObject
secret_returned (Some secret) = Ok (body.Secret secret)

-- what is given of an item; IsLocked if its collection is locked, since no secret of such a collection is shown
abbrev pub given_if_open : State → List ℕ → Option ReturnedSecret → Result Body ErrorName
given_if_open state stem secret = if is_open stem state.collections then secret_returned secret else Err name.IsLocked

-- the return that has what is given to a session that is the caller's
abbrev pub with_own_gift : State → Gift → Result Body ErrorName
with_own_gift state (Secret_of session stem item) = given_if_open state stem (secret_of session state.collections stem item)
with_own_gift state (Secrets_of session items) = Ok (body.Secrets (filter_map (item_secret session state.collections) items))

-- the session to which secrets are given
abbrev pub session_of : Gift → SessionId
session_of (Secret_of session stem item) = session
session_of (Secrets_of session items) = session

-- The return that has what is given. Nothing is given to a session that isn't the caller's, and nothing of a collection that is locked, whatever
-- a plan says.
abbrev pub with_gift : ConnId → State → Gift → Result Body ErrorName
with_gift caller state gift = if owns caller (session_of gift) state.sessions then with_own_gift state gift else Err name.NoSession

-- the values of a return, or the name of an error
abbrev pub filled : ConnId → State → Answer → Result Body ErrorName
filled caller state (Returns body) = Ok (body_with body)
filled caller state (Gives gift) = with_gift caller state gift
filled caller state (Refuses name) = Err name

-- whether a body is small enough to be returned
abbrev pub is_small : Body → Bool
is_small body = nat_le (length (spelled_body body)) most_body

-- whether an answer is an error, or small enough
abbrev pub fits : Result Body ErrorName → Bool
fits (Ok body) = is_small body
fits (Err name) = true

-- LimitsExceeded in place of a return that is too large
abbrev pub bounded : Result Body ErrorName → Result Body ErrorName
bounded answer = if fits answer then answer else Err name.LimitsExceeded

-- The answer whose size is looked at before something is asked of the disk: the plan's, if all that it asks for is stored. What is answered after a
-- file is read again or a collection is unlocked is looked at there; until then an empty return stands for it.
abbrev pub promised : ConnId → State → Plan → Result Body ErrorName
promised caller state (Ends answer changes) = filled caller state answer
promised caller state (Asks demand next) = promised caller state (next stored.Stored)
promised caller state (Resolves reading unread next) = Ok body.Empty
promised caller state (Opens stem terms next) = Ok body.Empty

-- what a plan leads to
pub record Ran : Type 0 where
  pub answer : Result Body ErrorName
  pub state : State
  pub sends : List Sent

-- the same after something was sent
abbrev pub sending : List Sent → Ran → Ran
sending sends ran = record ran { sends = sends ++ ran.sends }

-- an error, with nothing more changed
abbrev pub failing : ErrorName → State → Ran
failing name state = record { answer = Err name; state = state; sends = [] }

-- one thing if this is so, and the other if it isn't
abbrev pub by_test {ℓ} : {A : Type ℓ} → Bool → A → A → A
by_test true one other = one
by_test false one other = other

-- The one test of size: one thing if the answer is an error or small enough, and the other if it is too large.
abbrev pub if_fits {ℓ} : {A : Type ℓ} → Result Body ErrorName → A → A → A
if_fits answer done large = by_test (fits answer) done large

-- by the first of these fates, if it is that of a file that was to be stored; otherwise `none`
abbrev pub by_store {ℓ} : {A : Type ℓ} → A → (StoreFate → List Fate → A) → List Fate → A
by_store none next [] = none
by_store none next (fate.Store ended ∷ fates) = next ended fates
by_store none next (fate.Read ended ∷ fates) = none

-- the same, if it is a resolve
abbrev pub by_read {ℓ} : {A : Type ℓ} → A → (ReadFate → List Fate → A) → List Fate → A
by_read none next [] = none
by_read none next (fate.Store ended ∷ fates) = none
by_read none next (fate.Read ended ∷ fates) = next ended fates

-- A caller's plan, from a state on, with how each storing and each resolve ended that it asks for. No event has fewer fates than its plan asks for,
-- or one of another kind. A return that is too large is LimitsExceeded, and nothing more changes. A file is read again only if it is in doubt.
abbrev pub run : ConnId → Brought → Plan → List Fate → State → Ran
run caller brought (Ends answer changes) fates state =
    if_fits (filled caller state answer)
    (record { answer = filled caller state answer; state = performed_all caller changes state; sends = sent_all caller changes state })
    (failing name.LimitsExceeded state)
run caller brought (Asks demand next) fates state =
    if_fits (promised caller state (next stored.Stored))
    (by_store (failing name.IOError state)
    (λ ended rest. sending (sent_asked brought demand ended state) (run caller brought (next ended) rest (demanded brought demand ended state))) fates)
    (failing name.LimitsExceeded state)
run caller brought (Resolves reading unread next) fates state =
    by_test (is_in_doubt reading state)
    (by_read (failing name.IOError state)
    (λ ended rest. sending (sent_settled reading ended state)
    (by_reading ended (run caller brought unread rest (settled reading ended state))
    (run caller brought (next (asked caller brought (settled reading ended state))) rest (settled reading ended state)))) fates)
    (run caller brought (next (asked caller brought state)) fates state)
run caller brought (Opens stem terms next) fates state =
    sending (sent_opened brought stem terms state) (run caller brought next fates (unlocked_with brought stem terms state))

-- there are none
abbrev pub AreNone : List Fate → Type 0
AreNone [] = Unit {0}
AreNone (fate ∷ fates) = ⊥

-- there is one fate for each storing or resolve that a plan asks for, from a state on, and of its kind
abbrev pub AreFates : ConnId → Brought → Plan → List Fate → State → Type 0
AreFates caller brought (Ends answer changes) fates state = AreNone fates
AreFates caller brought (Asks demand next) fates state =
    if_fits (promised caller state (next stored.Stored))
    (by_store ⊥ (λ ended rest. AreFates caller brought (next ended) rest (demanded brought demand ended state)) fates)
    (AreNone fates)
AreFates caller brought (Resolves reading unread next) fates state =
    by_test (is_in_doubt reading state)
    (by_read ⊥
    (λ ended rest. by_reading ended (AreFates caller brought unread rest (settled reading ended state))
    (AreFates caller brought (next (asked caller brought (settled reading ended state))) rest (settled reading ended state))) fates)
    (AreFates caller brought (next (asked caller brought state)) fates state)
AreFates caller brought (Opens stem terms next) fates state = AreFates caller brought next fates (unlocked_with brought stem terms state)

-- what a row of the table of calls leads to
abbrev pub ran : ConnId → Brought → (Questions → Plan) → List Fate → State → Ran
ran caller brought row fates state = run caller brought (row (asked caller brought state)) fates state

-- there is one fate for each storing or resolve that the row asks for
abbrev pub AreFatesOf : ConnId → Brought → (Questions → Plan) → List Fate → State → Type 0
AreFatesOf caller brought row fates state = AreFates caller brought (row (asked caller brought state)) fates state
