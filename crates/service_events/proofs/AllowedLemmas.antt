-- A plan that may be run leaves a sound state sound; what it sends can wait, and what it answers has its types.
use Rattle.std.proofs.Common.{◌≡◌, ℕ, ◌+◌, ◌^◌, ◌<◌, ◌≤◌, Bool, true, false, not, nat_le, IfSome, IsSome, List, Result, Ok, Err, [], ◌∷◌, length, Some, refl, ap, ◌∙◌, arith}
use Rattle.std.specs.List.{AllByRecursion}
use Rattle.std.proofs.lemmas.Bool.{leb-false}
use Rattle.kr_base.specs.declared.ids.ConnId.{ConnId}
use Rattle.kr_base.specs.declared.ids.PromptId.{PromptId}
use Rattle.kr_base.specs.Stem.{IsStem}
use Rattle.kr_names.specs.Path.{IsAliasName}
use Rattle.keyring_file.specs.ClearText.{most_iterations}
use Rattle.prompt_state.specs.Prompts as prompts
use Rattle.prompt_state.specs.Prompts.{asked_again, begun, ended, is_made, last_round, next_round, registered, round_of, row_at, unregistered, cleared, staged, wronged}
use Rattle.prompt_state.specs.declared.row.PromptRow.{PromptRow}
use Rattle.prompt_state.specs.declared.row.Prompts.{Prompts}
use Rattle.prompt_state.specs.declared.row.Stage.{Stage}
use Rattle.prompt_state.specs.declared.row.Stage.TheVariants.{Made, Asked, Deriving}
use Rattle.service_prompts.specs.collection_table.specs.Rows.{locked}
use Rattle.service_prompts.specs.secret_calls.specs.declared.out.Body.{Body}
use Rattle.service_prompts.specs.secret_calls.specs.declared.out.ErrorName.{ErrorName}
use Rattle.service_prompts.specs.secret_calls.specs.declared.out.ErrorName.TheVariants as name
use Rattle.service_prompts.specs.secret_calls.specs.Outs.{AreTyped}
use Rattle.session_table.specs.Sessions.{is_of, rows_of, is_full, most_sessions, last_session}
use Rattle.service_prompts.specs.service_tables.specs.State.{State}
use Rattle.service_prompts.specs.service_tables.specs.declared.rows.ConnRows.{ConnRows}
use Rattle.service_prompts.specs.service_tables.specs.Connections.{has}
use Rattle.service_prompts.specs.service_tables.specs.Opened.{contents_of}
use Rattle.service_prompts.specs.service_tables.specs.TablesReading.{asked_collections}
use Rattle.service_events.specs.Plan.{Change, Open_session, Close_session, Lock_collection, Begin_prompt, Ask_prompt, Derive_key, Count_wrong, Clear_wrong, Go_on, End_prompt, Become_agent, Leave_agent, Demand, Store, Erase, Set_alias, Make, Rekey, Reading, Aliases_file, Collection_file, KeyTerms, Plan, Ends, Asks, Resolves, Opens}
use Rattle.service_events.specs.PromptCalls.{gone_on}
use Rattle.service_events.specs.Run.{key_with, made_of, asked, by_read, by_reading, by_test, demanded, failing, performed, performed_all, promised, sending, sent_all, sent_asked, sent_by, sent_opened, sent_settled, settled, filled, is_in_doubt, Ran, run, unlocked_with}
use Rattle.service_events.specs.Step.{AreByteFiles}
use Rattle.service_prompts.specs.service_tables.specs.Storing.{AreEditTypes, Brought, change_of, row_changed, storable_edit}
use Rattle.service_prompts.specs.service_tables.specs.declared.fate.Fate.{Fate}
use Rattle.service_prompts.specs.service_tables.specs.declared.fate.ReadFate.{ReadFate}
use Rattle.service_prompts.specs.service_tables.specs.declared.fate.StoreFate.{StoreFate}
use Rattle.service_prompts.specs.service_tables.specs.declared.fate.StoreFate.TheVariants as stored
use Rattle.service_prompts.specs.service_tables.specs.Sent.{Sent}
use Rattle.service_prompts.specs.service_tables.specs.Sound.{AreSoundPrompts, CanWait, HasLeft, IsSoundKind, IsTypedText, IsSound}
use Rattle.service_prompts.specs.service_tables.proofs.CollectionLemmas.{sound-locked}
use Rattle.service_prompts.proofs.PromptLemmas.{prompts-asked_again, prompts-begun, prompts-ended, prompts-registered, prompts-staged, prompts-wronged, prompts-cleared, prompts-unregistered}
use Rattle.service_prompts.specs.Announcing.{announced, closing_signals, make_signals}
use Rattle.service_prompts.proofs.AnnouncingLemmas.{announced-can, make-typed}
use Rattle.service_prompts.proofs.SignalLemmas.{ask_sent-can, asks_sent-can, completed_sent-can}
use Rattle.service_prompts.specs.service_tables.proofs.EachLemmas.{each-append}
use Rattle.service_prompts.specs.service_tables.proofs.KeptLemmas.{sound-resolved, sound-set}
use Rattle.service_prompts.specs.service_tables.proofs.StoredLemmas.{sound-erased, sound-stored}
use Rattle.service_events.specs.Announced.{demand_signals, reading_signals, rekey_signals, unlock_signals}
use Rattle.service_events.proofs.AnnouncedLemmas.{closing-signals-typed, erase-signals-typed, reading-typed, store-signals-typed, unlock-typed}
use Rattle.service_events.proofs.SmallLemmas.{not-full}
use Rattle.service_events.proofs.GoneOnLemmas.{go_on-can, prompts-gone_on}
use Rattle.service_disk.specs.Making.{has_room}
use Rattle.service_disk.specs.Opening.{row_opened}
use Rattle.service_disk.specs.Rekeying.{can_rekey, row_rekeyed}
use Rattle.service_prompts.specs.service_tables.proofs.TypedLemmas.{text-known}
use Rattle.service_events.proofs.MadeLemmas.{sound-made, sound-reread}
use Rattle.service_events.proofs.OpenedLemmas.{sound-opened}
use Rattle.service_events.proofs.RekeyedLemmas.{sound-rekeyed}
use Rattle.service_events.proofs.StemLemmas.{stems-changed, stems-erased, stems-made, stems-resolved}
use Rattle.service_events.proofs.RunLemmas.{connections-performed, fits-either, read-either, reading-either, store-either}
use Rattle.service_prompts.specs.service_tables.proofs.TableLemmas.{sessions-opened, sessions-fewer}

-- ---- a plan

-- there is something to ask for
abbrev pub HasMore : PromptId → State → Type 0
HasMore prompt state = (row : PromptRow) → row_at prompt state.prompts ≡ Some row → HasLeft row.kind

-- A change keeps a sound state sound if this holds: a session is opened, and a prompt begun, only by a caller that can do so, and a prompt is
-- asked only if there is something to ask for.
abbrev pub IsAllowed : ConnId → Change → State → Type 0
IsAllowed caller Open_session state = is_full caller state.sessions ≡ false
IsAllowed caller (Close_session session) state = Unit {0}
IsAllowed caller (Lock_collection stem) state = Unit {0}
IsAllowed caller (Begin_prompt kind) state = (prompts.is_full caller state.prompts ≡ false) × IsSoundKind kind
IsAllowed caller (Ask_prompt prompt) state = (next_round (row_at prompt state.prompts) ≤ last_round) × HasMore prompt state
IsAllowed caller (Derive_key prompt round) state = (1 ≤ round) × (round < last_round) × HasMore prompt state
IsAllowed caller (Count_wrong prompt) state = Unit {0}
IsAllowed caller (Clear_wrong prompt) state = Unit {0}
IsAllowed caller (Go_on prompt) state = next_round (row_at prompt state.prompts) ≤ last_round
IsAllowed caller (End_prompt prompt dismissed created) state = IfSome created IsStem
IsAllowed caller Become_agent state = Unit {0}
IsAllowed caller Leave_agent state = Unit {0}

-- the same for each of several changes
abbrev pub AreAllowed : ConnId → List Change → State → Type 0
AreAllowed caller [] state = Unit {0}
AreAllowed caller (change ∷ changes) state = IsAllowed caller change state × AreAllowed caller changes (performed caller change state)

-- the values of an answer are of their types
abbrev pub IsTypedAnswer : Result Body ErrorName → Type 0
IsTypedAnswer (Ok body) = AreTyped body
IsTypedAnswer (Err name) = Unit {0}

-- what a plan asks of the disk has its types
abbrev pub IsTypedDemand : Brought → Demand → Type 0
IsTypedDemand brought (Store stem edit) = (brought.now < 2 ^ 64) × AreEditTypes brought.value edit
IsTypedDemand brought (Erase stem) = Unit {0}
IsTypedDemand brought (Set_alias alias stem) = IsAliasName alias × IfSome stem IsStem
IsTypedDemand brought (Make stem label terms) = (brought.now < 2 ^ 64) × IsTypedText label × IsStem stem
IsTypedDemand brought (Rekey stem terms) = brought.now < 2 ^ 64

-- the salt and the iterations of a key can be written to a file
pub record AreWritable (terms : KeyTerms) : Type 0 where
  pub salt : length terms.salt ≡ 8
  pub iterations : terms.iterations ≤ most_iterations

-- what a plan asks the disk to store can be a file: it isn't too long, and the terms of its key can be written
abbrev pub IsStorable : Brought → Demand → State → Type 0
IsStorable brought (Store stem edit) state = IsSome (storable_edit brought state.collections stem edit)
IsStorable brought (Erase stem) state = Unit {0}
IsStorable brought (Set_alias alias stem) state = Unit {0}
IsStorable brought (Make stem label terms) state = AreWritable terms × (has_room (made_of brought terms label) state.collections ≡ true)
IsStorable brought (Rekey stem terms) state = AreWritable terms × (can_rekey (key_with brought terms) brought.now stem state.collections ≡ true)

-- Each change of a plan is allowed, and what it asks of the disk, the files that it may open and the values of its answer are of their types, however
-- what it asks of the disk ends. What it asks to store can be stored.
abbrev pub MayRun : ConnId → Brought → Plan → State → Type 0
MayRun caller brought (Ends answer changes) state = AreAllowed caller changes state × IsTypedAnswer (filled caller state answer)
MayRun caller brought (Asks demand next) state =
    IsTypedDemand brought demand × IsStorable brought demand state × ((ended : StoreFate) → MayRun caller brought (next ended) (demanded brought demand ended state))
MayRun caller brought (Resolves reading unread next) state =
    ((ended : ReadFate) → MayRun caller brought unread (settled reading ended state) × MayRun caller brought (next (asked caller brought (settled reading ended state))) (settled reading ended state))
    × MayRun caller brought (next (asked caller brought state)) state
MayRun caller brought (Opens stem terms next) state = AreByteFiles state.collections × MayRun caller brought next (unlocked_with brought stem terms state)

-- what a demand leaves of a sound state
sound-demanded : (brought : Brought) (demand : Demand) (some : StoreFate) (state : State) → IsTypedDemand brought demand → IsStorable brought demand state → IsSound state → IsSound (demanded brought demand some state)
sound-demanded brought (Store stem edit) some state typed can sound = record {
  connections = sound.connections;
  sessions = sound.sessions;
  prompts = sound.prompts;
  collections = sound-stored brought.now typed.0 edit brought.value typed.1 stem some state.collections can sound.collections;
  aliases = sound.aliases;
  stems = stems-changed stem (row_changed (change_of brought.value edit) brought.now some) state.collections state.used sound.stems;
}
sound-demanded brought (Erase stem) some state typed can sound = record {
  connections = sound.connections;
  sessions = sound.sessions;
  prompts = sound.prompts;
  collections = sound-erased stem some state.collections sound.collections;
  aliases = sound.aliases;
  stems = stems-erased stem some state.collections state.used sound.stems;
}
sound-demanded brought (Set_alias alias stem) some state typed can sound = record {
  connections = sound.connections;
  sessions = sound.sessions;
  prompts = sound.prompts;
  collections = sound.collections;
  aliases = sound-set alias stem some (contents_of state) typed.0 typed.1 sound.aliases;
  stems = sound.stems;
}
sound-demanded brought (Make stem label terms) some state typed can sound = record {
  connections = sound.connections;
  sessions = sound.sessions;
  prompts = sound.prompts;
  collections = sound-made stem (made_of brought terms label) typed.0 typed.2 (text-known label typed.1) can.0.salt can.0.iterations state.collections can.1 some sound.collections;
  aliases = sound.aliases;
  stems = stems-made stem (made_of brought terms label) some state.collections state.used sound.stems;
}
sound-demanded brought (Rekey stem terms) some state typed can sound = record {
  connections = sound.connections;
  sessions = sound.sessions;
  prompts = sound.prompts;
  collections = sound-rekeyed (key_with brought terms) brought.now typed can.0.salt can.0.iterations stem some state.collections can.1 sound.collections;
  aliases = sound.aliases;
  stems = stems-changed stem (row_rekeyed (key_with brought terms) brought.now some) state.collections state.used sound.stems;
}

-- what a file that is read again leaves of it
sound-settled : (reading : Reading) (some : ReadFate) (state : State) → IsSound state → IsSound (settled reading some state)
sound-settled Aliases_file some state sound = record {
  connections = sound.connections;
  sessions = sound.sessions;
  prompts = sound.prompts;
  collections = sound.collections;
  aliases = sound-resolved some state.aliases sound.aliases;
  stems = sound.stems;
}
sound-settled (Collection_file stem) some state sound = record {
  connections = sound.connections;
  sessions = sound.sessions;
  prompts = sound.prompts;
  collections = sound-reread stem some state.collections sound.collections;
  aliases = sound.aliases;
  stems = stems-resolved stem some state.collections state.used sound.stems;
}

-- what an attempt to unlock a collection leaves of it
sound-unlocked : (brought : Brought) (stem : List ℕ) (terms : KeyTerms) (state : State) → AreByteFiles state.collections → IsSound state → IsSound (unlocked_with brought stem terms state)
sound-unlocked brought stem terms state fits sound = record {
  connections = sound.connections;
  sessions = sound.sessions;
  prompts = sound.prompts;
  collections = sound-opened (key_with brought terms) stem state.collections fits sound.collections;
  aliases = sound.aliases;
  stems = stems-changed stem (row_opened (key_with brought terms)) state.collections state.used sound.stems;
}

-- other prompts, which are sound
with-prompts : (prompts : Prompts) (state : State) → IsSound state → AreSoundPrompts state.connections.rows prompts → IsSound (record state { prompts = prompts })
with-prompts prompts state sound new = record {
  connections = sound.connections;
  sessions = sound.sessions;
  prompts = new;
  collections = sound.collections;
  aliases = sound.aliases;
  stems = sound.stems;
}

pub sound-performed : (caller : ConnId) (change : Change) (state : State) → has caller state.connections.rows ≡ true → IsAllowed caller change state → IsSound state
    → IsSound (performed caller change state)
sound-performed caller Open_session state there allowed sound =
    let room = not-full (nat_le most_sessions (length (rows_of caller state.sessions.rows))) (nat_le last_session state.sessions.next) allowed in
    record {
      connections = sound.connections;
      sessions = sessions-opened caller state.connections.rows state.sessions there (leb-false most_sessions (length (rows_of caller state.sessions.rows)) room.0)
          (leb-false last_session state.sessions.next room.1) sound.sessions;
      prompts = sound.prompts;
      collections = sound.collections;
      aliases = sound.aliases;
      stems = sound.stems;
    }
sound-performed caller (Close_session session) state there allowed sound = record {
  connections = sound.connections;
  sessions = sessions-fewer state.connections.rows (λ row. not (is_of caller session row)) state.sessions sound.sessions;
  prompts = sound.prompts;
  collections = sound.collections;
  aliases = sound.aliases;
  stems = sound.stems;
}
sound-performed caller (Lock_collection stem) state there allowed sound = record {
  connections = sound.connections;
  sessions = sound.sessions;
  prompts = sound.prompts;
  collections = sound-locked stem state.collections sound.collections;
  aliases = sound.aliases;
  stems = stems-changed stem locked state.collections state.used sound.stems;
}
sound-performed caller (Begin_prompt kind) state there allowed sound = with-prompts (begun caller kind state.prompts) state sound (prompts-begun state.connections.rows caller kind state.prompts there allowed.0 allowed.1 sound.prompts)
sound-performed caller (Ask_prompt prompt) state there allowed sound =
    with-prompts (asked_again prompt state.prompts) state sound (prompts-asked_again state.connections.rows prompt state.prompts allowed.0 allowed.1 sound.prompts)
sound-performed caller (Derive_key prompt round) state there allowed sound =
    with-prompts (staged prompt (Deriving round) state.prompts) state sound
    (prompts-staged state.connections.rows prompt (Deriving round) state.prompts (allowed.0, allowed.1) (λ row found was made. allowed.2 row found) sound.prompts)
sound-performed caller (Count_wrong prompt) state there allowed sound =
    with-prompts (wronged prompt state.prompts) state sound (prompts-wronged state.connections.rows prompt state.prompts sound.prompts)
sound-performed caller (Clear_wrong prompt) state there allowed sound =
    with-prompts (cleared prompt state.prompts) state sound (prompts-cleared state.connections.rows prompt state.prompts sound.prompts)
sound-performed caller (Go_on prompt) state there allowed sound =
    with-prompts (gone_on prompt (asked_collections (contents_of state)) state.prompts) state sound
    (prompts-gone_on state.connections.rows prompt (asked_collections (contents_of state)) state.prompts allowed sound.prompts)
sound-performed caller (End_prompt prompt dismissed created) state there allowed sound =
    with-prompts (ended prompt state.prompts) state sound (prompts-ended state.connections.rows prompt state.prompts sound.prompts)
sound-performed caller Become_agent state there allowed sound = with-prompts (registered caller state.prompts) state sound (prompts-registered state.connections.rows caller state.prompts there sound.prompts)
sound-performed caller Leave_agent state there allowed sound = with-prompts (unregistered state.prompts) state sound (prompts-unregistered state.connections.rows state.prompts sound.prompts)

pub sound-all : (caller : ConnId) (changes : List Change) (state : State) → has caller state.connections.rows ≡ true → AreAllowed caller changes state → IsSound state
    → IsSound (performed_all caller changes state)
sound-all caller [] state there allowed sound = sound
sound-all caller (change ∷ changes) state there allowed sound =
    sound-all caller changes (performed caller change state) (ap (λ (c : ConnRows). has caller c.rows) (connections-performed caller change state) ∙ there) allowed.1
    (sound-performed caller change state there allowed.0 sound)

-- ---- what is sent

-- what a change sends can wait
pub waits-sent : (caller : ConnId) (change : Change) (state : State) → has caller state.connections.rows ≡ true → IsAllowed caller change state → IsSound state → AllByRecursion CanWait (sent_by caller change state)
waits-sent caller Open_session state there allowed sound = tt
waits-sent caller (Close_session session) state there allowed sound = tt
waits-sent caller (Lock_collection stem) state there allowed sound = announced-can (closing_signals stem state.collections) (closing-signals-typed stem state.collections sound.collections)
waits-sent caller (Begin_prompt kind) state there allowed sound = tt
waits-sent caller (Ask_prompt prompt) state there allowed sound =
    ask_sent-can state.connections.rows (asked_again prompt state.prompts) state.collections prompt (sound-performed caller (Ask_prompt prompt) state there allowed sound).prompts sound.collections
waits-sent caller (Derive_key prompt round) state there allowed sound = tt
waits-sent caller (Count_wrong prompt) state there allowed sound = tt
waits-sent caller (Clear_wrong prompt) state there allowed sound = tt
waits-sent caller (Go_on prompt) state there allowed sound = go_on-can state prompt allowed sound
waits-sent caller (End_prompt prompt dismissed created) state there allowed sound = completed_sent-can state.connections.rows state.prompts prompt dismissed created sound.prompts allowed
waits-sent caller Become_agent state there allowed sound =
    asks_sent-can state.connections.rows (registered caller state.prompts) state.collections (sound-performed caller Become_agent state there tt sound).prompts sound.collections
waits-sent caller Leave_agent state there allowed sound = tt

pub waits-all : (caller : ConnId) (changes : List Change) (state : State) → has caller state.connections.rows ≡ true → AreAllowed caller changes state → IsSound state
    → AllByRecursion CanWait (sent_all caller changes state)
waits-all caller [] state there allowed sound = tt
waits-all caller (change ∷ changes) state there allowed sound =
    each-append CanWait (sent_by caller change state) (sent_all caller changes (performed caller change state)) (waits-sent caller change state there allowed.0 sound)
    (waits-all caller changes (performed caller change state) (ap (λ (c : ConnRows). has caller c.rows) (connections-performed caller change state) ∙ there) allowed.1
    (sound-performed caller change state there allowed.0 sound))

-- what is sent once something was asked of the disk
waits-asked : (brought : Brought) (demand : Demand) (ended : StoreFate) (state : State) → IsTypedDemand brought demand → IsSound state → AllByRecursion CanWait (sent_asked brought demand ended state)
waits-asked brought (Store stem edit) ended state typed sound =
    announced-can (demand_signals brought (Store stem edit) ended state.collections) (store-signals-typed brought stem edit ended state.collections typed.0 typed.1 sound.collections)
waits-asked brought (Erase stem) ended state typed sound =
    announced-can (demand_signals brought (Erase stem) ended state.collections) (erase-signals-typed stem ended state.collections sound.collections)
waits-asked brought (Set_alias alias stem) ended state typed sound = tt
waits-asked brought (Make stem label terms) ended state typed sound = announced-can (make_signals stem ended) (make-typed stem ended typed.2)
waits-asked brought (Rekey stem terms) ended state typed sound = waits-rekeyed ended
  where
    waits-rekeyed : (ended : StoreFate) → AllByRecursion CanWait (announced (rekey_signals stem ended state.collections))
    waits-rekeyed stored.Stored = tt
    waits-rekeyed stored.Before = tt
    waits-rekeyed stored.Unsure = announced-can (closing_signals stem state.collections) (closing-signals-typed stem state.collections sound.collections)

-- or a file was read again, or a collection was to be unlocked
waits-settled : (reading : Reading) (ended : ReadFate) (state : State) → IsSound state → AllByRecursion CanWait (sent_settled reading ended state)
waits-settled reading ended state sound = announced-can (reading_signals reading ended state.collections) (reading-typed reading ended state.collections sound.collections)

waits-opened : (brought : Brought) (stem : List ℕ) (terms : KeyTerms) (state : State) → IsSound state → AllByRecursion CanWait (sent_opened brought stem terms state)
waits-opened brought stem terms state sound =
    announced-can (unlock_signals (key_with brought terms) stem state.collections) (unlock-typed (key_with brought terms) stem state.collections sound.collections)

-- ---- a run

-- what a plan leads to is sound, what it sends can wait, and what it answers has its types
pub record IsWell (ran : Ran) : Type 0 where
  pub sound : IsSound ran.state
  pub waits : AllByRecursion CanWait ran.sends
  pub typed : IsTypedAnswer ran.answer

-- an error that changes nothing
failing-well : (name : ErrorName) (state : State) → IsSound state → IsWell (failing name state)
failing-well name state sound = record { sound = sound; waits = tt; typed = tt }

-- the same after something was sent that can wait
sending-well : (sends : List Sent) (ran : Ran) → AllByRecursion CanWait sends → IsWell ran → IsWell (sending sends ran)
sending-well sends ran wait well = record { sound = well.sound; waits = each-append CanWait sends ran.sends wait well.waits; typed = well.typed }

there-settled : (caller : ConnId) (reading : Reading) (ended : ReadFate) (state : State) → has caller state.connections.rows ≡ true → has caller (settled reading ended state).connections.rows ≡ true
there-settled caller Aliases_file ended state there = there
there-settled caller (Collection_file stem) ended state there = there

pub well-run : (caller : ConnId) (brought : Brought) (plan : Plan) (fates : List Fate) (state : State) → has caller state.connections.rows ≡ true → MayRun caller brought plan state → IsSound state
    → IsWell (run caller brought plan fates state)
well-run caller brought (Ends answer changes) fates state there may sound =
    fits-either IsWell (filled caller state answer) _ (failing name.LimitsExceeded state)
    (λ is. record { sound = sound-all caller changes state there may.0 sound; waits = waits-all caller changes state there may.0 sound; typed = may.1 })
    (failing-well name.LimitsExceeded state sound)
well-run caller brought (Asks demand next) fates state there may sound =
    fits-either IsWell (promised caller state (next stored.Stored)) _ (failing name.LimitsExceeded state)
    (λ is. store-either IsWell (failing name.IOError state) _ fates (failing-well name.IOError state sound)
    (λ ended rest. sending-well (sent_asked brought demand ended state) (run caller brought (next ended) rest (demanded brought demand ended state)) (waits-asked brought demand ended state may.0 sound)
    (well-run caller brought (next ended) rest (demanded brought demand ended state) there (may.2 ended) (sound-demanded brought demand ended state may.0 may.1 sound))))
    (failing-well name.LimitsExceeded state sound)
well-run caller brought (Resolves reading unread next) fates state there may sound =
    let after : ReadFate → State = λ ended. settled reading ended state in
    let its : (ended : ReadFate) → IsSound (after ended) = λ ended. sound-settled reading ended state sound in
    let here : (ended : ReadFate) → has caller (after ended).connections.rows ≡ true = λ ended. there-settled caller reading ended state there in
    let ran_unread : ReadFate → List Fate → Ran = λ ended rest. run caller brought unread rest (after ended) in
    let ran_known : ReadFate → List Fate → Ran = λ ended rest. run caller brought (next (asked caller brought (after ended))) rest (after ended) in
    let pass : (b : Bool) → IsWell (by_test b (by_read (failing name.IOError state) (λ ended rest. sending (sent_settled reading ended state) (by_reading ended (ran_unread ended rest) (ran_known ended rest))) fates)
    (run caller brought (next (asked caller brought state)) fates state)) =
    elim [
      | true ↦ read-either IsWell (failing name.IOError state) _ fates (failing-well name.IOError state sound)
          (λ ended rest. sending-well (sent_settled reading ended state) (by_reading ended (ran_unread ended rest) (ran_known ended rest)) (waits-settled reading ended state sound)
          (reading-either IsWell ended (ran_unread ended rest) (ran_known ended rest)
          (well-run caller brought unread rest (after ended) (here ended) (may.0 ended).0 (its ended))
          (well-run caller brought (next (asked caller brought (after ended))) rest (after ended) (here ended) (may.0 ended).1 (its ended))))
      | false ↦ well-run caller brought (next (asked caller brought state)) fates state there may.1 sound
    ] in
    pass (is_in_doubt reading state)
well-run caller brought (Opens stem terms next) fates state there may sound =
    sending-well (sent_opened brought stem terms state) (run caller brought next fates (unlocked_with brought stem terms state)) (waits-opened brought stem terms state sound)
    (well-run caller brought next fates (unlocked_with brought stem terms state) there may.1 (sound-unlocked brought stem terms state may.0 sound))

pub some-same : (one other : PromptRow) → Some one ≡ Some other → one ≡ other
some-same one other is = cc

-- a prompt on which Prompt wasn't called yet is asked in round 1
pub made-first : (stage : Stage) → is_made stage ≡ true → round_of stage ≡ 0
made-first Made made = refl
made-first (Asked round) made = absurd (let no : false ≡ true = made in cc)
made-first (Deriving round) made = absurd (let no : false ≡ true = made in cc)

pub ask-round : (prompt : PromptId) (state : State) (row : PromptRow) → row_at prompt state.prompts ≡ Some row → is_made row.stage ≡ true → next_round (row_at prompt state.prompts) ≤ last_round
ask-round prompt state row found made =
    let one : next_round (row_at prompt state.prompts) ≡ 1 = ap next_round found ∙ ap (λ n. n + 1) (made-first row.stage made) in
    omega (arith, one)
