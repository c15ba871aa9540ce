-- What every state has that a start leads to, and a state has to have from which lists of events may begin: a number
-- in use was given, and is given to no other; a session's owner is there; the connections, the sessions of each and the bytes
-- that wait are within their limits, and each output that waits has a spelling; the collections' stems rise, what is known of a
-- collection has its types, and an unlocked one holds just the items that it shows; the aliases are those that their file gives;
-- a prompt's owner is there, and so is the agent, and what a prompt has can be sent. Laws over lists from any start take it as
-- their premise.
use Rattle.std.specs.Prelude.{◌≡◌, ◌⊎◌, ℕ, ◌+◌, ◌^◌, ◌==◌, ◌<◌, ◌≤◌, IsTrue, IfSome, IsSome, IsSomeAnd, false, true, List, [], Option, Some, None, ◌∷◌, length, filter, map}
use Rattle.std.specs.List.{AllByRecursion}
use Rattle.std.specs.Str.{is_utf8}
use Rattle.kr_base.specs.Attributes.{IsInOrder}
use Rattle.kr_base.specs.Stem.{IsStem}
use Rattle.kr_base.specs.Text.{HasZero, IsText}
use Rattle.kr_base.specs.declared.attributes.AttrValue.{AttrValue}
use Rattle.kr_base.specs.declared.attributes.AttrValue.TheVariants as value
use Rattle.kr_base.specs.declared.ids.ConnId.{ConnId}
use Rattle.alias_table.specs.Table.{AliasRows, AreGiven}
use Rattle.keyring_text.specs.Fields.{IsBytes}
use Rattle.kr_names.specs.Naming.{is_alias}
use Rattle.kr_outside.specs.RenameDisk.{Image}
use Rattle.keyring_file.specs.Clear.{ClearPart, IsOfVersion}
use Rattle.keyring_file.specs.ClearText.{HasClear, most_iterations}
use Rattle.keyring_file.specs.Known.{IsKnownClearItem, IsKnownItem}
use Rattle.keyring_seal.specs.Arranged.{Row, row_number}
use Rattle.collection_store.specs.State.{Held, IsById, by_id, ids_of, shown_image}
use Rattle.collection_table.specs.Rows as collections
use Rattle.dbus_types.specs.Paths.{is_object_path}
use Rattle.replace_slot.specs.Cell.{File, Known, Doubt, HasFile, IsKnown}
use Rattle.prompt_state.specs.Prompts.{AreSound, is_made}
use Rattle.prompt_state.specs.Targets.{TargetLists, first_left}
use Rattle.prompt_state.specs.declared.row.PromptKind.{PromptKind}
use Rattle.prompt_state.specs.declared.row.PromptKind.TheVariants.{Unlock, Create, Change}
use Rattle.prompt_state.specs.declared.row.PromptRow.{PromptRow}
use Rattle.prompt_state.specs.declared.row.Prompts.{Prompts}
use Rattle.prompt_state.specs.declared.targets.Target.{Target}
use Rattle.signal_fanout.specs.secret_calls.specs.declared.out.Out.{Out}
use Rattle.signal_fanout.specs.secret_calls.specs.Outs.{HasSpelling, most_waiting}
use Rattle.session_table.specs.declared.row.SessionRow.{SessionRow}
use Rattle.session_table.specs.declared.row.Sessions.{Sessions}
use Rattle.session_table.specs.Sessions.{rows_of, most_sessions, last_session}
use Rattle.stem_choice.specs.UsedStems.{AreInOrder, is_used}
use Rattle.service_tables.specs.Aliases.{are_doubtful}
use Rattle.service_tables.specs.Opened.{Contents}
use Rattle.service_tables.specs.State.{State}
use Rattle.signal_fanout.specs.declared.rows.ConnRow.{ConnRow}
use Rattle.service_tables.specs.declared.rows.ConnRows.{ConnRows}
use Rattle.service_tables.specs.Sent.{Everyone, One, Recipient, Sent}
use Rattle.service_tables.specs.Connections.{has, size_of, size_waiting}
use Rattle.service_tables.specs.Limits.{most_connections, most_weight}
use Rattle.service_tables.specs.Targets.{weight}

-- each connection's number is below the next one
abbrev pub AreJoined : ℕ → List ConnRow → Type 0
AreJoined next rows = AllByRecursion (λ row. row.conn.0 < next) rows

-- the connections' numbers rise, so no two are equal
abbrev pub AreApart : List ConnRow → Type 0
AreApart [] = Unit {0}
AreApart (row ∷ rows) = AllByRecursion (λ other. row.conn.0 < other.conn.0) rows × AreApart rows

-- an output that can wait for a connection for which nothing waits: it has a spelling, which isn't too long
pub record IsShort (out : Out) : Type 0 where
  pub spelled : HasSpelling out
  pub small : size_of out ≤ most_waiting

-- an output that has a spelling, unless it is too long to wait
abbrev pub IsSpelled : Out → Type 0
IsSpelled out = size_of out ≤ most_waiting → HasSpelling out

-- the same by the recipient: what goes to everyone may be too long to wait, since it may have a whole label or all attributes of an item
abbrev pub CanWaitFor : Recipient → Out → Type 0
CanWaitFor (One conn) out = IsShort out
CanWaitFor Everyone out = IsSpelled out

-- What is sent to one connection can wait for it while nothing else waits, and what is sent to everyone has a spelling if it can.
abbrev pub CanWait : Sent → Type 0
CanWait sent = CanWaitFor sent.to sent.out

-- no more bytes wait than may, and each output that waits has a spelling
pub record WaitsWell (row : ConnRow) : Type 0 where
  pub within : size_waiting row.waiting ≤ most_waiting
  pub spelled : AllByRecursion HasSpelling row.waiting

-- the same for each connection
abbrev pub AreWaiting : List ConnRow → Type 0
AreWaiting rows = AllByRecursion WaitsWell rows

-- each session's number is below the next one
abbrev pub AreOpened : ℕ → List SessionRow → Type 0
AreOpened next rows = AllByRecursion (λ row. row.session.0 < next) rows

-- no two sessions have one number
abbrev pub AreOnce : List SessionRow → Type 0
AreOnce rows = (number : ℕ) → length (filter (λ row. row.session.0 == number) rows) ≤ 1

-- no connection has more sessions than it may
abbrev pub AreFew : List SessionRow → Type 0
AreFew rows = (owner : ConnId) → length (rows_of owner rows) ≤ most_sessions

-- each session's owner is there
abbrev pub AreOwned : List ConnRow → List SessionRow → Type 0
AreOwned connections rows = AllByRecursion (λ row. IsTrue (has row.owner connections)) rows

-- sound connections
pub record AreSoundConnections (connections : ConnRows) : Type 0 where
  pub joined : AreJoined connections.next connections.rows
  pub apart : AreApart connections.rows
  pub few : length connections.rows ≤ most_connections
  pub waiting : AreWaiting connections.rows

-- sound sessions, among the connections that are there
pub record AreSoundSessions (connections : List ConnRow) (sessions : Sessions) : Type 0 where
  pub opened : AreOpened sessions.next sessions.rows
  pub once : AreOnce sessions.rows
  pub limited : AreFew sessions.rows
  pub owned : AreOwned connections sessions.rows
  pub numbered : sessions.next ≤ last_session

-- what an unlocked collection keeps of an item has its types
pub record IsSoundItem (row : Row) : Type 0 where
  pub clear : IsKnownClearItem row.0
  pub full : IsKnownItem row.1

-- the same for all items that it holds
abbrev pub AreSoundItems : Held → Type 0
AreSoundItems held = AllByRecursion IsSoundItem held.rows

-- what a clear part has can be written to a file, and its items are in order of their ids
pub record AreShown (clear : ClearPart) : Type 0 where
  pub label : IsText clear.name
  pub created : clear.created < 2 ^ 64
  pub modified : clear.modified < 2 ^ 64
  pub flags : clear.flags < 2 ^ 32
  pub timeout : clear.timeout < 2 ^ 32
  pub iterations : clear.iterations ≤ most_iterations
  pub salt : length clear.salt ≡ 8
  pub version : IsOfVersion clear.minor clear.items
  pub items : AllByRecursion IsKnownClearItem clear.items
  pub ordered : IsById clear

-- the image is a file that has the items of this clear part, by their ids; if there is no file, anything may be shown
abbrev pub ShowsItems : Image → ClearPart → Type 0
ShowsItems None clear = Unit {0}
ShowsItems (Some bytes) clear = (part : ClearPart) × HasClear bytes part × (ids_of clear.items ≡ ids_of (by_id part).items)

-- the same of the newer image and the other clear part, if the older one is shown and the newer one is a file; otherwise there is no other
abbrev pub ShowsNewerItems : File → Option ClearPart → Type 0
ShowsNewerItems (Known image) other = other ≡ None
ShowsNewerItems (Doubt None new) other = other ≡ None
ShowsNewerItems (Doubt (Some bytes) None) other = other ≡ None
ShowsNewerItems (Doubt (Some bytes) (Some image)) other = IsSomeAnd other (ShowsItems (Some image))

-- the file of an unlocked collection is known, and it holds just the items that it shows, by their ids
pub record HoldsShown (file : File) (clear : ClearPart) (held : Held) : Type 0 where
  pub known : HasFile file
  pub items : ids_of clear.items ≡ map row_number held.rows

-- What is known of a collection has its types: its stem is one, and the label and the items are those of a file. It shows the items of its
-- file, and holds just these while it is unlocked.
pub record IsSoundCollection (collection : List ℕ × collections.CollectionRow) : Type 0 where
  pub stem : IsStem collection.0
  pub shown : AreShown collection.1.clear
  pub other : IfSome collection.1.other AreShown
  pub held : IfSome collection.1.held AreSoundItems
  pub image : ShowsItems (shown_image collection.1.file) collection.1.clear
  pub newer : ShowsNewerItems collection.1.file collection.1.other
  pub holds : IfSome collection.1.held (HoldsShown collection.1.file collection.1.clear)

-- sound collections, whose stems rise
pub record AreSoundCollections (rows : collections.Rows) : Type 0 where
  pub ordered : IsInOrder rows
  pub each : AllByRecursion IsSoundCollection rows

-- the stems that are used are in order, and those of the collections are among them
pub record AreSoundStems (rows : collections.Rows) (used : List (List ℕ)) : Type 0 where
  pub ordered : AreInOrder used
  pub taken : AllByRecursion (λ (row : List ℕ × collections.CollectionRow). IsTrue (is_used row.0 used)) rows

-- sound aliases: those that their file gives by its known image or, in doubt, by its older and its newer one
abbrev pub AreSoundAliases : Option AliasRows → Type 0
AreSoundAliases None = Unit {0}
AreSoundAliases (Some rows) = AreGiven rows.file rows.aliases rows.newer

-- the bytes of a text
pub record IsTypedText (bytes : List ℕ) : Type 0 where
  pub utf8 : is_utf8 bytes ≡ true
  pub no_zero : HasZero bytes → ⊥

-- the name that an alias may be set under
abbrev pub IsTypedAlias : List ℕ → Type 0
IsTypedAlias alias = is_alias alias ≡ true

-- a sound target: what was given is an object path, and its collection's stem is one
pub record IsSoundTarget (target : Target) : Type 0 where
  pub given : IsTrue (is_object_path target.given)
  pub stem : IsStem target.stem

-- sound targets, which aren't too many
pub record AreSoundTargets (targets : TargetLists) : Type 0 where
  pub done : AllByRecursion IsSoundTarget targets.done
  pub left : AllByRecursion IsSoundTarget targets.left
  pub light : weight targets.done + weight targets.left ≤ most_weight

-- what a collection is created with has its types; there is no alias if its name is empty
pub record AreCreateTypes (name given bytes : List ℕ) : Type 0 where
  pub label : IsTypedText name
  pub alias : (given ≡ []) ⊎ IsTypedAlias given
  pub salt : length bytes ≡ 8
  pub each : IsBytes bytes

-- a collection's password is changed with a salt that has its type
pub record AreChangeTypes (name bytes : List ℕ) : Type 0 where
  pub stem : IsStem name
  pub salt : length bytes ≡ 8
  pub each : IsBytes bytes

-- what a prompt is for is sound
abbrev pub IsSoundKind : PromptKind → Type 0
IsSoundKind (Unlock targets) = AreSoundTargets targets
IsSoundKind (Create label alias salt) = AreCreateTypes label alias salt
IsSoundKind (Change stem salt) = AreChangeTypes stem salt

-- there is a target for which a prompt is asked, if it unlocks collections
abbrev pub HasLeft : PromptKind → Type 0
HasLeft (Unlock targets) = IsSome (first_left targets)
HasLeft (Create label alias salt) = Unit {0}
HasLeft (Change stem salt) = Unit {0}

-- a sound prompt: once Prompt is called on it, there is something to ask for
pub record IsSoundPrompt (row : PromptRow) : Type 0 where
  pub number : row.prompt.0 < 2 ^ 64
  pub wrong : row.wrong < 2 ^ 32
  pub kind : IsSoundKind row.kind
  pub left : is_made row.stage ≡ false → HasLeft row.kind

-- sound prompts, among the connections that are there
pub record AreSoundPrompts (connections : List ConnRow) (prompts : Prompts) : Type 0 where
  pub kept : AreSound prompts
  pub each : AllByRecursion IsSoundPrompt prompts.rows
  pub owned : AllByRecursion (λ row. IsTrue (has row.owner connections)) prompts.rows
  pub agent : IfSome prompts.agent (λ agent. IsTrue (has agent connections))

-- no collection's file is in doubt
abbrev pub AreKnown : collections.Rows → Type 0
AreKnown rows = AllByRecursion (λ (row : List ℕ × collections.CollectionRow). IsKnown row.1.file) rows

-- what a start finds is sound, and no file is in doubt
pub record AreSoundContents (contents : Contents) : Type 0 where
  pub collections : AreSoundCollections contents.collections
  pub aliases : AreSoundAliases contents.aliases
  pub certain : are_doubtful contents.aliases ≡ false
  pub known : AreKnown contents.collections
  pub stems : AreSoundStems contents.collections contents.used

-- a sound state: each table is
pub record IsSound (state : State) : Type 0 where
  pub connections : AreSoundConnections state.connections
  pub sessions : AreSoundSessions state.connections.rows state.sessions
  pub prompts : AreSoundPrompts state.connections.rows state.prompts
  pub collections : AreSoundCollections state.collections
  pub aliases : AreSoundAliases state.aliases
  pub stems : AreSoundStems state.collections state.used

-- ---- what a call brings: what its types guarantee, as facts that have one proof at most

-- the value of an attribute
abbrev pub IsTypedValue : AttrValue → Type 0
IsTypedValue (value.Text text) = IsTypedText text
IsTypedValue (value.Number n) = n < 2 ^ 32

-- an attribute
pub record IsTypedPair (pair : List ℕ × AttrValue) : Type 0 where
  pub name : IsTypedText pair.0
  pub value : IsTypedValue pair.1

-- the label and the attributes of an item
pub record AreItemTypes (name : List ℕ) (pairs : List (List ℕ × AttrValue)) : Type 0 where
  pub label : IsTypedText name
  pub ordered : IsInOrder pairs
  pub attributes : AllByRecursion IsTypedPair pairs

-- the attributes of an item
pub record AreAttributeTypes (pairs : List (List ℕ × AttrValue)) : Type 0 where
  pub ordered : IsInOrder pairs
  pub attributes : AllByRecursion IsTypedPair pairs

-- the value and the content type of a secret
pub record AreSecretTypes (bytes text : List ℕ) : Type 0 where
  pub value : IsBytes bytes
  pub content : IsTypedText text
