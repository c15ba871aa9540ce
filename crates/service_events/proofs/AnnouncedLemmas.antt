-- What is sent to everyone: signals of changes, which are neither Ask nor Completed, and whose values have their types.
use Rattle.std.proofs.Common.{◌≡◌, ℕ, ◌^◌, ◌<◌, IfSome, Bool, true, false, cond, List, [], ◌∷◌, Option, Some, None, refl}
use Rattle.std.specs.List.{AllByRecursion}
use Rattle.std.specs.Option.{option_map_or}
use Rattle.key_derivation.specs.Kdf.{Inputs}
use Rattle.keyring_file.specs.Clear.{ClearPart}
use Rattle.kr_base.specs.Attributes.{is_name, value_at}
use Rattle.kr_base.specs.Stem.{IsStem}
use Rattle.kr_base.specs.Text.{IsText}
use Rattle.kr_base.specs.declared.ids.ItemId.{ItemId}
use Rattle.replace_slot.specs.declared.images.Found.{Found}
use Rattle.replace_slot.specs.declared.images.Found.TheVariants as image
use Rattle.service_disk.specs.Opening.{opening_in}
use Rattle.service_disk.specs.Resolving.{is_file}
use Rattle.service_disk.specs.declared.opening.Opening.{Opening}
use Rattle.service_disk.specs.declared.opening.Opening.TheVariants as ends
use Rattle.service_prompts.specs.Announcing.{announced, answered_signals, change_signals, closing_signals, erase_signals, gone_signals, item_shows, label_signals, leaving_signals, lock_signals, make_signals, named_signals, store_signals}
use Rattle.service_prompts.specs.collection_store.specs.State.{told_after}
use Rattle.service_prompts.specs.collection_store.specs.declared.change.Change.{Change}
use Rattle.service_prompts.specs.collection_store.specs.declared.change.Change.TheVariants as change
use Rattle.service_prompts.specs.collection_store.specs.declared.change.Changed.{Changed}
use Rattle.service_prompts.specs.collection_store.specs.declared.change.Changed.TheVariants as changes
use Rattle.service_prompts.specs.collection_table.specs.Rows.{CollectionRow, Rows, has, is_open}
use Rattle.service_prompts.specs.secret_calls.specs.declared.out.Out.{Out}
use Rattle.service_prompts.specs.secret_calls.specs.declared.out.Out.TheVariants as out
use Rattle.service_prompts.specs.secret_calls.specs.declared.signal.Signal.{Signal}
use Rattle.service_prompts.specs.secret_calls.specs.declared.signal.Signal.TheVariants as signal
use Rattle.service_prompts.specs.service_tables.specs.Sent.{Everyone, Sent}
use Rattle.service_prompts.specs.service_tables.specs.Sound.{AreShown, AreSoundCollections, IsSoundCollection}
use Rattle.service_prompts.specs.service_tables.specs.State.{State}
use Rattle.service_prompts.specs.service_tables.specs.Storing.{AreEditTypes, Brought, Edit, answered_at, change_of}
use Rattle.service_prompts.specs.service_tables.specs.declared.fate.ReadFate.{ReadFate}
use Rattle.service_prompts.specs.service_tables.specs.declared.fate.ReadFate.TheVariants as read
use Rattle.service_prompts.specs.service_tables.specs.declared.fate.StoreFate.{StoreFate}
use Rattle.service_prompts.specs.service_tables.specs.declared.fate.StoreFate.TheVariants as stored
use Rattle.service_prompts.specs.service_tables.proofs.CollectionLemmas.{at-stem, has-stem, open-stem}
use Rattle.service_prompts.specs.service_tables.proofs.StoredLemmas.{answered-named}
use Rattle.service_prompts.proofs.AnnouncingLemmas.{AreTyped, answered-typed, closing-typed, erase-typed, gone-typed, label-typed, leaving-typed, lock-typed}
use Rattle.service_events.specs.Announced.{demand_signals, found_signals, opening_signals, reading_signals, rekey_signals, resolve_signals, row_found_signals, shown_signals, unlock_signals}
use Rattle.service_events.specs.Plan.{Demand, Store, Erase, Set_alias, Make, Rekey, KeyTerms, Reading, Aliases_file, Collection_file}
use Rattle.service_events.specs.Run.{key_with, sent_asked, sent_opened, sent_settled}

-- ---- which signals these are

-- the signal tells of a change: it is neither Ask nor Completed
abbrev pub IsOfChange : Signal → Type 0
IsOfChange (signal.Ask prompt round kind label wrong) = ⊥
IsOfChange (signal.Completed prompt dismissed completion) = ⊥
IsOfChange (signal.CollectionCreated collection) = Unit {0}
IsOfChange (signal.CollectionDeleted collection) = Unit {0}
IsOfChange (signal.CollectionChanged collection) = Unit {0}
IsOfChange (signal.ItemCreated collection item) = Unit {0}
IsOfChange (signal.ItemDeleted collection item) = Unit {0}
IsOfChange (signal.ItemChanged collection item) = Unit {0}
IsOfChange (signal.PropertiesChanged object changed invalidated) = Unit {0}

-- the same of a message
abbrev pub IsChangeOut : Out → Type 0
IsChangeOut (out.Return serial body) = ⊥
IsChangeOut (out.Error serial name) = ⊥
IsChangeOut (out.Signal it) = IsOfChange it

-- the same of one on its way, to everyone
pub record IsAnnounced (one : Sent) : Type 0 where
  pub to : one.to ≡ Everyone
  pub change : IsChangeOut one.out

abbrev pub AreAnnounced : List Sent → Type 0
AreAnnounced sent = AllByRecursion IsAnnounced sent

abbrev AreOfChanges : List Signal → Type 0
AreOfChanges signals = AllByRecursion IsOfChange signals

announced-are : (signals : List Signal) → AreOfChanges signals → AreAnnounced (announced signals)
announced-are [] are = tt
announced-are (it ∷ more) are = (record { to = refl; change = are.0 }, announced-are more are.1)

leaving-of : (stem : List ℕ) (rows : Rows) → AreOfChanges (leaving_signals stem rows)
leaving-of stem rows =
    let pass : (b : Bool) → AreOfChanges (cond b (gone_signals stem) []) = elim [ true ↦ (tt, (tt, tt)) | false ↦ tt ] in
    pass (has stem rows)

closing-of : (stem : List ℕ) (rows : Rows) → AreOfChanges (closing_signals stem rows)
closing-of stem rows =
    let pass : (b : Bool) → AreOfChanges (cond b (lock_signals stem true) []) = elim [ true ↦ (tt, (tt, tt)) | false ↦ tt ] in
    pass (is_open stem rows)

shows-of : (stem : List ℕ) (item : ItemId) (it : Change) → AreOfChanges (item_shows stem item it)
shows-of stem item (change.Add label attributes value content replace) = tt
shows-of stem item (change.SetSecret id value content) = tt
shows-of stem item (change.SetLabel id label) = (tt, tt)
shows-of stem item (change.SetAttributes id attributes) = (tt, tt)
shows-of stem item (change.Remove id) = tt
shows-of stem item (change.SetName label) = tt

named-of : (stem : List ℕ) (it : Change) → AreOfChanges (named_signals stem it)
named-of stem (change.Add label attributes value content replace) = tt
named-of stem (change.SetSecret id value content) = tt
named-of stem (change.SetLabel id label) = tt
named-of stem (change.SetAttributes id attributes) = tt
named-of stem (change.Remove id) = tt
named-of stem (change.SetName label) = (tt, (tt, tt))

change-of : (stem : List ℕ) (it : Change) (answer : Changed) → AreOfChanges (change_signals stem it answer)
change-of stem it (changes.Made item) = (tt, (tt, tt))
change-of stem it (changes.Changed item) = (tt, shows-of stem item it)
change-of stem it (changes.Removed item) = (tt, (tt, tt))
change-of stem it changes.Named = named-of stem it

answered-of : (stem : List ℕ) (it : Change) (ended : StoreFate) (answer : Changed) → AreOfChanges (answered_signals stem it ended answer)
answered-of stem it stored.Stored answer = change-of stem it answer
answered-of stem it stored.Before answer = tt
answered-of stem it stored.Unsure answer = (tt, (tt, tt))

store-of : (stem : List ℕ) (it : Change) (ended : StoreFate) (answer : Option Changed) → AreOfChanges (store_signals stem it ended answer)
store-of stem it ended None = tt
store-of stem it ended (Some answer) = answered-of stem it ended answer

erase-of : (stem : List ℕ) (ended : StoreFate) (rows : Rows) → AreOfChanges (erase_signals stem ended rows)
erase-of stem stored.Stored rows = leaving-of stem rows
erase-of stem stored.Before rows = tt
erase-of stem stored.Unsure rows = closing-of stem rows

make-of : (stem : List ℕ) (ended : StoreFate) → AreOfChanges (make_signals stem ended)
make-of stem stored.Stored = (tt, (tt, tt))
make-of stem stored.Before = tt
make-of stem stored.Unsure = (tt, (tt, tt))

rekey-of : (stem : List ℕ) (ended : StoreFate) (rows : Rows) → AreOfChanges (rekey_signals stem ended rows)
rekey-of stem stored.Stored rows = tt
rekey-of stem stored.Before rows = tt
rekey-of stem stored.Unsure rows = closing-of stem rows

demand-of : (brought : Brought) (demand : Demand) (ended : StoreFate) (rows : Rows) → AreOfChanges (demand_signals brought demand ended rows)
demand-of brought (Store stem edit) ended rows = store-of stem (change_of brought.value edit) ended (answered_at stem (change_of brought.value edit) brought.now rows)
demand-of brought (Erase stem) ended rows = erase-of stem ended rows
demand-of brought (Set_alias alias stem) ended rows = tt
demand-of brought (Make stem label terms) ended rows = make-of stem ended
demand-of brought (Rekey stem terms) ended rows = rekey-of stem ended rows

row-found-of : (stem : List ℕ) (found : Found) (row : CollectionRow) → AreOfChanges (row_found_signals stem found row)
row-found-of stem found row =
    let new = told_after found row.clear row.other in
    let same : (b : Bool) → AreOfChanges (cond b [] (label_signals stem new.name)) = elim [ true ↦ tt | false ↦ (tt, (tt, tt)) ] in
    let pass : (b : Bool) → AreOfChanges (cond b (shown_signals stem row.clear new) (gone_signals stem)) =
    elim [ true ↦ same (is_name row.clear.name new.name) | false ↦ (tt, (tt, tt)) ] in
    pass (is_file found row.file)

found-of : (stem : List ℕ) (found : Found) (rows : Rows) → AreOfChanges (found_signals stem found rows)
found-of stem found rows =
    let pass : (o : Option CollectionRow) → AreOfChanges (option_map_or (row_found_signals stem found) o []) = elim [ None ↦ tt | Some row ↦ row-found-of stem found row ] in
    pass (value_at stem rows)

resolve-of : (stem : List ℕ) (ended : ReadFate) (rows : Rows) → AreOfChanges (resolve_signals stem ended rows)
resolve-of stem read.Old rows = found-of stem image.Old rows
resolve-of stem read.New rows = found-of stem image.New rows
resolve-of stem read.Other rows = leaving-of stem rows
resolve-of stem read.ReadFailed rows = tt

reading-of : (reading : Reading) (ended : ReadFate) (rows : Rows) → AreOfChanges (reading_signals reading ended rows)
reading-of Aliases_file ended rows = tt
reading-of (Collection_file stem) ended rows = resolve-of stem ended rows

opening-of : (stem : List ℕ) (opening : Opening) → AreOfChanges (opening_signals stem opening)
opening-of stem ends.Settled = tt
opening-of stem ends.Unfit = tt
opening-of stem ends.WrongPassword = tt
opening-of stem ends.Damaged = tt
opening-of stem ends.Opened = (tt, (tt, tt))

-- what is sent when a collection is to be locked, something is asked of the disk, a file is read again, or a collection is to be unlocked
pub closing-announced : (stem : List ℕ) (rows : Rows) → AreAnnounced (announced (closing_signals stem rows))
closing-announced stem rows = announced-are (closing_signals stem rows) (closing-of stem rows)

pub asked-announced : (brought : Brought) (demand : Demand) (ended : StoreFate) (state : State) → AreAnnounced (sent_asked brought demand ended state)
asked-announced brought demand ended state = announced-are (demand_signals brought demand ended state.collections) (demand-of brought demand ended state.collections)

pub settled-announced : (reading : Reading) (ended : ReadFate) (state : State) → AreAnnounced (sent_settled reading ended state)
settled-announced reading ended state = announced-are (reading_signals reading ended state.collections) (reading-of reading ended state.collections)

pub opened-announced : (brought : Brought) (stem : List ℕ) (terms : KeyTerms) (state : State) → AreAnnounced (sent_opened brought stem terms state)
opened-announced brought stem terms state =
    announced-are (unlock_signals (key_with brought terms) stem state.collections)
    (let pass : (opening : Opening) → AreOfChanges (opening_signals stem opening) = opening-of stem in pass _)

-- ---- their types

store-typed : (brought : Brought) (stem : List ℕ) (edit : Edit) (ended : StoreFate) (rows : Rows) → brought.now < 2 ^ 64 → AreEditTypes brought.value edit → AreSoundCollections rows
    → AreTyped (store_signals stem (change_of brought.value edit) ended (answered_at stem (change_of brought.value edit) brought.now rows))
store-typed brought stem edit ended rows now types sound =
    let answer = answered_at stem (change_of brought.value edit) brought.now rows in
    let pass : (o : Option Changed) → answer ≡ o → AreTyped (store_signals stem (change_of brought.value edit) ended o) =
    elim [
      | None ↦ λ is. tt
      | Some answer ↦ λ is. (let named = answered-named brought.now now edit brought.value types stem rows answer sound is in answered-typed brought.value stem edit ended answer named.0 named.1 types)
    ] in
    pass answer refl

pub closing-signals-typed : (stem : List ℕ) (rows : Rows) → AreSoundCollections rows → AreTyped (closing_signals stem rows)
closing-signals-typed stem rows sound = closing-typed stem rows (open-stem stem rows sound.each)

leaving-signals-typed : (stem : List ℕ) (rows : Rows) → AreSoundCollections rows → AreTyped (leaving_signals stem rows)
leaving-signals-typed stem rows sound = leaving-typed stem rows (has-stem stem rows sound.each)

-- what is asked of the disk, if it has its types
pub store-signals-typed : (brought : Brought) (stem : List ℕ) (edit : Edit) (ended : StoreFate) (rows : Rows) → brought.now < 2 ^ 64 → AreEditTypes brought.value edit → AreSoundCollections rows
    → AreTyped (demand_signals brought (Store stem edit) ended rows)
store-signals-typed brought stem edit ended rows now types sound = store-typed brought stem edit ended rows now types sound

pub erase-signals-typed : (stem : List ℕ) (ended : StoreFate) (rows : Rows) → AreSoundCollections rows → AreTyped (erase_signals stem ended rows)
erase-signals-typed stem ended rows sound = erase-typed stem ended rows (has-stem stem rows sound.each) (open-stem stem rows sound.each)

-- the label of an image that is found
shown-text : (stem : List ℕ) (found : Found) (row : CollectionRow) → IsSoundCollection (stem, row) → IsText (told_after found row.clear row.other).name
shown-text stem image.Old row is = is.shown.label
shown-text stem image.New row is =
    let pass : (o : Option ClearPart) → IfSome o AreShown → IsText (told_after image.New row.clear o).name = elim [ None ↦ λ all. is.shown.label | Some part ↦ λ all. all.label ] in
    pass row.other is.other
shown-text stem image.Other row is = is.shown.label

row-found-typed : (stem : List ℕ) (found : Found) (row : CollectionRow) → IsSoundCollection (stem, row) → AreTyped (row_found_signals stem found row)
row-found-typed stem found row is =
    let new = told_after found row.clear row.other in
    let same : (b : Bool) → AreTyped (cond b [] (label_signals stem new.name)) = elim [ true ↦ tt | false ↦ label-typed stem new.name is.stem (shown-text stem found row is) ] in
    let pass : (b : Bool) → AreTyped (cond b (shown_signals stem row.clear new) (gone_signals stem)) =
    elim [ true ↦ same (is_name row.clear.name new.name) | false ↦ gone-typed stem is.stem ] in
    pass (is_file found row.file)

found-typed : (stem : List ℕ) (found : Found) (rows : Rows) → AreSoundCollections rows → AreTyped (found_signals stem found rows)
found-typed stem found rows sound =
    let pass : (o : Option CollectionRow) → value_at stem rows ≡ o → AreTyped (option_map_or (row_found_signals stem found) o []) =
    elim [ None ↦ λ is. tt | Some row ↦ λ is. row-found-typed stem found row (at-stem IsSoundCollection stem row rows sound.each is) ] in
    pass (value_at stem rows) refl

resolve-typed : (stem : List ℕ) (ended : ReadFate) (rows : Rows) → AreSoundCollections rows → AreTyped (resolve_signals stem ended rows)
resolve-typed stem read.Old rows sound = found-typed stem image.Old rows sound
resolve-typed stem read.New rows sound = found-typed stem image.New rows sound
resolve-typed stem read.Other rows sound = leaving-signals-typed stem rows sound
resolve-typed stem read.ReadFailed rows sound = tt

pub reading-typed : (reading : Reading) (ended : ReadFate) (rows : Rows) → AreSoundCollections rows → AreTyped (reading_signals reading ended rows)
reading-typed Aliases_file ended rows sound = tt
reading-typed (Collection_file stem) ended rows sound = resolve-typed stem ended rows sound

opening-typed : (stem : List ℕ) (opening : Opening) → IsStem stem → AreTyped (opening_signals stem opening)
opening-typed stem ends.Settled is = tt
opening-typed stem ends.Unfit is = tt
opening-typed stem ends.WrongPassword is = tt
opening-typed stem ends.Damaged is = tt
opening-typed stem ends.Opened is = lock-typed stem false is

pub unlock-typed : (key : Inputs) (stem : List ℕ) (rows : Rows) → AreSoundCollections rows → AreTyped (unlock_signals key stem rows)
unlock-typed key stem rows sound =
    let pass : (o : Option CollectionRow) → value_at stem rows ≡ o → AreTyped (opening_signals stem (option_map_or (opening_in key) o ends.Settled)) =
    elim [ None ↦ λ is. tt | Some row ↦ λ is. opening-typed stem (opening_in key row) (at-stem IsSoundCollection stem row rows sound.each is).stem ] in
    pass (value_at stem rows) refl
