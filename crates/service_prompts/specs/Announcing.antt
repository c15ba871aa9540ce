-- The signals of changes, which go to everyone (Secret Service API draft 0.2, the interfaces Service and Collection; D-Bus Specification,
-- "Standard Interfaces", the signal PropertiesChanged; docs/SERVICE.md, "Signals"): by what became of a collection or of an item, and by how
-- the storing or the removal of a file ended.
use Rattle.std.specs.Prelude.{ℕ, Bool, true, if◌then◌else◌, List, [], ◌∷◌, ◌++◌, map, Option, Some, None}
use Rattle.kr_base.specs.declared.ids.ItemId.{ItemId}
use Rattle.kr_names.specs.declared.object_name.ObjectName.TheVariants as name
use Rattle.kr_names.specs.Path.{path_text}
use Rattle.service_tables.specs.collection_store.specs.declared.change.Change.{Change}
use Rattle.service_tables.specs.collection_store.specs.declared.change.Change.TheVariants as change
use Rattle.service_tables.specs.collection_store.specs.declared.change.Changed.{Changed}
use Rattle.service_tables.specs.collection_store.specs.declared.change.Changed.TheVariants as changes
use Rattle.service_tables.specs.collection_table.specs.Rows.{Rows, has, is_open}
use Rattle.service_tables.specs.secret_calls.specs.declared.changed.ChangedObject.{ChangedObject}
use Rattle.service_tables.specs.secret_calls.specs.declared.changed.ChangedObject.TheVariants as object
use Rattle.service_tables.specs.secret_calls.specs.declared.out.Out.TheVariants as out
use Rattle.service_tables.specs.secret_calls.specs.declared.property.Property.{Property}
use Rattle.service_tables.specs.secret_calls.specs.declared.property.Property.TheVariants as property
use Rattle.service_tables.specs.secret_calls.specs.declared.property.PropertyValue.{PropertyValue}
use Rattle.service_tables.specs.secret_calls.specs.declared.property.PropertyValue.TheVariants as shown
use Rattle.service_tables.specs.secret_calls.specs.declared.signal.Signal.{Signal}
use Rattle.service_tables.specs.secret_calls.specs.declared.signal.Signal.TheVariants as signal
use Rattle.service_tables.specs.declared.fate.StoreFate.{StoreFate}
use Rattle.service_tables.specs.declared.fate.StoreFate.TheVariants as fate
use Rattle.service_tables.specs.TablesReading.{shown_attribute}
use Rattle.service_tables.specs.Sent.{Everyone, Sent}

-- a signal goes to everyone
abbrev pub to_everyone : Signal → Sent
to_everyone it = record { to = Everyone; out = out.Signal it }

-- signals go to everyone, in order
abbrev pub announced : List Signal → List Sent
announced signals = map to_everyone signals

-- ---- properties

-- PropertiesChanged of an object, with the new value of the property
abbrev pub shows : ChangedObject → Property → PropertyValue → Signal
shows object it value = signal.PropertiesChanged object (record { property = it; value = value } ∷ []) []

-- PropertiesChanged of an object, with the name of the property alone
abbrev pub renews : ChangedObject → Property → Signal
renews object it = signal.PropertiesChanged object [] (it ∷ [])

-- ---- collections

-- the path of a collection
abbrev pub collection_path : List ℕ → List ℕ
collection_path stem = path_text (name.Collection stem)

-- a collection was made
abbrev pub made_signals : List ℕ → List Signal
made_signals stem = signal.CollectionCreated (collection_path stem) ∷ renews object.Service property.Collections ∷ []

-- a collection is gone
abbrev pub gone_signals : List ℕ → List Signal
gone_signals stem = signal.CollectionDeleted (collection_path stem) ∷ renews object.Service property.Collections ∷ []

-- a collection was locked, or unlocked
abbrev pub lock_signals : List ℕ → Bool → List Signal
lock_signals stem locked =
    signal.CollectionChanged (collection_path stem) ∷ shows (object.Collection (collection_path stem)) property.Locked (shown.Truth locked) ∷ []

-- a collection got this label
abbrev pub label_signals : List ℕ → List ℕ → List Signal
label_signals stem label =
    signal.CollectionChanged (collection_path stem) ∷ shows (object.Collection (collection_path stem)) property.Label (shown.Text label) ∷ []

-- the collection of a stem goes: nothing is sent if there is none
abbrev pub leaving_signals : List ℕ → Rows → List Signal
leaving_signals stem rows = if has stem rows then gone_signals stem else []

-- the collection of a stem gets locked: nothing is sent unless there is one, and it is unlocked
abbrev pub closing_signals : List ℕ → Rows → List Signal
closing_signals stem rows = if is_open stem rows then lock_signals stem true else []

-- the same for the collections of several stems, in order
abbrev pub all_closing_signals : List (List ℕ) → Rows → List Signal
all_closing_signals [] rows = []
all_closing_signals (stem ∷ stems) rows = closing_signals stem rows ++ all_closing_signals stems rows

-- ---- items

-- the path of an item
abbrev pub item_path : List ℕ → ItemId → List ℕ
item_path stem item = path_text (name.Item stem item)

-- an item was made
abbrev pub item_made_signals : List ℕ → ItemId → List Signal
item_made_signals stem item =
    signal.ItemCreated (collection_path stem) (item_path stem item) ∷ renews (object.Collection (collection_path stem)) property.Items ∷ []

-- an item is gone
abbrev pub item_gone_signals : List ℕ → ItemId → List Signal
item_gone_signals stem item =
    signal.ItemDeleted (collection_path stem) (item_path stem item) ∷ renews (object.Collection (collection_path stem)) property.Items ∷ []

-- the property of an item that a change sets, with its value; a secret, and what it is replaced by, are in no signal
abbrev pub item_shows : List ℕ → ItemId → Change → List Signal
item_shows stem item (change.Add label attributes value content replace) = []
item_shows stem item (change.SetSecret id value content) = []
item_shows stem item (change.SetLabel id label) = shows (object.Item (item_path stem item)) property.Label (shown.Text label) ∷ []
item_shows stem item (change.SetAttributes id attributes) =
    shows (object.Item (item_path stem item)) property.Attributes (shown.Attributes (map shown_attribute attributes)) ∷ []
item_shows stem item (change.Remove id) = []
item_shows stem item (change.SetName label) = []

-- an item was changed
abbrev pub item_changed_signals : List ℕ → ItemId → Change → List Signal
item_changed_signals stem item it = signal.ItemChanged (collection_path stem) (item_path stem item) ∷ item_shows stem item it

-- ---- changes of a collection's content

-- a collection got the label that a change sets
abbrev pub named_signals : List ℕ → Change → List Signal
named_signals stem (change.Add label attributes value content replace) = []
named_signals stem (change.SetSecret id value content) = []
named_signals stem (change.SetLabel id label) = []
named_signals stem (change.SetAttributes id attributes) = []
named_signals stem (change.Remove id) = []
named_signals stem (change.SetName label) = label_signals stem label

-- a change was stored that did this
abbrev pub change_signals : List ℕ → Change → Changed → List Signal
change_signals stem it (changes.Made item) = item_made_signals stem item
change_signals stem it (changes.Changed item) = item_changed_signals stem item it
change_signals stem it (changes.Removed item) = item_gone_signals stem item
change_signals stem it changes.Named = named_signals stem it

-- A change that would do this was to be stored, and that ended so: if it isn't known whether it was stored, the collection, which was
-- unlocked, is locked.
abbrev pub answered_signals : List ℕ → Change → StoreFate → Changed → List Signal
answered_signals stem it fate.Stored answer = change_signals stem it answer
answered_signals stem it fate.Before answer = []
answered_signals stem it fate.Unsure answer = lock_signals stem true

-- the same for a change that would do something, if it can be made
abbrev pub store_signals : List ℕ → Change → StoreFate → Option Changed → List Signal
store_signals stem it ended None = []
store_signals stem it ended (Some answer) = answered_signals stem it ended answer

-- ---- whole files

-- the file of a collection was to be removed, and that ended so
abbrev pub erase_signals : List ℕ → StoreFate → Rows → List Signal
erase_signals stem fate.Stored rows = leaving_signals stem rows
erase_signals stem fate.Before rows = []
erase_signals stem fate.Unsure rows = closing_signals stem rows

-- A collection was to be made, and that ended so: if it isn't known whether its file was stored, it is there, and counts as made.
abbrev pub make_signals : List ℕ → StoreFate → List Signal
make_signals stem fate.Stored = made_signals stem
make_signals stem fate.Before = []
make_signals stem fate.Unsure = made_signals stem
