-- What a change of a collection answers, and what it makes of the collection's row.
use Rattle.std.specs.Prelude.{ℕ, List, Option, Result, Ok, Err}
use Rattle.std.specs.Option.{option_and_then, option_map, option_map_or}
use Rattle.kr_base.specs.Attributes.{value_at}
use Rattle.item_store.specs.declared.fault.ItemFault.{ItemFault}
use Rattle.keyring_seal.specs.declared.content.Content.{Content}
use Rattle.collection_store.specs.Changes.{content_changed}
use Rattle.collection_store.specs.State.{Held}
use Rattle.collection_store.specs.Storable.{storable}
use Rattle.collection_store.specs.declared.change.Change.{Change}
use Rattle.collection_store.specs.declared.change.Changed.{Changed}
use Rattle.collection_store.specs.declared.refused.ChangeRefused.{ChangeRefused}
use Rattle.collection_table.specs.Rows.{CollectionRow, Rows, perhaps_stored, room_in, stored}

-- what a change answers if it is stored, or why it isn't; None if there is no collection of the stem, or it is locked
abbrev pub storable_at : List ℕ → Change → ℕ → Rows → Option (Result Changed ChangeRefused)
storable_at stem change now rows =
    option_and_then (λ row. option_map (λ held. storable change now (room_in rows) row.file row.clear held) row.held) (value_at stem rows)

-- the row with what a change comes to, once it is stored
abbrev pub made_stored : Held → CollectionRow → Result (Content × Changed) ItemFault → CollectionRow
made_stored held row (Ok made) = stored made.0 held.key held.vector
made_stored held row (Err fault) = row

-- the same, if it isn't known whether it was stored
abbrev pub made_perhaps : Held → CollectionRow → Result (Content × Changed) ItemFault → CollectionRow
made_perhaps held row (Ok made) = perhaps_stored made.0 held.key held.vector row
made_perhaps held row (Err fault) = row

-- the row of an unlocked collection after a change that was stored
abbrev pub after_change : Change → ℕ → CollectionRow → CollectionRow
after_change change now row = option_map_or (λ held. made_stored held row (content_changed change now row.clear held.rows)) row.held row

-- the same, if it isn't known whether it was stored
abbrev pub after_unsure : Change → ℕ → CollectionRow → CollectionRow
after_unsure change now row = option_map_or (λ held. made_perhaps held row (content_changed change now row.clear held.rows)) row.held row
