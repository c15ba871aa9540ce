-- The collections of a service as plain rows, each with its stem, by rising stems in byte order (Secret Service API draft 0.2,
-- interfaces Service, Collection and Item).
use Rattle.std.specs.Prelude.{◌≡◌, ℕ, ◌+◌, ◌-◌, Bool, false, List, [], ◌∷◌, map, min, nat_eq, nat_le, Option, None, Some}
use Rattle.std.specs.List.{list_any, sum_by}
use Rattle.std.specs.Option.{is_some, option_map_or}
use Rattle.kr_base.specs.Attributes.{value_at}
use Rattle.kr_base.specs.declared.attributes.AttrValue.{AttrValue}
use Rattle.replace_slot.specs.Cell.{File, Known, Doubt, longest_of, old_image}
use Rattle.keyring_file.specs.Clear.{ClearPart}
use Rattle.keyring_file.specs.declared.area.FullItem.{FullItem}
use Rattle.keyring_seal.specs.Arranged.{rows as rows_of_content}
use Rattle.keyring_seal.specs.Whole.{sealed}
use Rattle.keyring_seal.specs.declared.content.Content.{Content}
use Rattle.folder_store.specs.Limits.{the_limits}
use Rattle.collection_store.specs.CollectionReading.{content_at, found, item_at}
use Rattle.collection_store.specs.State.{HasMostItems, Held, most_items}
use Rattle.collection_table.specs.declared.matches.Matches.{Matches}

-- a collection without its slot: what is known of its file, the clear part that is shown, the other one of a doubt between two files,
-- and what it keeps while it is unlocked
pub record CollectionRow : Type 0 where
  pub file : File
  pub clear : ClearPart
  pub other : Option ClearPart
  pub held : Option Held

-- each collection with its stem
abbrev pub Rows : Type 0
Rows = List (List ℕ × CollectionRow)

-- ---- what is asked

-- whether there is a collection of the stem that passes a test
abbrev pub passes : List ℕ → (CollectionRow → Bool) → Rows → Bool
passes stem test rows = option_map_or test (value_at stem rows) false

-- whether there is a collection of the stem
abbrev pub has : List ℕ → Rows → Bool
has stem rows = is_some (value_at stem rows)

-- whether the collection is unlocked
abbrev pub is_unlocked : CollectionRow → Bool
is_unlocked row = is_some row.held

-- whether there is a collection of the stem, and it is unlocked
abbrev pub is_open : List ℕ → Rows → Bool
is_open stem rows = passes stem is_unlocked rows

-- whether the collection shows an item of the id
abbrev pub shows_item : ℕ → CollectionRow → Bool
shows_item id row = list_any (λ item. nat_eq item.id.0 id) row.clear.items

-- whether there is a collection of the stem, and it shows an item of the id, locked or not
abbrev pub has_item : List ℕ → ℕ → Rows → Bool
has_item stem id rows = passes stem (shows_item id) rows

-- the content type of an item, which is always shown
abbrev pub content_of : List ℕ → ℕ → Rows → Option (List ℕ)
content_of stem id rows = option_map_or (λ row. content_at id row.clear.items) (value_at stem rows) None

-- an item, which only an unlocked collection shows
abbrev pub item_of : List ℕ → ℕ → Rows → Option FullItem
item_of stem id rows = option_map_or (λ row. item_at id row.held) (value_at stem rows) None

-- what a search finds in one collection: its stem, whether it is unlocked, and the ids that match
abbrev pub found_in : List (List ℕ × AttrValue) → List ℕ × CollectionRow → Matches
found_in wanted row = record {
  stem = row.0;
  is_open = is_unlocked row.1;
  ids = map (λ id. record { 0 = id }) (found wanted row.1.clear row.1.held);
}

-- what a search finds in all collections
abbrev pub found_in_all : List (List ℕ × AttrValue) → Rows → List Matches
found_in_all wanted rows = map (found_in wanted) rows

-- ---- how much there is

-- the greatest number that a count reaches
abbrev pub most : ℕ
most = 18446744073709551615

-- all collections together have this many items; one in doubt has the greater number of its two images
abbrev pub AddUp : Rows → ℕ → Type 0
AddUp [] total = total ≡ 0
AddUp (row ∷ rows) total = (one : ℕ) × (others : ℕ) × HasMostItems row.1.file one × AddUp rows others × (total ≡ one + others)

-- this many items are counted
abbrev pub HaveItems : Rows → ℕ → Type 0
HaveItems rows count = (total : ℕ) × AddUp rows total × (count ≡ min total most)

-- the number of items of all collections together; one in doubt has the greater number of its two images
abbrev pub items_in : Rows → ℕ
items_in rows = sum_by (λ row. most_items row.1.file row.1.clear row.1.other) rows

-- all collections' files together have this many bytes; one in doubt has those of its longer image
abbrev pub bytes_in : Rows → ℕ
bytes_in rows = sum_by (λ row. longest_of row.1.file) rows

-- how many bytes all collections' files together may still grow by
abbrev pub room_in : Rows → ℕ
room_in rows = the_limits.all_files - bytes_in rows

-- whether there are as many items in all collections together as there may be
abbrev pub is_full : Rows → Bool
is_full rows = nat_le the_limits.items (items_in rows)

-- ---- what changes

-- a collection once it is locked
abbrev pub locked : CollectionRow → CollectionRow
locked row = record row { held = None }

-- a collection once this content is stored under the key and the vector
abbrev pub stored : Content → List ℕ → List ℕ → CollectionRow
stored content key vector = record {
  file = Known (Some (sealed content key vector));
  clear = content.clear;
  other = None;
  held = Some (record { key = key; vector = vector; rows = rows_of_content content });
}

-- a collection, if it isn't known whether this content was stored: it is locked
abbrev pub perhaps_stored : Content → List ℕ → List ℕ → CollectionRow → CollectionRow
perhaps_stored content key vector row = record {
  file = Doubt (old_image row.file) (Some (sealed content key vector));
  clear = row.clear;
  other = Some content.clear;
  held = None;
}

-- a collection, if it isn't known whether its file was removed: it is locked
abbrev pub perhaps_removed : CollectionRow → CollectionRow
perhaps_removed row = record { file = Doubt (old_image row.file) None; clear = row.clear; other = None; held = None }
