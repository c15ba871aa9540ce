-- The items that match what is wanted, each by the stem of its collection and its id, in the order of the state's rows: by stem, and those of
-- one collection as it keeps them (Secret Service API draft 0.2, "Lookup Attributes").
use Rattle.std.specs.Prelude.{ℕ, List, [], filter, map, Option, Some, None}
use Rattle.std.specs.List.{flat_map}
use Rattle.kr_base.specs.declared.attributes.AttrValue.{AttrValue}
use Rattle.kr_base.specs.declared.ids.ItemId.{ItemId}
use Rattle.attribute_match.specs.Match.{hashed_matches, matches}
use Rattle.keyring_file.specs.declared.clear.ClearItem.{ClearItem}
use Rattle.keyring_seal.specs.Arranged.{Row}
use Rattle.service_events.specs.collection_store.specs.State.{Held}
use Rattle.service_events.specs.collection_table.specs.Rows.{CollectionRow, Rows}

-- an item, by the stem of its collection and its id
abbrev pub Item : Type 0
Item = List ℕ × ItemId

-- those of a collection, if it is unlocked: by the items' attributes
abbrev pub open_in : List (List ℕ × AttrValue) → List ℕ → Option Held → List Item
open_in wanted stem None = []
open_in wanted stem (Some held) = map (λ (row : Row). (stem, row.0.id)) (filter (λ (row : Row). matches wanted row.1.attributes) held.rows)

-- those of a collection, if it is locked: by the hashes of the items' attributes
abbrev pub locked_in : List (List ℕ × AttrValue) → List ℕ → List ClearItem → Option Held → List Item
locked_in wanted stem items (Some held) = []
locked_in wanted stem items None = map (λ (item : ClearItem). (stem, item.id)) (filter (λ (item : ClearItem). hashed_matches wanted item.hashed) items)

-- the items of unlocked collections that match
abbrev pub open_items : List (List ℕ × AttrValue) → Rows → List Item
open_items wanted rows = flat_map (λ (row : List ℕ × CollectionRow). open_in wanted row.0 row.1.held) rows

-- the items of locked collections that match
abbrev pub locked_items : List (List ℕ × AttrValue) → Rows → List Item
locked_items wanted rows = flat_map (λ (row : List ℕ × CollectionRow). locked_in wanted row.0 row.1.clear.items row.1.held) rows
