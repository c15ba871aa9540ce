-- What `store` leaves.
use Rattle.std.specs.Prelude.{◌≡◌, ℕ, List, Contains, Some, codes}
use Rattle.kr_base.specs.Attributes.{value_at}
use Rattle.kr_base.specs.declared.attributes.AttrValue.{AttrValue}
use Rattle.attribute_match.specs.Match.{texts_of}
use Rattle.keyring_seal.specs.Arranged.{Row}
use Rattle.service_events.specs.collection_store.specs.State.{Held}
use Rattle.service_events.specs.collection_table.specs.Rows.{CollectionRow}
use Rattle.service_events.specs.service_tables.specs.Opened.{contents_of}
use Rattle.service_events.specs.service_tables.specs.State.{State}
use Rattle.service_events.specs.service_tables.specs.TablesReading.{alias_of}

-- At the end the collection that had the alias `default` at the beginning is unlocked, and has an item with this label, with exactly these
-- attributes, as they are shown, and with this secret, as plain text.
pub record LeavesItem (name : List ℕ) (given : List (List ℕ × AttrValue)) (secret : List ℕ) (before after : State) : Type 0 where
  pub stem : List ℕ
  pub default : alias_of (codes "default") (contents_of before) ≡ Some stem
  pub row : CollectionRow
  pub at : value_at stem after.collections ≡ Some row
  pub held : Held
  pub unlocked : row.held ≡ Some held
  pub item : Row
  pub there : Contains held.rows item
  pub label : item.1.label ≡ name
  pub attributes : texts_of item.1.attributes ≡ texts_of given
  pub value : item.1.value ≡ secret
  pub content : item.0.content ≡ codes "text/plain"
