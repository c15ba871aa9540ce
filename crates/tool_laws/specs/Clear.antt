-- What `clear` leaves of the items that match.
use Rattle.std.specs.Prelude.{◌≡◌, false, List}
use Rattle.std.specs.List.{AllByRecursion}
use Rattle.service_events.specs.collection_table.specs.Rows.{Rows, has_item}
use Rattle.tool_laws.specs.Matches.{Item}

-- none of these items is there, whether its collection is unlocked or locked
abbrev pub AreGone : Rows → List Item → Type 0
AreGone rows items = AllByRecursion (λ (item : Item). has_item item.0 item.1.0 rows ≡ false) items
