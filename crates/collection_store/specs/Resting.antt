-- The items after a change has been prepared, until the file has been replaced or hasn't.
use Rattle.item_store.specs.Rows.{Row as StoreRow, Rows, rows_changed, rows_without}
use Rattle.item_store.specs.Swapping.{with_parts}
use Rattle.collection_store.specs.declared.rest.Rest.{Rest}
use Rattle.collection_store.specs.declared.rest.Rest.TheVariants as rest

-- the items of the new file
abbrev pub finished : Rest → Rows → Rows
finished rest.Same items = items
finished (rest.Swapped id parts) items = items
finished (rest.Added id) items = items
finished (rest.Leaving id) items = rows_without id.0 items
finished (rest.Moved moving) items = moving.after

-- the items of the old file
abbrev pub undone : Rest → Rows → Rows
undone rest.Same items = items
undone (rest.Swapped id parts) items = rows_changed id.0 (λ (row : StoreRow). record row { item = with_parts parts row.item }) items
undone (rest.Added id) items = rows_without id.0 items
undone (rest.Leaving id) items = items
undone (rest.Moved moving) items = moving.before
