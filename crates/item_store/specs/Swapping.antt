-- Parts of an item that are swapped for others.
use Rattle.std.specs.Prelude.{Option, Some, None}
use Rattle.keyring_file.specs.declared.area.FullItem.{FullItem}
use Rattle.item_store.specs.declared.swapping.Swap.{Swap}

-- the other one, if there is one
abbrev pub or_that : {A : Type 0} → Option A → A → A
or_that None own = own
or_that (Some other) own = other

-- the item with these parts in place of its own
abbrev pub with_parts : Swap → FullItem → FullItem
with_parts parts item = record item { label = or_that parts.label item.label; value = or_that parts.value item.value; modified = parts.modified }
