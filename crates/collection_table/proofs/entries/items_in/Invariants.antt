use Rattle.std.proofs.Common.{◌≡◌, min, take}
use Rattle.collection_table.specs.Entries.{rows_of}
use Rattle.collection_table.specs.Rows.{HaveItems, items_in, most}
use Rattle.collection_table.proofs.entries.items_in.Given as goal

-- the items of the collections that were counted
abbrev pub invariant-loop-place : goal.invariant-loop-place
invariant-loop-place g l =
    (l.count ≡ min (items_in (rows_of (take l.place l.entries))) most)
    × HaveItems (rows_of (take l.place l.entries)) l.count
