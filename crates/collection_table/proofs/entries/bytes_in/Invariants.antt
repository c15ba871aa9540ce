use Rattle.std.proofs.Common.{◌≡◌, min, take}
use Rattle.collection_table.specs.Entries.{rows_of}
use Rattle.collection_table.specs.Rows.{bytes_in, most}
use Rattle.collection_table.proofs.entries.bytes_in.Given as goal

-- the bytes of the collections that were counted
abbrev pub invariant-loop-place : goal.invariant-loop-place
invariant-loop-place g l = l.count ≡ min (bytes_in (rows_of (take l.place l.entries))) most
