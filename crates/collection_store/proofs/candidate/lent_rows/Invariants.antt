use Rattle.std.proofs.Common.{◌≡◌, ◌++◌, drop, map}
use Rattle.item_store.specs.Rows.{row_of}
use Rattle.collection_store.specs.Preparing.{looked}
use Rattle.collection_store.proofs.LentLemmas.{IsLeft}
use Rattle.collection_store.proofs.PreparedLemmas.{see}
use Rattle.collection_store.proofs.candidate.lent_rows.Given as goal

-- what was borrowed, and what is left
abbrev pub invariant-loop-row : goal.invariant-loop-row
invariant-loop-row l =
    (map see l.lent.items ++ looked l.left (map row_of (drop l.row-index l.rows)) ≡ looked l.items l.fn.rows) ×
    IsLeft l.left (map row_of (drop l.row-index l.rows))
