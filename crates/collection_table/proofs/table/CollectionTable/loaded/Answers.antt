use Rattle.std.proofs.Common.{subst}
use Rattle.std.specs.Cmp.Lexicographic.{slice_cmp}
use Rattle.std.specs.List.Sorted.{IsStrictlySortedBy}
use Rattle.std.specs.Ordering.{nat_cmp}
use Rattle.collection_table.proofs.RowLemmas.{keys-loaded}
use Rattle.collection_table.proofs.table.CollectionTable.loaded.Goals as goal

-- the stems are those of the files
pub invariant_of-result : goal.invariant_of-result
invariant_of-result g c = rw c.in_ok-entries.ensures (subst (λ l. IsStrictlySortedBy (slice_cmp nat_cmp) l) (keys-loaded c.args.rings.items) c.requires)
