use Rattle.std.proofs.Common.{sym, subst}
use Rattle.kr_memory_disk.specs.Files.{HasDistinctNames}
use Rattle.kr_memory_disk.proofs.FileLemmas.{distinct_none}
use Rattle.kr_memory_disk.proofs.files.Files.new.Goals as goal

-- there is no name
pub invariant_of-result : goal.invariant_of-result
invariant_of-result c = subst HasDistinctNames (sym c.new.ensures.items) distinct_none
