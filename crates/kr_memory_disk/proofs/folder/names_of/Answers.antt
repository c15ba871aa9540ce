use Rattle.std.proofs.Common.{sym, subst, List, ℕ}
use Rattle.kr_outside.specs.Folder.{Lists}
use Rattle.kr_memory_disk.specs.Files.{image_in}
use Rattle.kr_memory_disk.proofs.FileLemmas.{lists_names}
use Rattle.kr_memory_disk.proofs.folder.names_of.Goals as goal

-- each name is listed once, exactly if it stands for a file
pub returns-in-Ok-clause-listed : goal.returns-in-Ok-clause-listed
returns-in-Ok-clause-listed c made = subst (λ (names : List (List ℕ)). Lists made (λ name. image_in c.args.files.now name) names) (sym c.in-Ok.ensures.names) (lists_names made c.args.files.now c.in-Ok.ensures.distinct)
