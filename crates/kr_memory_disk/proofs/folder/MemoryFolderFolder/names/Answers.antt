use Rattle.std.proofs.Common.{subst, IfOk}
use Rattle.kr_outside.specs.Folder.{Lists}
use Rattle.kr_memory_disk.specs.Files.{image_in}
use Rattle.kr_memory_disk.specs.Folder.{FolderState}
use Rattle.kr_memory_disk.proofs.folder.MemoryFolderFolder.names.Goals as goal

-- the names are those of the folder's files
pub returns-clause-listed : goal.returns-clause-listed
returns-clause-listed c =
    subst (λ (s : FolderState). IfOk c.names_of.result (λ names. Lists c.args.self.now.made (λ name. image_in s.files name) names.items))
    c.self.view_is (c.names_of.ensures.listed c.args.self.now.made)
