use Rattle.keyring_file.proofs.FileLaws.{file_found}
use Rattle.keyring_file.proofs.file_laws.a_file_that_is_read_is_spelled_so.Goals as goal

pub returns : goal.returns
returns c = file_found
