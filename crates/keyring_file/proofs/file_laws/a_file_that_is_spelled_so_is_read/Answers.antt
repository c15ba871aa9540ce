use Rattle.keyring_file.proofs.FileLaws.{file_again}
use Rattle.keyring_file.proofs.file_laws.a_file_that_is_spelled_so_is_read.Goals as goal

pub returns : goal.returns
returns c = file_again
