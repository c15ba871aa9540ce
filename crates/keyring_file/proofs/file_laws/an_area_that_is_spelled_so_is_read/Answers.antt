use Rattle.keyring_file.proofs.AreaLaws.{area_again}
use Rattle.keyring_file.proofs.file_laws.an_area_that_is_spelled_so_is_read.Goals as goal

pub returns : goal.returns
returns c = area_again
