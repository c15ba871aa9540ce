use Rattle.keyring_file.proofs.AreaLaws.{area_found}
use Rattle.keyring_file.proofs.file_laws.an_area_that_is_read_is_spelled_so.Goals as goal

pub returns : goal.returns
returns c = area_found
