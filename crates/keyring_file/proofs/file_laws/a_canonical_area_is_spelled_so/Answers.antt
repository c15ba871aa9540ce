use Rattle.keyring_file.proofs.ByteLemmas.{area-bytes}
use Rattle.keyring_file.proofs.CanonicalLaws.{area-written}
use Rattle.keyring_file.proofs.file_laws.a_canonical_area_is_spelled_so.Goals as goal

pub returns-clause-text : goal.returns-clause-text
returns-clause-text c = area-written

pub returns-clause-bytes : goal.returns-clause-bytes
returns-clause-bytes c = area-bytes
