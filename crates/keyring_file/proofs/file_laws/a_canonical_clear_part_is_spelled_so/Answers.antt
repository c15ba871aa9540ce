use Rattle.keyring_file.proofs.CanonicalLaws.{clear-written}
use Rattle.keyring_file.proofs.file_laws.a_canonical_clear_part_is_spelled_so.Goals as goal

pub returns : goal.returns
returns c = clear-written
