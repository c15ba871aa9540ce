use Rattle.keyring_seal.specs.Arranged.{arranged}
use Rattle.keyring_seal.specs.Whole.{sealed}
use Rattle.keyring_seal.proofs.FileLemmas.{sealed_is_file}
use Rattle.keyring_seal.proofs.seal_laws.what_is_sealed_opens.Goals as goal

pub returns-clause-file : goal.returns-clause-file
returns-clause-file c content key vector known can bytes small = sealed_is_file content can known key vector small bytes

pub returns-clause-opens : goal.returns-clause-opens
returns-clause-opens c content key vector known can bytes small =
    c.a_file_of_a_content_opens_to_it.ensures (sealed content key vector) key vector (arranged content) (sealed_is_file content can known key vector small bytes)
