use Rattle.keyring_seal.proofs.WholeLemmas.{opened_again}
use Rattle.keyring_seal.proofs.seal_laws.a_file_of_a_content_opens_to_it.Goals as goal

pub returns : goal.returns
returns c file key vector content is = opened_again c.a_file_that_is_spelled_so_is_read.ensures c.an_area_that_is_spelled_so_is_read.ensures file key vector content is
