use Rattle.service_disk.proofs.RekeyingLemmas.{items-kept}
use Rattle.service_disk.proofs.rekeying.a_new_key_keeps_the_items.Goals as goal

-- what is stored has the rows that the collection holds
pub returns : goal.returns
returns c = items-kept
