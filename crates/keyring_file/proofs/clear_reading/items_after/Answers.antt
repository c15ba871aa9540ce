use Rattle.keyring_file.proofs.Plain.{of_version}
use Rattle.keyring_file.proofs.clear_reading.items_after.Goals as goal

pub clear_of-clear-requires : goal.clear_of-clear-requires
clear_of-clear-requires c = rw c.new.ensures (of_version c.args.minor c.in_ok-salt.rest.now c.in_ok-items.items.items c.in_ok-items.rest.now c.requires c.in_ok-items.ensures)
