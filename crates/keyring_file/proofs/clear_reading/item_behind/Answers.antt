use Rattle.keyring_file.specs.FileReading.{clear_item_at}
use Rattle.keyring_file.proofs.Refusals.{fails-clear}
use Rattle.keyring_file.proofs.clear_reading.item_behind.Goals as goal

pub returns-in-Err : goal.returns-in-Err
returns-in-Err c = rw c.clear_refused.ensures (fails-clear c.in-Err.refused (clear_item_at c.args.minor c.args.id c.args.bytes.now) c.in-Err.ensures)
