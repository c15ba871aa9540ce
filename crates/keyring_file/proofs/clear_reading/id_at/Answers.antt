use Rattle.keyring_text.specs.FieldReading.{number_at}
use Rattle.keyring_file.proofs.Refusals.{fails-clear}
use Rattle.keyring_file.proofs.clear_reading.id_at.Goals as goal

pub returns-in-Err : goal.returns-in-Err
returns-in-Err c = rw c.clear_refused.ensures (fails-clear c.in-Err.refused (number_at c.args.bytes.now) c.in-Err.ensures)
