use Rattle.keyring_text.proofs.SeenLemmas.{fails-bind}
use Rattle.keyring_file.specs.FileReading.{front_at, limited_at, in_clear}
use Rattle.keyring_file.proofs.Refusals.{fails-clear}
use Rattle.keyring_file.proofs.clear_reading.limited_at.Goals as goal

pub returns-in-Err : goal.returns-in-Err
unfolding limited_at
returns-in-Err c = rw c.clear_refused.ensures (fails-bind _ (in_clear (front_at c.args.bytes.now)) _ (fails-clear c.in-Err.refused (front_at c.args.bytes.now) c.in-Err.ensures))
