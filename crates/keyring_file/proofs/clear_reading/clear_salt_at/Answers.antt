use Rattle.keyring_file.specs.FileReading.{salt_at}
use Rattle.keyring_file.proofs.Refusals.{fails-clear}
use Rattle.keyring_file.proofs.clear_reading.clear_salt_at.Goals as goal

pub returns-in-Err-clause-read : goal.returns-in-Err-clause-read
returns-in-Err-clause-read c = rw c.clear_refused.ensures (fails-clear c.in-Err.refused (salt_at c.args.bytes.now) c.in-Err.ensures.read)
