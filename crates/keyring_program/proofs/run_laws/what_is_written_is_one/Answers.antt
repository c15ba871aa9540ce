use Rattle.keyring_program.specs.Serves.{handshake_run}
use Rattle.keyring_program.proofs.WrittenLemmas.{one-text, steady-text}
use Rattle.keyring_program.proofs.run_laws.what_is_written_is_one.Goals as goal

pub returns-clause-alike : goal.returns-clause-alike
returns-clause-alike c contents uid seed read rest left one other = one-text c.a_message_is_one_request.ensures.call contents seed (handshake_run uid seed read) one other rest left

-- if no device failed, each storing ended the same way in both
pub returns-clause-faultless : goal.returns-clause-faultless
returns-clause-faultless c contents uid seed read rest left one other = steady-text c.a_message_is_one_request.ensures.call contents seed (handshake_run uid seed read) one other rest left
