use Rattle.machine_laws.proofs.SecretLemmas.{reply, owned, unlocked}
use Rattle.machine_laws.proofs.secrets.a_secret_goes_to_its_sessions_owner.Goals as goal

pub returns-clause-reply : goal.returns-clause-reply
returns-clause-reply c = reply

pub returns-clause-owned : goal.returns-clause-owned
returns-clause-owned c = owned

pub returns-clause-unlocked : goal.returns-clause-unlocked
returns-clause-unlocked c = unlocked
