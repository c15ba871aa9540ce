use Rattle.machine_laws.proofs.OwnerLemmas.{goes_to_one, goes_to_owner}
use Rattle.machine_laws.proofs.prompts.completed_goes_to_the_owner.Goals as goal

-- only the owner's row has the number, and no other row gets it
pub returns-clause-owner : goal.returns-clause-owner
returns-clause-owner c = goes_to_owner

-- it is a signal, and all of them are
pub returns-clause-one : goal.returns-clause-one
returns-clause-one c = goes_to_one
