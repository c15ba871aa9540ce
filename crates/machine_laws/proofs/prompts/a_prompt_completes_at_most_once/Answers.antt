use Rattle.machine_laws.proofs.CompletionLemmas.{completes_once, over_once_completed, over_once_gone}
use Rattle.machine_laws.proofs.prompts.a_prompt_completes_at_most_once.Goals as goal

-- the events put out no more than what is left, which is one at most
pub returns-clause-once : goal.returns-clause-once
returns-clause-once c = completes_once

-- after one, nothing is left
pub returns-clause-completed : goal.returns-clause-completed
returns-clause-completed c = over_once_completed

-- the only row with the number is one of the owner's
pub returns-clause-owner_gone : goal.returns-clause-owner_gone
returns-clause-owner_gone c = over_once_gone
