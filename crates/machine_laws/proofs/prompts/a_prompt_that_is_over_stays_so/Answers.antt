use Rattle.machine_laws.proofs.CompletionLemmas.{over_for_good, over_is_silent}
use Rattle.machine_laws.proofs.prompts.a_prompt_that_is_over_stays_so.Goals as goal

-- what is left never grows
pub returns-clause-over : goal.returns-clause-over
returns-clause-over c = over_for_good

-- and where nothing is left, nothing can be put out
pub returns-clause-silent : goal.returns-clause-silent
returns-clause-silent c = over_is_silent
