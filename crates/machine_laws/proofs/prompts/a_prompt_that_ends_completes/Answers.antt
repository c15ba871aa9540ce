use Rattle.machine_laws.proofs.CompletionLemmas.{completes_at_its_end}
use Rattle.machine_laws.proofs.prompts.a_prompt_that_ends_completes.Goals as goal

-- what isn't left any more was put out
pub returns : goal.returns
returns c = completes_at_its_end
