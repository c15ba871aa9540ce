use Rattle.machine_laws.proofs.AskedLemmas.{asks_the_agent}
use Rattle.machine_laws.proofs.agent.a_prompt_that_is_asked_is_put_to_the_agent.Goals as goal

-- the change that asks the prompt sends Ask
pub returns : goal.returns
returns c = asks_the_agent
