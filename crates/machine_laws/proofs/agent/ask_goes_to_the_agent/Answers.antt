use Rattle.machine_laws.proofs.AgentLemmas.{asks_go_to_agent, ask_goes_to_agent}
use Rattle.machine_laws.proofs.agent.ask_goes_to_the_agent.Goals as goal

-- a plan that changes who is the agent changes nothing else
pub returns-clause-each : goal.returns-clause-each
returns-clause-each c = asks_go_to_agent

-- an Ask is one of those
pub returns-clause-any : goal.returns-clause-any
returns-clause-any c = ask_goes_to_agent
