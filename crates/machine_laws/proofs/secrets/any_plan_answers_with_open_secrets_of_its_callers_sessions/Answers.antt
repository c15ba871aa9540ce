use Rattle.machine_laws.proofs.SecretLemmas.{own_run, sends_none}
use Rattle.machine_laws.proofs.secrets.any_plan_answers_with_open_secrets_of_its_callers_sessions.Goals as goal

-- by the kinds of step of a plan
pub returns-clause-answer : goal.returns-clause-answer
returns-clause-answer c = own_run

-- it sends signals alone
pub returns-clause-sends : goal.returns-clause-sends
returns-clause-sends c = sends_none
