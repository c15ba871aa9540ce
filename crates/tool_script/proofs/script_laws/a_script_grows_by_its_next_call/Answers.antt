use Rattle.tool_script.proofs.ScriptLemmas.{grows-sent, grows-ended}
use Rattle.tool_script.proofs.script_laws.a_script_grows_by_its_next_call.Goals as goal

pub returns-clause-sent : goal.returns-clause-sent
returns-clause-sent c = grows-sent

pub returns-clause-ended : goal.returns-clause-ended
returns-clause-ended c = grows-ended
