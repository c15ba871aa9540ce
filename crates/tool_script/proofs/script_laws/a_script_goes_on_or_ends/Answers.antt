use Rattle.tool_script.proofs.ScriptLemmas.{goes-on, end-stays}
use Rattle.tool_script.proofs.script_laws.a_script_goes_on_or_ends.Goals as goal

pub returns-clause-one : goal.returns-clause-one
returns-clause-one c = goes-on

pub returns-clause-last : goal.returns-clause-last
returns-clause-last c = end-stays
