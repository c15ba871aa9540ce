use Rattle.tool_laws.proofs.StepLemmas.{ended-print, steps-answered}
use Rattle.tool_laws.proofs.conversations.answered_steps_are_those_of_the_script.Goals as goal

pub returns : goal.returns
returns c = record { calls = steps-answered; ends = ended-print }
