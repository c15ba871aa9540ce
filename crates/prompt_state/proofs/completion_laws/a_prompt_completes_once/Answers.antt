use Rattle.prompt_state.proofs.OnceLemmas.{once}
use Rattle.prompt_state.proofs.completion_laws.a_prompt_completes_once.Goals as goal

pub returns : goal.returns
returns c = once
