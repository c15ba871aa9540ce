use Rattle.service_history.proofs.WindowLemmas.{output-behind}
use Rattle.service_history.proofs.window_laws.an_answer_is_the_output_at_its_place.Goals as goal

pub returns : goal.returns
returns c = output-behind
