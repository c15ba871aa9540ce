use Rattle.service_desk.proofs.ViewLemmas.{answer-behind}
use Rattle.service_desk.proofs.view_laws.an_answer_stands_at_its_place.Goals as goal

pub returns : goal.returns
returns c = answer-behind
