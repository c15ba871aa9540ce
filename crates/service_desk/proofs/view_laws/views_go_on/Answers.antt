use Rattle.service_desk.proofs.ViewLemmas.{view-others, view-own}
use Rattle.service_desk.proofs.view_laws.views_go_on.Goals as goal

pub returns-clause-others : goal.returns-clause-others
returns-clause-others c = view-others

pub returns-clause-own : goal.returns-clause-own
returns-clause-own c = view-own
