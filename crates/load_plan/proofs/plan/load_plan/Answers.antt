use Rattle.std.proofs.Common.{◌≡◌, List, length, ap, subst, sym, ◌∙◌}
use Rattle.std.specs.List.{AllByRecursion}
use Rattle.std.proofs.lemmas.Result.{IfOk-weaker}
use Rattle.client_core.specs.Askable.{IsAskable}
use Rattle.load_plan.proofs.PlanLemmas.{plan-askable, plan-length}
use Rattle.load_plan.proofs.plan.load_plan.Goals as goal

pub returns-clause-count : goal.returns-clause-count
returns-clause-count c = IfOk-weaker c.made.result _ _ (λ calls is. ap length is ∙ plan-length c.args.items c.args.seed) c.made.ensures

pub returns-clause-askable : goal.returns-clause-askable
returns-clause-askable c = IfOk-weaker c.made.result _ _ (λ calls is. subst (AllByRecursion IsAskable) (sym is) (plan-askable c.args.items c.args.seed)) c.made.ensures
