use Rattle.std.proofs.Common.{rules, ap, ◌∙◌}
use Rattle.service_desk.specs.service_tables.specs.State.{State}
use Rattle.service_desk.specs.service_events.specs.Step.{step}
use Rattle.service_desk.specs.service_events.specs.declared.event.Event.TheVariants as event
use Rattle.service_history.specs.History.{History}
use Rattle.service_history.proofs.HistoryLemmas.{history-sound}
use Rattle.lone_desk.proofs.DeskLemmas.{counts-stored, same-refusal, state-cut}
use Rattle.lone_desk.proofs.lone.LoneDesk.join.Goals as goal

-- a cut changes no state
pub returns-in-Ok-clause-joined : goal.returns-in-Ok-clause-joined
returns-in-Ok-clause-joined g c =
    ap (λ (h : History). h.state) c.in-Ok.ensures.stores.appends ∙ ap (λ (s : State). step s (event.Connect c.in-Ok.conn)) (state-cut c.args.service.history)

-- every service's state is sound
pub returns-in-Ok-clause-sound : goal.returns-in-Ok-clause-sound
returns-in-Ok-clause-sound g c = history-sound c.join.new.self.history c.join.ensures.history

pub returns-in-Ok-clause-count : goal.returns-in-Ok-clause-count
returns-in-Ok-clause-count g c = counts-stored c.args.service.history c.join.new.self.history (event.Connect c.in-Ok.conn) c.in-Ok.ensures.stores

pub returns-in-Err-clause-crowded : goal.returns-in-Err-clause-crowded
returns-in-Err-clause-crowded g c = λ is. c.in-Err.ensures.crowded (search rules)

pub returns-in-Err-clause-not_spent : goal.returns-in-Err-clause-not_spent
returns-in-Err-clause-not_spent g c = λ other. c.in-Err.ensures.not_spent (λ e. other (same-refusal _ _ e))
