use Rattle.std.proofs.Common.{ap, ◌∙◌}
use Rattle.daemon.proofs.AcceptLemmas.{goes-home}
use Rattle.daemon.proofs.accepting.turn_away.Goals as goal

-- the writer's desk is of the hub's service also after it recorded that its connection is gone
pub take_back-requires-clause-writer : goal.take_back-requires-clause-writer
take_back-requires-clause-writer g c κs within = goes-home _ _ c.let_go.ensures ∙ (ap (λ j. (g.U.Writer.Desk.told j.writer).home) c.job.view_is ∙ c.requires.writer)

pub returns-clause-away : goal.returns-clause-away
returns-clause-away g c = rw (← c.job.view_is) (c.let_go.result, record { goes = c.let_go.ensures; back = c.take_back.ensures.back })
