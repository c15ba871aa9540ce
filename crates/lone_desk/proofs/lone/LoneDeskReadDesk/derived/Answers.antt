use Rattle.lone_desk.proofs.DeskLemmas.{finishes-stored}
use Rattle.lone_desk.proofs.lone.LoneDeskReadDesk.derived.Goals as goal

-- a derived key that the service took was recorded
pub returns-clause-recorded : goal.returns-clause-recorded
returns-clause-recorded g c = rw c.derived.ensures.steady (finishes-stored c.args.self.now.conn _ _ c.args.self.now.service.history _ _ c.derived.result c.derived.ensures.stores c.derived.ensures.not_spent)
