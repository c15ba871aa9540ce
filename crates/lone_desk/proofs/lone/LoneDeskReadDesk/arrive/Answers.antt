use Rattle.lone_desk.proofs.DeskLemmas.{arrives-stored}
use Rattle.lone_desk.proofs.lone.LoneDeskReadDesk.arrive.Goals as goal

-- a request that the service took was recorded
pub returns-clause-recorded : goal.returns-clause-recorded
returns-clause-recorded g c = rw c.arrive.ensures.steady (arrives-stored c.args.self.now.conn _ _ c.args.self.now.service.history _ _ c.arrive.result c.arrive.ensures.stores c.arrive.ensures.not_spent)
