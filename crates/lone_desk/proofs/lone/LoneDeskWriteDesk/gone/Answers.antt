use Rattle.std.proofs.Common.{refl}
use Rattle.lone_desk.proofs.DeskLemmas.{goes}
use Rattle.lone_desk.proofs.lone.LoneDeskWriteDesk.gone.Goals as goal

pub returns : goal.returns
returns g c = rw (c.gone.ensures.recorded, c.gone.ensures.disk) (goes c.args.self.now.conn _ c.args.self.now.service.history _ refl)
