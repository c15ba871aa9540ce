use Rattle.std.proofs.Common.{refl}
use Rattle.lone_desk.proofs.DeskLemmas.{takes}
use Rattle.lone_desk.proofs.lone.LoneDeskWriteDesk.take.Goals as goal

pub returns : goal.returns
returns g c = rw (c.take.ensures.given, c.take.ensures.recorded, c.take.ensures.disk) (takes c.args.self.now.conn _ c.args.self.now.service.history _ refl)
