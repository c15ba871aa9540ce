use Rattle.std.proofs.Common.{refl}
use Rattle.lone_desk.proofs.DeskLemmas.{leaves}
use Rattle.lone_desk.proofs.lone.LoneDeskReadDesk.leave.Goals as goal

pub returns : goal.returns
returns g c = rw (c.leave.ensures.recorded, c.leave.ensures.disk) (leaves c.args.self.now.conn _ c.args.self.now.service.history _ refl)
