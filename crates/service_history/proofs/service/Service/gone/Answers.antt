use Rattle.std.proofs.Common.{subst, sym}
use Rattle.service_machine.specs.service_disk.specs.Making.{AreFree}
use Rattle.service_machine.specs.Rows.{rows_of}
use Rattle.service_history.proofs.KeptLemmas.{sure-gone}
use Rattle.service_history.proofs.service.Service.gone.Goals as goal

-- a connection that is there is sure to go
pub gone-requires : goal.gone-requires
gone-requires g c = (sure-gone c.args.conn _ (rows_of c.self.inside.machine) c.self.inside.window c.self.invariant.0 c.in-Some.ensures).fits

pub push-requires-clause-room : goal.push-requires-clause-room
push-requires-clause-room g c = (sure-gone c.args.conn _ (rows_of c.self.inside.machine) c.self.inside.window c.self.invariant.0 c.in-Some.ensures).room

pub push-requires-clause-counted : goal.push-requires-clause-counted
push-requires-clause-counted g c = (sure-gone c.args.conn _ (rows_of c.self.inside.machine) c.self.inside.window c.self.invariant.0 c.in-Some.ensures).counted

pub invariant_of-self : goal.invariant_of-self
invariant_of-self g c = (
  rw c.gone.ensures.stepped
      ((sure-gone c.args.conn _ (rows_of c.self.inside.machine) c.self.inside.window c.self.invariant.0 c.in-Some.ensures).kept c.push.new.self c.push.ensures.stored c.push.ensures.spare),
  (let folder = g.F.Folder in let slot = g.F.Cell.Slot in
      subst (λ d. AreFree folder.is_honest folder.images folder.may_leave folder.made slot.is_honest slot.may_leave d) (sym c.gone.ensures.disk) c.self.invariant.1),
)

pub returns-clause-history : goal.returns-clause-history
returns-clause-history g c = (invariant_of-self g c).0.history
