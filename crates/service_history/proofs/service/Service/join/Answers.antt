use Rattle.service_machine.specs.service_disk.specs.Making.{AreFree}
use Rattle.std.proofs.Common.{◌<◌, arith, subst, sym}
use Rattle.service_machine.specs.service_tables.specs.State.{State}
use Rattle.service_machine.specs.service_tables.specs.Limits.{most_events}
use Rattle.service_machine.specs.Rows.{rows_of}
use Rattle.service_machine.specs.service_events.specs.declared.event.Event.TheVariants as event
use Rattle.service_history.specs.Inside.{IsKept}
use Rattle.service_history.specs.Windows.{total}
use Rattle.service_history.proofs.KeptLemmas.{kept-event, kept-same}
use Rattle.service_history.proofs.service.Service.join.Goals as goal

-- there is room for the event, and for those that are sure to come after it
pub invariant_of-self-2 : goal.invariant_of-self-2
invariant_of-self-2 g c =
    let left : total c.self.inside.window.window < most_events = omega (arith, c.if-total-ge-LIMIT.false, c.total.ensures) in (
      subst (λ (s : State). IsKept s c.commit.new.self) (sym c.in_ok-conn.ensures.stepped) (kept-event (rows_of c.self.inside.machine) c.self.inside.window.window c.prepare.new.self c.in_ok-next.next (event.Connect c.in_ok-conn.conn) c.commit.new.self
          c.self.invariant.0.history c.in_ok-next.ensures.same c.in_ok-next.ensures.ready left c.in_ok-conn.ensures.fits c.commit.ensures.stored c.commit.ensures.spare),
      (let folder = g.F.Folder in let slot = g.F.Cell.Slot in
          subst (λ d. AreFree folder.is_honest folder.images folder.may_leave folder.made slot.is_honest slot.may_leave d) (sym c.join.ensures.disk) c.self.invariant.1),
    )

pub returns-clause-history : goal.returns-clause-history
returns-clause-history g c = (invariant_of-self-2 g c).0.history

-- nothing has happened if memory ran out
pub invariant_of-self-in_err-conn : goal.invariant_of-self-in_err-conn
invariant_of-self-in_err-conn g c = (
  subst (λ (s : State). IsKept s c.prepare.new.self) (sym c.in_err-conn.ensures.unchanged)
      (kept-same (rows_of c.self.inside.machine) c.self.inside.window c.prepare.new.self c.self.invariant.0 c.prepare.ensures.same c.prepare.ensures.spare),
  (let folder = g.F.Folder in let slot = g.F.Cell.Slot in
      subst (λ d. AreFree folder.is_honest folder.images folder.may_leave folder.made slot.is_honest slot.may_leave d) (sym c.join.ensures.disk) c.self.invariant.1),
)
