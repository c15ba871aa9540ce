use Rattle.std.proofs.Common.{subst, sym}
use Rattle.service_machine.specs.service_tables.specs.State.{State}
use Rattle.service_machine.specs.service_events.specs.Fates.{is_steady}
use Rattle.service_machine.specs.Rows.{rows_of}
use Rattle.service_history.specs.History.{StoresOn, StoresKey}
use Rattle.service_history.specs.Inside.{IsKept, in_window, service_of}
use Rattle.service_history.proofs.HistoryLemmas.{history-sound, keyed}
use Rattle.service_history.proofs.KeptLemmas.{appended, kept-event}
use Rattle.service_history.proofs.service.Service.derived.Goals as goal

-- the state is sound
pub apply-requires-clause-sound : goal.apply-requires-clause-sound
apply-requires-clause-sound g c = history-sound (in_window (rows_of c.self.inside.machine) c.self.inside.window.window) c.self.invariant.0.history

-- there is room for the event, and for those that are sure to come after it
pub invariant_of-self-2 : goal.invariant_of-self-2
invariant_of-self-2 g c = (
  subst (λ (s : State). IsKept s c.commit.new.self) (sym c.in-Ok.ensures.stepped) (kept-event (rows_of c.self.inside.machine) c.self.inside.window.window c.admitted.new.window c.in_ok-next.next
      c.in-Ok.answer.1 c.commit.new.self c.self.invariant.0.history c.in_ok-next.ensures.same c.in_ok-next.ensures.ready c.in_ok-next.ensures.left c.in-Ok.ensures.fits c.commit.ensures.stored c.commit.ensures.spare),
  c.apply.ensures.free,
)

pub returns-clause-history : goal.returns-clause-history
returns-clause-history g c = (invariant_of-self-2 g c).0.history

-- the key is recorded with its fates, and this is what they did to the disk
pub returns-clause-stores : goal.returns-clause-stores
returns-clause-stores g c =
    let slot = g.F.Cell.Slot in
    let folder = g.F.Folder in
    let event = c.in-Ok.answer.1 in
    let old = service_of c.self.inside.machine c.self.inside.window in
    let new = service_of c.apply.new.self c.commit.new.self in
    let its = keyed (is_steady g.F.Folder.is_steady slot.is_steady old.disk)
    (StoresOn folder.is_honest folder.is_steady folder.faults folder.images folder.may_leave folder.made slot.is_honest slot.is_steady slot.faults slot.moment slot.left_since slot.may_leave old new) old.history new.history c.args.brought event c.in-Ok.ensures.recorded c.in-Ok.ensures.fits
    (appended (rows_of c.self.inside.machine) (rows_of c.apply.new.self) c.self.inside.window.window c.admitted.new.window c.in_ok-next.next event c.commit.new.self c.self.invariant.0.history
    c.in_ok-next.ensures.same c.in_ok-next.ensures.ready c.in-Ok.ensures.stepped c.commit.ensures.stored)
    c.in-Ok.ensures.faultless (record { did = c.in-Ok.ensures.disk }) in
    subst (λ s. StoresKey (is_steady g.F.Folder.is_steady slot.is_steady s.disk)
    (StoresOn folder.is_honest folder.is_steady folder.faults folder.images folder.may_leave folder.made slot.is_honest slot.is_steady slot.faults slot.moment slot.left_since slot.may_leave s new) s.history c.args.brought new.history)
    c.self.view_is its
