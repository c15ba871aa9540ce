use Rattle.std.proofs.Common.{Bool, sym, subst}
use Rattle.service_desk.specs.Calls.{Takes}
use Rattle.service_desk.specs.Places.{Home}
use Rattle.shared_service.specs.Passes.{spot}
use Rattle.shared_service.proofs.desk.SharedDeskWriteDesk.take.Goals as goal

pub invariant_of-self-clause-legal : goal.invariant_of-self-clause-legal
invariant_of-self-clause-legal g c = c.has_seen_a_history.ensures.legal

pub invariant_of-self-clause-places : goal.invariant_of-self-clause-places
invariant_of-self-clause-places g c = c.has_seen_a_history.ensures.places

-- the pass is of the same service, which is as steady as before
pub returns : goal.returns
returns g c =
    let conn = c.args.self.now.conn in
    let old = c.args.self.now.pass in
    let new = c.take-taken.new.pass in
    subst (λ (home : Home). Takes (spot conn old.home old.steady old.view) (spot conn home new.steady new.view) c.take-taken.result) (sym c.take-taken.ensures.same)
    (subst (λ (steady : Bool). Takes (spot conn old.home old.steady old.view) (spot conn old.home steady new.view) c.take-taken.result) (sym c.take-taken.ensures.steady) c.take-taken.ensures.taken)
