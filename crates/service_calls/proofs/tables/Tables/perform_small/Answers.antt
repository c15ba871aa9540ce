use Rattle.std.proofs.Common.{sym, subst}
use Rattle.service_events.specs.CollectionCalls.{storing}
use Rattle.service_events.specs.service_tables.specs.Storing.{storable_at}
use Rattle.service_calls.specs.Done.{Leads}
use Rattle.service_calls.specs.Effect.{Plans}
use Rattle.service_calls.specs.Rows.{disk_of, rows_of}
use Rattle.service_calls.proofs.LeadsLemmas.{leads-as, map-ok}
use Rattle.service_calls.proofs.tables.Tables.perform_small.Goals as goal

-- collections are locked
pub returns-in-Lock-clause-leads : goal.returns-in-Lock-clause-leads
returns-in-Lock-clause-leads g c =
    let folder = g.F.Folder in
    let slot = g.F.Cell.Slot in
    let conn = c.args.conn in
    let old = rows_of c.args.self.now in
    map-ok c.lock_small.result _ _
    (λ done leads brought its plan is planned. leads-as folder.is_honest folder.is_steady folder.faults folder.images folder.may_leave folder.made slot.is_honest slot.is_steady slot.faults slot.moment slot.left_since slot.may_leave conn brought old _ _ _ plan _ done
    (subst (λ e. Plans conn brought old its e plan) c.in-Lock.is planned) (leads brought its is))
    c.lock_small.ensures.leads

-- a prompt begins
pub returns-in-Begin-clause-leads : goal.returns-in-Begin-clause-leads
returns-in-Begin-clause-leads g c =
    let folder = g.F.Folder in
    let slot = g.F.Cell.Slot in
    let conn = c.args.conn in
    let old = rows_of c.args.self.now in
    map-ok c.begin_small.result _ _
    (λ done leads brought its plan is planned. leads-as folder.is_honest folder.is_steady folder.faults folder.images folder.may_leave folder.made slot.is_honest slot.is_steady slot.faults slot.moment slot.left_since slot.may_leave conn brought old _ _ _ plan _ done
    (subst (λ e. Plans conn brought old its e plan) c.in-Begin.is planned) (leads brought its is))
    c.begin_small.ensures.leads

-- an edit is stored
pub returns-in-Store-clause-leads : goal.returns-in-Store-clause-leads
returns-in-Store-clause-leads g c =
    let folder = g.F.Folder in
    let slot = g.F.Cell.Slot in
    let conn = c.args.conn in
    let old = rows_of c.args.self.now in
    let disk = disk_of c.args.self.now in
    let new = c.store_small.new.self in
    map-ok c.store_small.result _ _
    (λ done leads brought its plan is planned.
    let at = subst (λ e. Plans conn brought old its e plan) c.in-Store.is planned in
    leads-as folder.is_honest folder.is_steady folder.faults folder.images folder.may_leave folder.made slot.is_honest slot.is_steady slot.faults slot.moment slot.left_since slot.may_leave conn brought old _ disk _ plan _ done at.3
    (subst (λ n. Leads folder.is_honest folder.is_steady folder.faults folder.images folder.may_leave folder.made slot.is_honest slot.is_steady slot.faults slot.moment slot.left_since slot.may_leave conn (record { now = n; value = brought.value })
    (storing c.in-Store.stem.now at.0 (λ _. its) (storable_at c.in-Store.stem.now c.in-Store.change c.in-Store.now old.collections)) old (rows_of new) disk (disk_of new) done)
    (sym at.2) (leads at.0 brought.value its is at.1)))
    c.store_small.ensures.leads
