use Rattle.std.proofs.Common.{◌≡◌, Some, sym, ap, ◌∙◌}
use Rattle.service_events.specs.collection_store.specs.declared.change.Change.TheVariants as change
use Rattle.service_events.specs.service_tables.specs.Objects.{collection_named}
use Rattle.service_events.specs.service_tables.specs.Opened.{contents_of}
use Rattle.service_events.specs.service_tables.specs.TablesReading.{asked_collections}
use Rattle.service_events.specs.service_tables.specs.Storing.{Brought, Edit, Set_name}
use Rattle.service_events.specs.CollectionCalls.{on_collection}
use Rattle.service_events.specs.PropertyCalls.{editing, set_collection_label}
use Rattle.service_calls.specs.Rows.{rows_of}
use Rattle.service_events.specs.Run.{asked}
use Rattle.service_calls.proofs.LeadsLemmas.{leads-as, map-ok, room-silent}
use Rattle.service_calls.specs.declared.storing.Done.{Done}
use Rattle.service_calls.proofs.tables.Tables.set_collection_label.Goals as goal

-- the collection is there, and the edit is what the call says
pub returns-clause-leads : goal.returns-clause-leads
returns-clause-leads g c =
    let folder = g.F.Folder in
    let slot = g.F.Cell.Slot in
    let conn = c.args.conn in
    let old = rows_of c.args.self.now in
    let label = c.args.label.now in
    let stem = c.in_ok-stem.stem in
    let edit : Edit = Set_name label in
    let named : collection_named (asked_collections (contents_of old)) c.args.collection.now ≡ Some stem = sym c.in-Some.ensures.named ∙ ap Some (sym c.in_ok-stem.ensures) in
    map-ok c.store_if_open.result _ _
    (λ done leads value.
    let brought : Brought = record { now = c.args.now; value = value } in
    let plan : set_collection_label c.args.collection.now label (asked conn brought old) ≡ editing stem edit (asked conn brought old) =
    ap (λ o. on_collection o (λ stem. editing stem edit (asked conn brought old))) named in
    leads-as folder.is_honest folder.is_steady folder.faults folder.images folder.may_leave folder.made slot.is_honest slot.is_steady slot.faults slot.moment slot.left_since slot.may_leave conn brought old _ _ _ _ _ done plan (leads edit value
    (λ i. change.SetName (c.in_ok-label.ensures i))))
    c.store_if_open.ensures.leads

-- what is refused sends nothing
pub returns-in_default-clause-room : goal.returns-in_default-clause-room
returns-in_default-clause-room g c =
    room-silent c.args.conn c.refused.result.sends c.args.self.now.connections.rooms (ap (λ (done : Done). done.sends) c.refused.ensures) c.requires
