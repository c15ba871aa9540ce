use Rattle.std.proofs.Common.{◌≡◌, Some, sym, ap, ◌∙◌}
use Rattle.service_events.specs.collection_store.specs.declared.change.Change.TheVariants as change
use Rattle.service_events.specs.service_tables.specs.Objects.{collection_named}
use Rattle.service_events.specs.service_tables.specs.Opened.{contents_of}
use Rattle.service_events.specs.service_tables.specs.TablesReading.{asked_collections}
use Rattle.service_events.specs.service_tables.specs.Storing.{Add_item, Brought, Edit}
use Rattle.service_events.specs.CollectionCalls.{create_item, made, on_collection, secret_stored}
use Rattle.service_calls.specs.Rows.{rows_of}
use Rattle.service_events.specs.Run.{asked}
use Rattle.service_calls.proofs.LeadsLemmas.{leads-as, map-ok, room-silent}
use Rattle.service_calls.specs.declared.storing.Done.{Done}
use Rattle.service_calls.proofs.tables.Tables.create_item.Goals as goal

-- the collection is there, and the edit is what the call says
pub returns-clause-leads : goal.returns-clause-leads
returns-clause-leads g c =
    let folder = g.F.Folder in
    let slot = g.F.Cell.Slot in
    let conn = c.args.conn in
    let old = rows_of c.args.self.now in
    let secret = c.args.secret.now in
    let stem = c.in_ok-stem.stem in
    let edit : Edit = Add_item c.args.label.now c.args.attributes.now secret.content c.args.replace in
    let brought : Brought = record { now = c.args.now; value = secret.value } in
    let named : collection_named (asked_collections (contents_of old)) c.args.collection.now ≡ Some stem = sym c.in-Some.ensures.named ∙ ap Some (sym c.in_ok-stem.ensures) in
    let plan : create_item c.args.collection.now edit secret.session secret.content (asked conn brought old) ≡ secret_stored secret.session stem secret.content edit (made stem) (asked conn brought old) =
    ap (λ o. on_collection o (λ stem. secret_stored secret.session stem secret.content edit (made stem) (asked conn brought old))) named in
    map-ok c.store_secret.result _ _
    (λ done leads. leads-as folder.is_honest folder.is_steady folder.faults folder.images folder.may_leave folder.made slot.is_honest slot.is_steady slot.faults slot.moment slot.left_since slot.may_leave conn brought old _ _ _ _ _ done plan (leads edit secret.value
    (λ i. change.Add (c.in_ok-copy.ensures i) (c.in_ok-copy-2.ensures i) (c.in_ok-copy-3.ensures i) (c.in_ok-copy-4.ensures i) c.args.replace)))
    c.store_secret.ensures.leads

-- what is refused sends nothing
pub returns-in_default-clause-room : goal.returns-in_default-clause-room
returns-in_default-clause-room g c =
    room-silent c.args.conn c.refused.result.sends c.args.self.now.connections.rooms (ap (λ (done : Done). done.sends) c.refused.ensures) c.requires
