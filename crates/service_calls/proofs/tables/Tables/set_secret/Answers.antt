use Rattle.std.proofs.Common.{◌≡◌, cond, true, sym, ap, ◌∙◌}
use Rattle.service_events.specs.collection_store.specs.declared.change.Change.TheVariants as change
use Rattle.service_events.specs.collection_table.specs.Rows.{has_item}
use Rattle.service_events.specs.secret_calls.specs.declared.out.ErrorName.TheVariants as name
use Rattle.service_events.specs.service_tables.specs.Storing.{Brought, Edit, Set_secret}
use Rattle.service_events.specs.CollectionCalls.{secret_stored}
use Rattle.service_events.specs.ItemCalls.{set_secret}
use Rattle.service_events.specs.Plan.{refused}
use Rattle.service_events.specs.PublicBody as public
use Rattle.service_calls.specs.Rows.{rows_of}
use Rattle.service_events.specs.Run.{asked}
use Rattle.service_calls.proofs.LeadsLemmas.{leads-as, map-ok, room-silent}
use Rattle.service_calls.specs.declared.storing.Done.{Done}
use Rattle.service_calls.proofs.tables.Tables.set_secret.Goals as goal

-- the item is there, and the edit is what the call says
pub returns-clause-leads : goal.returns-clause-leads
returns-clause-leads g c =
    let folder = g.F.Folder in
    let slot = g.F.Cell.Slot in
    let conn = c.args.conn in
    let old = rows_of c.args.self.now in
    let secret = c.args.secret.now in
    let stem = c.args.stem.now in
    let edit : Edit = Set_secret c.args.item secret.content in
    let brought : Brought = record { now = c.args.now; value = secret.value } in
    let there : has_item stem c.args.item.0 old.collections ≡ true = sym c.has_item.ensures ∙ c.if-not-has_item.false in
    let stores = secret_stored secret.session stem secret.content edit (λ _. public.Empty) (asked conn brought old) in
    let plan : set_secret stem c.args.item secret.session secret.content (asked conn brought old) ≡ stores = ap (λ b. cond b stores (refused name.NoSuchObject)) there in
    map-ok c.store_secret.result _ _
    (λ done leads. leads-as folder.is_honest folder.is_steady folder.faults folder.images folder.may_leave folder.made slot.is_honest slot.is_steady slot.faults slot.moment slot.left_since slot.may_leave conn brought old _ _ _ _ _ done plan (leads edit secret.value
    (λ i. change.SetSecret c.args.item (c.in_ok-copy.ensures i) (c.in_ok-copy-2.ensures i))))
    c.store_secret.ensures.leads

-- what is refused sends nothing
pub returns-then-not-has_item-clause-room : goal.returns-then-not-has_item-clause-room
returns-then-not-has_item-clause-room g c =
    room-silent c.args.conn c.refused.result.sends c.args.self.now.connections.rooms (ap (λ (done : Done). done.sends) c.refused.ensures) c.requires
