use Rattle.std.proofs.Common.{◌≡◌, cond, true, refl, sym, ap, ◌∙◌}
use Rattle.service_events.specs.collection_table.specs.Rows.{has_item, is_open}
use Rattle.service_events.specs.secret_calls.specs.declared.out.ErrorName.TheVariants as name
use Rattle.service_events.specs.service_tables.specs.Storing.{Brought, Remove_item, storable_edit}
use Rattle.service_events.specs.CollectionCalls.{if_open, no_prompt, storing}
use Rattle.service_events.specs.ItemCalls.{delete_item}
use Rattle.service_events.specs.Plan.{refused}
use Rattle.service_calls.specs.Rows.{rows_of}
use Rattle.service_events.specs.Run.{asked}
use Rattle.service_calls.proofs.LeadsLemmas.{leads-as, map-ok, room-silent}
use Rattle.service_calls.specs.declared.storing.Done.{Done}
use Rattle.service_calls.proofs.tables.Tables.delete_item.Goals as goal

-- the item is there and its collection unlocked, and it is removed
pub returns-clause-leads : goal.returns-clause-leads
returns-clause-leads g c =
    let folder = g.F.Folder in
    let slot = g.F.Cell.Slot in
    let conn = c.args.conn in
    let old = rows_of c.args.self.now in
    let stem = c.args.stem.now in
    let edit = Remove_item c.args.item in
    let there : has_item stem c.args.item.0 old.collections ≡ true = sym c.has_item.ensures ∙ c.if-not-has_item.false in
    let unlocked : is_open stem old.collections ≡ true = sym c.is_open.ensures ∙ c.if-not-is_open.false in
    map-ok c.store_edit.result _ _
    (λ done leads value.
    let brought : Brought = record { now = c.args.now; value = value } in
    let stores = storing stem edit (λ _. no_prompt) (storable_edit brought old.collections stem edit) in
    let plan : delete_item stem c.args.item (asked conn brought old) ≡ stores =
    ap (λ b. cond b (if_open stem (asked conn brought old) stores) (refused name.NoSuchObject)) there ∙ ap (λ b. cond b stores (refused name.IsLocked)) unlocked in
    leads-as folder.is_honest folder.is_steady folder.faults folder.images folder.may_leave folder.made slot.is_honest slot.is_steady slot.faults slot.moment slot.left_since slot.may_leave conn brought old _ _ _ _ _ done plan (leads edit value refl))
    c.store_edit.ensures.leads

-- what is refused sends nothing
pub returns-then-not-has_item-clause-room : goal.returns-then-not-has_item-clause-room
returns-then-not-has_item-clause-room g c =
    room-silent c.args.conn c.refused.result.sends c.args.self.now.connections.rooms (ap (λ (done : Done). done.sends) c.refused.ensures) c.requires

pub returns-then-not-is_open-clause-room : goal.returns-then-not-is_open-clause-room
returns-then-not-is_open-clause-room g c =
    room-silent c.args.conn c.refused-then-not-is_open.result.sends c.args.self.now.connections.rooms (ap (λ (done : Done). done.sends) c.refused-then-not-is_open.ensures) c.requires
