use Rattle.std.proofs.Common.{◌≡◌, cond, true, sym, ap, ◌∙◌}
use Rattle.service_events.specs.collection_table.specs.Rows.{is_open}
use Rattle.service_events.specs.secret_calls.specs.declared.out.ErrorName.TheVariants as name
use Rattle.service_events.specs.service_tables.specs.Storing.{Brought, storable_at, storable_edit}
use Rattle.service_events.specs.CollectionCalls.{storing}
use Rattle.service_events.specs.PropertyCalls.{editing}
use Rattle.service_events.specs.Plan.{refused}
use Rattle.service_events.specs.PublicBody as public
use Rattle.service_calls.specs.Rows.{rows_of}
use Rattle.service_events.specs.Run.{asked}
use Rattle.service_calls.proofs.LeadsLemmas.{leads-as, map-ok, room-silent}
use Rattle.service_calls.specs.declared.storing.Done.{Done}
use Rattle.service_calls.proofs.tables.Tables.store_if_open.Goals as goal

-- the collection is unlocked, and the edit is stored
pub returns-clause-leads : goal.returns-clause-leads
returns-clause-leads g c =
    let folder = g.F.Folder in
    let slot = g.F.Cell.Slot in
    let conn = c.args.conn in
    let old = rows_of c.args.self.now in
    let stem = c.args.stem.now in
    let unlocked : is_open stem old.collections ≡ true = sym c.is_open.ensures ∙ c.if-not-is_open.false in
    map-ok c.store_edit.result _ _
    (λ done leads edit value is.
    let brought : Brought = record { now = c.args.now; value = value } in
    let stores = storing stem edit (λ _. public.Empty) (storable_edit brought old.collections stem edit) in
    let plan : editing stem edit (asked conn brought old) ≡ storing stem edit (λ _. public.Empty) (storable_at stem c.args.change c.args.now old.collections) =
    ap (λ b. cond b stores (refused name.IsLocked)) unlocked
    ∙ ap (λ given. storing stem edit (λ _. public.Empty) (storable_at stem given c.args.now old.collections)) (sym is) in
    leads-as folder.is_honest folder.is_steady folder.faults folder.images folder.may_leave folder.made slot.is_honest slot.is_steady slot.faults slot.moment slot.left_since slot.may_leave conn brought old _ _ _ _ _ done plan (leads edit value is))
    c.store_edit.ensures.leads

-- what is refused sends nothing
pub returns-then-not-is_open-clause-room : goal.returns-then-not-is_open-clause-room
returns-then-not-is_open-clause-room g c =
    room-silent c.args.conn c.refused.result.sends c.args.self.now.connections.rooms (ap (λ (done : Done). done.sends) c.refused.ensures) c.requires
