use Rattle.std.proofs.Common.{◌≡◌, true, Ok, map, refl, sym, ap, subst, ◌∙◌}
use Rattle.stem_choice.specs.UsedStems.{AreInOrder}
use Rattle.service_events.specs.Plan.{Lock_collection}
use Rattle.service_events.specs.PublicBody.{body_with}
use Rattle.service_events.specs.Run.{is_small, performed_all, sent_all}
use Rattle.service_events.specs.service_prompts.specs.Announcing.{announced}
use Rattle.service_events.specs.service_tables.specs.Connections.{spread}
use Rattle.service_events.specs.service_tables.specs.Desks.{Table}
use Rattle.service_calls.specs.Done.{HasRoomToReply}
use Rattle.service_calls.specs.Rows.{disk_of, rows_of}
use Rattle.service_calls.specs.declared.storing.Done.{Done}
use Rattle.service_calls.proofs.LeadsLemmas.{leads-changes, leads-done, room-sent}
use Rattle.service_calls.proofs.LockLemmas.{locks-said}
use Rattle.service_calls.proofs.tables.Tables.lock_small.Goals as goal

-- the collections are locked, and the signals of those that were unlocked are sent
pub returns-clause-leads : goal.returns-clause-leads
returns-clause-leads g c = λ brought its is.
    let folder = g.F.Folder in
    let slot = g.F.Cell.Slot in
    let conn = c.args.conn in
    let old = rows_of c.args.self.now in
    let disk = disk_of c.args.self.now in
    let rows = old.connections.rows in
    let stems = c.args.stems.now.stems in
    let lent = c.as_slice-stems.result.now in
    let as_lent = c.as_slice-stems.ensures.value in
    let small : is_small (body_with its) ≡ true = ap is_small (sym is) ∙ c.requires in
    let said = c.in_ok-sends.ensures ∙ ap (λ signals. spread rows (announced signals)) c.in_ok-signals.ensures
    ∙ ap (spread rows) (sym (locks-said conn lent old (subst AreInOrder (sym as_lent) c.as_slice-stems.ensures.ordered))
    ∙ ap (λ these. sent_all conn (map Lock_collection these) old) as_lent) in
    let state = c.lock_all.ensures.rows conn
    ∙ (λ i. performed_all conn (map Lock_collection lent) (record old { connections = record { rows = c.in_ok-reserve_for.ensures.unchanged i; next = c.in_ok-reserve_for.ensures.next i } }))
    ∙ ap (λ these. performed_all conn (map Lock_collection these) old) as_lent in
    leads-done folder.is_honest folder.is_steady folder.faults folder.images folder.may_leave folder.made slot.is_honest slot.is_steady slot.faults slot.moment slot.left_since slot.may_leave conn brought old _ disk _ _ _ _ c.sending.ensures
    (leads-changes folder.is_honest folder.is_steady folder.faults folder.images folder.may_leave folder.made slot.is_honest slot.is_steady slot.faults slot.moment slot.left_since slot.may_leave conn brought old _ disk _ its (map Lock_collection stems) _
    (ap Ok is) said refl refl small state c.lock_all.ensures.disk)

-- room was made for what is sent
pub returns-clause-room : goal.returns-clause-room
returns-clause-room g c =
    let sends = c.sending.result.sends in
    subst (λ (table : Table). HasRoomToReply c.args.conn sends table.rooms) (sym c.lock_all.ensures.room)
    (room-sent c.args.conn c.deref.result.now c.in_ok-sends.sends.items sends c.reserve_for.new.self.rooms c.deref.ensures.value
    (ap (λ (done : Done). done.sends) c.sending.ensures) c.in_ok-reserve_for.ensures.room)
