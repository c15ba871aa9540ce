use Rattle.std.proofs.Common.{[], ◌∷◌, append-nil, ap, subst, sym, ◌∙◌}
use Rattle.service_events.specs.service_tables.specs.Connections.{spread}
use Rattle.service_events.specs.service_tables.specs.Desks.{Table}
use Rattle.service_events.specs.Plan.{Go_on}
use Rattle.service_events.specs.PublicBody as public
use Rattle.service_events.specs.Run.{performed, sent_by}
use Rattle.service_calls.specs.Done.{HasRoomToReply}
use Rattle.service_calls.specs.Rows.{disk_of, rows_of}
use Rattle.service_calls.specs.declared.storing.Done.{Done}
use Rattle.service_events.proofs.SmallLemmas.{empty-small}
use Rattle.service_calls.proofs.LeadsLemmas.{leads-changes, room-sent}
use Rattle.service_calls.proofs.tables.Tables.go_on.Goals as goal

-- the prompt advances
pub returns-clause-leads : goal.returns-clause-leads
returns-clause-leads g c = λ brought.
    let folder = g.F.Folder in
    let slot = g.F.Cell.Slot in
    let conn = c.args.conn in
    let prompt = c.args.prompt in
    let old = rows_of c.args.self.now in
    let rows = old.connections.rows in
    let done = c.sending.result in
    leads-changes folder.is_honest folder.is_steady folder.faults folder.images folder.may_leave folder.made slot.is_honest slot.is_steady slot.faults slot.moment slot.left_since slot.may_leave conn brought old _ (disk_of c.args.self.now) _ public.Empty (Go_on prompt ∷ []) done
    (ap (λ (d : Done). d.answer) c.sending.ensures)
    (ap (λ (d : Done). d.sends) c.sending.ensures ∙ c.in_ok-sends.ensures rows ∙ ap (spread rows) (sym (append-nil (sent_by conn (Go_on prompt) old))))
    (ap (λ (d : Done). d.read) c.sending.ensures) (ap (λ (d : Done). d.fate) c.sending.ensures) empty-small
    (c.go_on_now.ensures.rows ∙ (λ i. performed conn (Go_on prompt) (record old { connections = record { rows = c.in_ok-reserve_for.ensures.unchanged i; next = c.in_ok-reserve_for.ensures.next i } })))
    c.go_on_now.ensures.disk

-- room was made for what is sent
pub returns-clause-room : goal.returns-clause-room
returns-clause-room g c =
    let sends = c.sending.result.sends in
    subst (λ (table : Table). HasRoomToReply c.args.conn sends table.rooms) (sym c.go_on_now.ensures.room)
    (room-sent c.args.conn c.deref.result.now c.in_ok-sends.sends.items sends c.reserve_for.new.self.rooms c.deref.ensures.value
    (ap (λ (done : Done). done.sends) c.sending.ensures) c.in_ok-reserve_for.ensures.room)
