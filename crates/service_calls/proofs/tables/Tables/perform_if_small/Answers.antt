use Rattle.std.proofs.Common.{[], None, Err, sym, ap, ◌∙◌}
use Rattle.service_events.specs.Run.{is_small}
use Rattle.service_calls.specs.Rows.{disk_of, rows_of}
use Rattle.service_calls.proofs.EffectLemmas.{bounded-err, bounded-ok, leads-no_effect}
use Rattle.service_calls.proofs.LeadsLemmas.{leads-done, map-ok, room-silent}
use Rattle.service_calls.specs.declared.storing.Done.{Done}
use Rattle.service_calls.proofs.tables.Tables.perform_if_small.Goals as goal

-- what passes the test is small
pub perform_small-requires-clause-small : goal.perform_small-requires-clause-small
perform_small-requires-clause-small g c = (bounded-ok c.args.body c.in-Ok.body (sym c.bounded.ensures ∙ c.in-Ok.is)).1

-- and is the body
pub returns-in-Ok-clause-leads : goal.returns-in-Ok-clause-leads
returns-in-Ok-clause-leads g c =
    map-ok c.perform_small.result _ _
    (λ done leads brought its plan is planned. leads brought its plan ((bounded-ok c.args.body c.in-Ok.body (sym c.bounded.ensures ∙ c.in-Ok.is)).0 ∙ is) planned)
    c.perform_small.ensures.leads

-- what doesn't pass it is refused
pub returns-in-Err-clause-leads : goal.returns-in-Err-clause-leads
returns-in-Err-clause-leads g c = λ brought its plan is planned.
    let folder = g.F.Folder in
    let slot = g.F.Cell.Slot in
    let conn = c.args.conn in
    let old = rows_of c.args.self.now in
    let disk = disk_of c.args.self.now in
    let fails = bounded-err c.args.body c.in-Err.name (sym c.bounded.ensures ∙ c.in-Err.is) in
    leads-done folder.is_honest folder.is_steady folder.faults folder.images folder.may_leave folder.made slot.is_honest slot.is_steady slot.faults slot.moment slot.left_since slot.may_leave conn brought old old disk disk plan _ _
    (c.refused.ensures ∙ ap (λ error. record { answer = Err error; sends = []; read = None; fate = None }) fails.0)
    (leads-no_effect folder.is_honest folder.is_steady folder.faults folder.images folder.may_leave folder.made slot.is_honest slot.is_steady slot.faults slot.moment slot.left_since slot.may_leave conn brought old disk its (ap is_small (sym is) ∙ fails.1) c.args.effect plan planned)

-- and sends nothing
pub returns-in-Err-clause-room : goal.returns-in-Err-clause-room
returns-in-Err-clause-room g c =
    room-silent c.args.conn c.refused.result.sends c.args.self.now.connections.rooms (ap (λ (done : Done). done.sends) c.refused.ensures) c.requires.room
