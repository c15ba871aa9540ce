use Rattle.std.proofs.Common.{◌∷◌, [], refl, ap, ◌∙◌}
use Rattle.service_calls.specs.declared.storing.Done.{Done}
use Rattle.service_calls.specs.service_events.specs.PublicBody as public
use Rattle.service_calls.specs.service_events.specs.Plan.{Ask_prompt}
use Rattle.service_calls.specs.Rows.{disk_of, rows_of}
use Rattle.service_answers.proofs.DerivedLemmas.{again-sends}
use Rattle.service_calls.specs.service_events.proofs.SmallLemmas.{empty-small}
use Rattle.service_calls.proofs.LeadsLemmas.{leads-changes, room-sent}
use Rattle.service_answers.proofs.derived_key.ask_again.Goals as goal

-- it is asked again
pub returns-clause-leads : goal.returns-clause-leads
returns-clause-leads g c = λ brought.
    let folder = g.F.Folder in
    let slot = g.F.Cell.Slot in
    let conn = c.args.conn in
    let old = rows_of c.args.tables.now in
    let done = c.sending.result in
    leads-changes folder.is_honest folder.is_steady folder.faults folder.images folder.may_leave folder.made slot.is_honest slot.is_steady slot.faults slot.moment slot.left_since slot.may_leave conn brought old _ (disk_of c.args.tables.now) _ public.Empty (Ask_prompt c.args.prompt ∷ []) done
    (ap (λ (d : Done). d.answer) c.sending.ensures) (ap (λ (d : Done). d.sends) c.sending.ensures ∙ again-sends conn c.args.prompt old c.in_ok-sends.sends.items c.wrong_of-wrong.result c.requires.there c.wrong_of-wrong.ensures c.in_ok-sends.ensures old.connections.rows) (ap (λ (d : Done). d.read) c.sending.ensures) (ap (λ (d : Done). d.fate) c.sending.ensures) empty-small
    (λ i. record old {
      connections = record { rows = c.in_ok-reserve_for.ensures.unchanged i; next = c.in_ok-reserve_for.ensures.next i };
      prompts = c.again-round.ensures.asked i;
    })
    refl

-- room was made for what is sent
pub returns-clause-room : goal.returns-clause-room
returns-clause-room g c =
    room-sent c.args.conn c.deref.result.now c.in_ok-sends.sends.items c.sending.result.sends c.reserve_for.new.self.rooms c.deref.ensures.value
    (ap (λ (done : Done). done.sends) c.sending.ensures) c.in_ok-reserve_for.ensures.room
