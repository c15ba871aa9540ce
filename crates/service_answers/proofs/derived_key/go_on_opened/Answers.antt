use Rattle.std.proofs.Common.{◌≤◌, ◌∷◌, ◌++◌, [], refl, sym, ap, subst, ◌∙◌}
use Rattle.std.specs.Option.{is_some}
use Rattle.prompt_state.specs.Prompts.{last_round, next_round, row_at}
use Rattle.prompt_state.specs.declared.row.PromptRow.{PromptRow}
use Rattle.service_calls.specs.service_prompts.specs.Announcing.{announced}
use Rattle.service_calls.specs.service_tables.specs.Connections.{spread}
use Rattle.service_calls.specs.service_tables.specs.Desks.{Table}
use Rattle.service_calls.specs.declared.storing.Done.{Done}
use Rattle.service_calls.specs.service_events.specs.Plan.{Clear_wrong, Go_on}
use Rattle.service_calls.specs.service_events.specs.PublicBody as public
use Rattle.service_calls.specs.Rows.{disk_of, rows_of}
use Rattle.service_calls.specs.service_events.specs.Run.{performed}
use Rattle.service_calls.specs.Done.{HasRoomToReply}
use Rattle.service_answers.proofs.DerivedLemmas.{round-changed, there-changed}
use Rattle.service_calls.specs.service_events.proofs.SmallLemmas.{empty-small}
use Rattle.service_calls.proofs.LeadsLemmas.{leads-changes, room-sent}
use Rattle.service_answers.proofs.derived_key.go_on_opened.Goals as goal

-- the prompt is there as before, and in the same round
pub go_on_now-requires-clause-there : goal.go_on_now-requires-clause-there
go_on_now-requires-clause-there g c =
    let prompt = c.args.prompt in
    let f : PromptRow → PromptRow = λ row. record row { wrong = 0 } in
    ap (λ p. is_some (row_at prompt p)) c.clear_wrong.ensures ∙ there-changed prompt f c.args.tables.now.prompts (λ row. refl) c.requires.there

pub go_on_now-requires-clause-round : goal.go_on_now-requires-clause-round
go_on_now-requires-clause-round g c =
    let prompt = c.args.prompt in
    let f : PromptRow → PromptRow = λ row. record row { wrong = 0 } in
    subst (λ n. n ≤ last_round)
    (sym (ap (λ p. next_round (row_at prompt p)) c.clear_wrong.ensures ∙ round-changed prompt f c.args.tables.now.prompts (λ row. refl) (λ row. refl))) c.requires.round

-- it advances
pub returns-clause-leads : goal.returns-clause-leads
returns-clause-leads g c = λ brought rest is.
    let folder = g.F.Folder in
    let slot = g.F.Cell.Slot in
    let conn = c.args.conn in
    let prompt = c.args.prompt in
    let old = rows_of c.args.tables.now in
    let done : Done = record c.sending.result { sends = rest } in
    leads-changes folder.is_honest folder.is_steady folder.faults folder.images folder.may_leave folder.made slot.is_honest slot.is_steady slot.faults slot.moment slot.left_since slot.may_leave conn brought old _ (disk_of c.args.tables.now) _ public.Empty (Clear_wrong prompt ∷ Go_on prompt ∷ []) done
    (ap (λ (d : Done). d.answer) c.sending.ensures) is (ap (λ (d : Done). d.read) c.sending.ensures) (ap (λ (d : Done). d.fate) c.sending.ensures) empty-small
    (c.go_on_now.ensures.rows ∙ (λ i. performed conn (Go_on prompt) (record old {
      connections = record { rows = c.in_ok-reserve_for.ensures.unchanged i; next = c.in_ok-reserve_for.ensures.next i };
      prompts = c.clear_wrong.ensures i;
    })))
    c.go_on_now.ensures.disk

-- after everyone was sent that the collection is unlocked
pub returns-clause-sends : goal.returns-clause-sends
returns-clause-sends g c =
    let rows = (rows_of c.args.tables.now).connections.rows in
    ap (λ (d : Done). d.sends) c.sending.ensures
    ∙ c.in_ok-append.ensures.items
    ∙ (λ i. (c.in_ok-sends.ensures ∙ ap (λ signals. spread rows (announced signals)) c.in_ok-signals.ensures) i ++ c.in_ok-advance.ensures rows i)

-- room was made for what is sent
pub returns-clause-room : goal.returns-clause-room
returns-clause-room g c =
    let sends = c.sending.result.sends in
    subst (λ (table : Table). HasRoomToReply c.args.conn sends table.rooms) (sym c.go_on_now.ensures.room)
    (room-sent c.args.conn c.deref.result.now c.append.new.self.items sends c.reserve_for.new.self.rooms c.deref.ensures.value
    (ap (λ (done : Done). done.sends) c.sending.ensures) c.in_ok-reserve_for.ensures.room)
