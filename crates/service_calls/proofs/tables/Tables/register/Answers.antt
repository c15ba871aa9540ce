use Rattle.std.proofs.Common.{◌≡◌, false, cond, OnOk, [], ◌∷◌, append-nil, refl, sym, ap, subst, ◌∙◌}
use Rattle.prompt_state.specs.Prompts.{is_taken, registered}
use Rattle.service_events.specs.secret_calls.specs.declared.out.ErrorName.TheVariants as name
use Rattle.service_events.specs.service_prompts.specs.Prompting.{asks_sent}
use Rattle.service_events.specs.service_tables.specs.Connections.{spread}
use Rattle.service_events.specs.Plan.{Become_agent, answered, refused}
use Rattle.service_events.specs.PublicBody as public
use Rattle.service_events.proofs.SmallLemmas.{empty-small}
use Rattle.service_calls.specs.Rows.{disk_of, rows_of}
use Rattle.service_calls.specs.declared.storing.Done.{Done}
use Rattle.service_calls.proofs.LeadsLemmas.{leads-as, leads-changes, room-sent, room-silent}
use Rattle.service_calls.proofs.tables.Tables.register.Goals as goal

-- no other connection is the agent, and the caller becomes it
pub returns-clause-leads : goal.returns-clause-leads
returns-clause-leads g c = λ brought.
    let folder = g.F.Folder in
    let slot = g.F.Cell.Slot in
    let conn = c.args.conn in
    let old = rows_of c.args.self.now in
    let disk = disk_of c.args.self.now in
    let rows = old.connections.rows in
    let done = c.sending.result in
    let free : is_taken conn old.prompts.agent ≡ false = sym c.is_taken.ensures ∙ c.if-is_taken.false in
    let prompts : c.register.new.self ≡ registered conn old.prompts = subst (λ r. OnOk r (c.register.new.self ≡ registered conn old.prompts)) c.in-Ok.is c.register.ensures.registered in
    leads-as folder.is_honest folder.is_steady folder.faults folder.images folder.may_leave folder.made slot.is_honest slot.is_steady slot.faults slot.moment slot.left_since slot.may_leave conn brought old _ disk disk _ _ done (ap (λ b. cond b (refused name.AgentTaken) (answered public.Empty (Become_agent ∷ []))) free)
    (leads-changes folder.is_honest folder.is_steady folder.faults folder.images folder.may_leave folder.made slot.is_honest slot.is_steady slot.faults slot.moment slot.left_since slot.may_leave conn brought old _ disk disk public.Empty (Become_agent ∷ []) done
    (ap (λ (d : Done). d.answer) c.sending.ensures)
    (ap (λ (d : Done). d.sends) c.sending.ensures ∙ c.in_ok-sends.ensures rows ∙ ap (spread rows) (sym (append-nil (asks_sent (registered conn old.prompts) old.collections))))
    (ap (λ (d : Done). d.read) c.sending.ensures) (ap (λ (d : Done). d.fate) c.sending.ensures) empty-small
    (λ i. record old { connections = record { rows = c.in_ok-reserve_for.ensures.unchanged i; next = c.in_ok-reserve_for.ensures.next i }; prompts = prompts i }) refl)

-- room was made for what is sent
pub returns-clause-room : goal.returns-clause-room
returns-clause-room g c =
    room-sent c.args.conn c.deref.result.now c.in_ok-sends.sends.items c.sending.result.sends c.reserve_for.new.self.rooms c.deref.ensures.value
    (ap (λ (done : Done). done.sends) c.sending.ensures) c.in_ok-reserve_for.ensures.room

-- the reply alone is sent to a caller that is refused
pub returns-then-is_taken-clause-room : goal.returns-then-is_taken-clause-room
returns-then-is_taken-clause-room g c =
    room-silent c.args.conn c.refused.result.sends c.args.self.now.connections.rooms (ap (λ (done : Done). done.sends) c.refused.ensures) c.requires
