use Rattle.std.proofs.Common.{◌≡◌, true, false, [], ◌∷◌, IfOk, OnOk, Ok, refl, sym, ap, subst, ◌∙◌}
use Rattle.kr_base.specs.declared.ids.SessionId.{SessionId}
use Rattle.session_table.specs.Sessions.{is_full, opened}
use Rattle.service_events.specs.secret_calls.specs.declared.out.Body.TheVariants as body
use Rattle.service_events.specs.Plan.{Open_session}
use Rattle.service_events.specs.PublicBody as public
use Rattle.service_events.specs.ServiceCalls.{is_plain}
use Rattle.service_calls.specs.Rows.{disk_of, rows_of}
use Rattle.service_calls.specs.declared.storing.Done.{Done}
use Rattle.service_calls.proofs.LeadsLemmas.{leads-as, leads-changes}
use Rattle.service_calls.proofs.SessionLemmas.{opened-small, opens-plan}
use Rattle.service_calls.proofs.tables.Tables.open_session.Goals as goal

-- the caller gets its next session
pub returns-in-Ok-clause-leads : goal.returns-in-Ok-clause-leads
returns-in-Ok-clause-leads g c = λ brought.
    let folder = g.F.Folder in
    let slot = g.F.Cell.Slot in
    let conn = c.args.conn in
    let old = rows_of c.args.self.now in
    let disk = disk_of c.args.self.now in
    let done = c.unstored.result in
    let plain : is_plain c.args.algorithm.now ≡ true = sym c.is_plain.ensures ∙ c.if-not-is_plain.false in
    let room : is_full conn old.sessions ≡ false = subst (λ r. OnOk r (is_full conn old.sessions ≡ false)) c.in-Ok.is c.open.ensures.room in
    let sessions : c.open.new.self ≡ opened conn old.sessions = subst (λ r. OnOk r (c.open.new.self ≡ opened conn old.sessions)) c.in-Ok.is c.open.ensures.opened in
    let number : c.in-Ok.session.0 ≡ old.sessions.next = subst (λ r. IfOk r (λ (session : SessionId). session.0 ≡ old.sessions.next)) c.in-Ok.is c.open.ensures.number in
    leads-as folder.is_honest folder.is_steady folder.faults folder.images folder.may_leave folder.made slot.is_honest slot.is_steady slot.faults slot.moment slot.left_since slot.may_leave conn brought old _ disk disk _ _ done (opens-plan conn old room brought c.args.algorithm.now plain)
    (leads-changes folder.is_honest folder.is_steady folder.faults folder.images folder.may_leave folder.made slot.is_honest slot.is_steady slot.faults slot.moment slot.left_since slot.may_leave conn brought old _ disk disk (public.Session (record { 0 = old.sessions.next })) (Open_session ∷ []) done
    (ap (λ (d : Done). d.answer) c.unstored.ensures ∙ ap (λ n. Ok (body.Session (record { 0 = n }))) number)
    (ap (λ (d : Done). d.sends) c.unstored.ensures)
    (ap (λ (d : Done). d.read) c.unstored.ensures) (ap (λ (d : Done). d.fate) c.unstored.ensures) (opened-small conn old room)
    (λ i. record old { sessions = sessions i }) refl)
