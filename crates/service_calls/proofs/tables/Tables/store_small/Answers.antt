use Rattle.std.proofs.Common.{◌≡◌, true, [], None, Some, refl, sym, ap, ◌∙◌}
use Rattle.std.specs.Option.{is_some}
use Rattle.service_events.specs.service_prompts.specs.Announcing.{announced}
use Rattle.service_events.specs.service_tables.specs.Connections.{spread}
use Rattle.service_events.specs.service_tables.specs.Opened.{Contents}
use Rattle.service_events.specs.service_tables.specs.State.{State}
use Rattle.service_events.specs.service_tables.specs.declared.fate.Fate.TheVariants as fate
use Rattle.service_events.specs.service_tables.specs.declared.fate.StoreFate.TheVariants as ends
use Rattle.service_events.specs.service_tables.specs.Storing.{Brought, answered_at, rows_stored, storable_at}
use Rattle.service_events.specs.service_tables.proofs.SlotLemmas.{of-some}
use Rattle.service_events.specs.CollectionCalls.{storing}
use Rattle.service_events.specs.Plan.{Store}
use Rattle.service_calls.specs.Rows.{disk_of, rows_of}
use Rattle.service_events.specs.PublicBody.{body_with}
use Rattle.service_events.specs.Run.{is_small, sent_asked}
use Rattle.service_calls.specs.Done.{answer_by, said_by}
use Rattle.service_calls.specs.declared.storing.Done.{Done}
use Rattle.service_calls.proofs.SaidLemmas.{store-said}
use Rattle.service_calls.proofs.LeadsLemmas.{at-moved, leads-as, leads-asked, leads-done, plan-some, room-sent}
use Rattle.service_calls.proofs.tables.Tables.store_small.Goals as goal

-- the edit can be made, also once there is room for its signals
pub store-requires : goal.store-requires
store-requires g c =
    ap is_some (ap (λ (state : State). answered_at c.args.stem.now c.args.change c.args.now state.collections) c.in_ok-said.ensures.rows ∙ c.requires.answered)

-- it is stored, and answered by how that ended
pub returns-in-Some-clause-leads : goal.returns-in-Some-clause-leads
returns-in-Some-clause-leads g c = λ edit value its body_is is.
    let folder = g.F.Folder in
    let slot = g.F.Cell.Slot in
    let conn = c.args.conn in
    let old = rows_of c.args.self.now in
    let mid = rows_of c.prepare_said.new.self in
    let disk = disk_of c.args.self.now in
    let same : mid ≡ old = c.in_ok-said.ensures.rows in
    let brought : Brought = record { now = c.args.now; value = value } in
    let stem = c.args.stem.now in
    let change = c.args.change in
    let now = c.args.now in
    let plan = storing stem edit (λ _. its) (storable_at stem change now old.collections) in
    let some = c.in-Some.fate in
    let its_answer : answered_at stem change now old.collections ≡ Some c.args.answer = c.requires.answered in
    let made : storable_at stem change now old.collections ≡ Some c.args.answer =
    ap (λ (state : State). storable_at stem change now state.collections) (sym same) ∙ of-some _ c.in_ok-stored.stored some c.in-Some.is c.in_ok-stored.ensures.fits
    ∙ ap (λ (state : State). answered_at stem change now state.collections) same ∙ its_answer in
    let small : is_small (body_with its) ≡ true = ap is_small (sym body_is) ∙ c.requires.small in
    let sends = c.by.result.items in
    let done : c.ended.result ≡ record { answer = answer_by (body_with its) some; sends = sends; read = None; fate = Some some } =
    c.ended.ensures ∙ ap (λ body. record { answer = answer_by body some; sends = sends; read = None; fate = Some some }) body_is in
    let said : sends ≡ spread old.connections.rows (sent_asked brought (Store stem edit) some old) =
    c.by.ensures
    ∙ store-said brought stem edit change c.args.answer some old c.in_ok-said.said.stored.items c.in_ok-said.said.unsure.items is its_answer
    (c.in_ok-said.ensures.stored ∙ ap (λ signals. spread old.connections.rows (announced signals)) c.in_ok-changed.ensures)
    (c.in_ok-said.ensures.unsure ∙ ap (λ signals. spread old.connections.rows (announced signals)) c.in_ok-closed.ensures) in
    let stored = of-some _ c.in_ok-stored.stored some c.in-Some.is c.in_ok-stored.ensures.stored in
    let rows = ap (λ (contents : Contents). contents.collections) stored
    ∙ ap (λ (state : State). rows_stored stem change now some state.collections) same
    ∙ ap (λ given. rows_stored stem given now some old.collections) is in
    let state = ap (λ (contents : Contents). record mid { collections = contents.collections; aliases = contents.aliases; used = contents.used }) stored
    ∙ ap (λ (state : State). record state { collections = rows_stored stem change now some state.collections }) same
    ∙ ap (λ given. record old { collections = rows_stored stem given now some old.collections }) is in
    leads-done folder.is_honest folder.is_steady folder.faults folder.images folder.may_leave folder.made slot.is_honest slot.is_steady slot.faults slot.moment slot.left_since slot.may_leave conn brought old _ disk _ plan _ _ done
    (leads-as folder.is_honest folder.is_steady folder.faults folder.images folder.may_leave folder.made slot.is_honest slot.is_steady slot.faults slot.moment slot.left_since slot.may_leave conn brought old _ disk _ plan _ _ (plan-some stem edit (λ _. its) _ c.args.answer made)
    (leads-asked folder.is_honest folder.is_steady folder.faults folder.images folder.may_leave folder.made slot.is_honest slot.is_steady slot.faults slot.moment slot.left_since slot.may_leave conn brought old _ disk _ (Store stem edit) its some sends said small state
    (at-moved slot.is_honest slot.is_steady slot.faults slot.moment slot.left_since slot.may_leave stem (fate.Store some) _ _ _ _ _ _ _
    (ap (λ (state : State). state.collections) same) rows c.in_ok-said.ensures.disk (of-some _ c.in_ok-stored.stored some c.in-Some.is c.in_ok-stored.ensures.disk))))

-- there was room for what is sent, however the storing ended
pub returns-in-Some-clause-room : goal.returns-in-Some-clause-room
returns-in-Some-clause-room g c =
    let said = c.in_ok-said.said in
    room-sent c.args.conn (said_by said.stored.items said.unsure.items c.in-Some.fate) c.by.result.items c.ended.result.sends c.prepare_said.new.self.connections.rooms (sym c.by.ensures)
    (ap (λ (done : Done). done.sends) c.ended.ensures) (c.in_ok-said.ensures.room c.in-Some.fate)

-- and there was room for the reply if the files would be too large
pub returns-in-None-clause-room : goal.returns-in-None-clause-room
returns-in-None-clause-room g c =
    room-sent c.args.conn [] [] c.refused.result.sends c.prepare_said.new.self.connections.rooms refl
    (ap (λ (done : Done). done.sends) c.refused.ensures) (c.in_ok-said.ensures.room ends.Before)
