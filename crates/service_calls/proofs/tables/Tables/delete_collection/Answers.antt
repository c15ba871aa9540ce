use Rattle.std.proofs.Common.{◌≡◌, cond, true, None, Some, sym, ap, ◌∙◌}
use Rattle.service_events.specs.collection_table.specs.Rows.{is_open}
use Rattle.service_events.specs.secret_calls.specs.declared.out.Body.TheVariants as body
use Rattle.service_events.specs.secret_calls.specs.declared.out.ErrorName.TheVariants as name
use Rattle.service_events.specs.service_tables.specs.Objects.{collection_named}
use Rattle.service_events.specs.service_tables.specs.Opened.{Contents, contents_of}
use Rattle.service_events.specs.service_tables.specs.TablesReading.{asked_collections}
use Rattle.service_events.specs.service_tables.specs.State.{State}
use Rattle.service_events.specs.service_tables.specs.Storing.{rows_erased}
use Rattle.service_events.specs.service_tables.specs.declared.fate.Fate.TheVariants as fate
use Rattle.service_events.specs.CollectionCalls.{by_fate, delete_collection, if_open, no_prompt, on_collection}
use Rattle.service_events.specs.Plan.{Asks, Erase, refused}
use Rattle.service_events.specs.PublicBody.{body_with}
use Rattle.service_calls.specs.Rows.{disk_of, rows_of}
use Rattle.service_events.specs.Run.{asked, sent_asked}
use Rattle.service_events.specs.service_prompts.specs.Announcing.{announced}
use Rattle.service_events.specs.service_tables.specs.Connections.{spread}
use Rattle.service_calls.specs.Done.{answer_by, said_by}
use Rattle.service_events.proofs.SmallLemmas.{no_prompt-small}
use Rattle.service_calls.proofs.SaidLemmas.{erase-said}
use Rattle.service_calls.proofs.LeadsLemmas.{at-moved, leads-as, leads-asked, leads-done, room-sent, room-silent}
use Rattle.service_calls.specs.declared.storing.Done.{Done}
use Rattle.service_calls.proofs.tables.Tables.delete_collection.Goals as goal

-- the collection is there and unlocked, and its file is removed
pub returns-clause-leads : goal.returns-clause-leads
returns-clause-leads g c = λ brought.
    let folder = g.F.Folder in
    let slot = g.F.Cell.Slot in
    let conn = c.args.conn in
    let old = rows_of c.args.self.now in
    let disk = disk_of c.args.self.now in
    let stem = c.in_ok-stem.stem in
    let some = c.erase-fate.result in
    let named : collection_named (asked_collections (contents_of old)) c.args.collection.now ≡ Some stem = sym c.in-Some.ensures.named ∙ ap Some (sym c.in_ok-stem.ensures) in
    let unlocked : is_open stem old.collections ≡ true = sym c.is_open.ensures ∙ c.if-not-is_open.false in
    let plan : delete_collection c.args.collection.now (asked conn brought old) ≡ Asks (Erase stem) (by_fate no_prompt) =
    ap (λ o. on_collection o (λ stem. if_open stem (asked conn brought old) (Asks (Erase stem) (by_fate no_prompt)))) named
    ∙ ap (λ b. cond b (Asks (Erase stem) (by_fate no_prompt)) (refused name.IsLocked)) unlocked in
    let sends = c.by.result.items in
    let done : c.ended.result ≡ record { answer = answer_by (body_with no_prompt) some; sends = sends; read = None; fate = Some some } =
    c.ended.ensures ∙ ap (λ path. record { answer = answer_by (body.Object path) some; sends = sends; read = None; fate = Some some }) c.in_ok-path_of.ensures.spelled in
    let said : sends ≡ spread old.connections.rows (sent_asked brought (Erase stem) some old) =
    c.by.ensures
    ∙ erase-said brought stem some old c.in_ok-said.said.stored.items c.in_ok-said.said.unsure.items unlocked
    (c.in_ok-said.ensures.stored ∙ ap (λ signals. spread old.connections.rows (announced signals)) c.in_ok-gone.ensures)
    (c.in_ok-said.ensures.unsure ∙ ap (λ signals. spread old.connections.rows (announced signals)) c.in_ok-closed.ensures) in
    let mid = rows_of c.prepare_said.new.self in
    let same : mid ≡ old = c.in_ok-said.ensures.rows in
    let spare = c.in_ok-reserve_spare.ensures in
    let erased =
    c.erase-fate.ensures.erased ∙ ap (λ (contents : Contents). record contents { collections = rows_erased stem some contents.collections }) spare.contents in
    let rows = ap (λ (contents : Contents). contents.collections) erased ∙ ap (λ (state : State). rows_erased stem some state.collections) same in
    let state = ap (λ (contents : Contents). record mid { collections = contents.collections; aliases = contents.aliases; used = contents.used }) erased
    ∙ ap (λ (state : State). record state { collections = rows_erased stem some state.collections }) same in
    leads-done folder.is_honest folder.is_steady folder.faults folder.images folder.may_leave folder.made slot.is_honest slot.is_steady slot.faults slot.moment slot.left_since slot.may_leave conn brought old _ disk _ _ _ _ done
    (leads-as folder.is_honest folder.is_steady folder.faults folder.images folder.may_leave folder.made slot.is_honest slot.is_steady slot.faults slot.moment slot.left_since slot.may_leave conn brought old _ disk _ _ _ _ plan
    (leads-asked folder.is_honest folder.is_steady folder.faults folder.images folder.may_leave folder.made slot.is_honest slot.is_steady slot.faults slot.moment slot.left_since slot.may_leave conn brought old _ disk _ (Erase stem) no_prompt some sends said no_prompt-small state
    (at-moved slot.is_honest slot.is_steady slot.faults slot.moment slot.left_since slot.may_leave stem (fate.Store some) _ _ _ _ _ _ _
    (ap (λ (contents : Contents). contents.collections) spare.contents ∙ ap (λ (state : State). state.collections) same) rows (spare.disk ∙ c.in_ok-said.ensures.disk) c.erase-fate.ensures.disk)))

-- what is refused sends nothing
pub returns-in_default-clause-room : goal.returns-in_default-clause-room
returns-in_default-clause-room g c =
    room-silent c.args.conn c.refused.result.sends c.args.self.now.connections.rooms (ap (λ (done : Done). done.sends) c.refused.ensures) c.requires

pub returns-then-not-is_open-clause-room : goal.returns-then-not-is_open-clause-room
returns-then-not-is_open-clause-room g c =
    room-silent c.args.conn c.refused-then-not-is_open.result.sends c.args.self.now.connections.rooms (ap (λ (done : Done). done.sends) c.refused-then-not-is_open.ensures) c.requires

-- there was room for what is sent, however the removal ended
pub returns-clause-room : goal.returns-clause-room
returns-clause-room g c =
    let said = c.in_ok-said.said in
    room-sent c.args.conn (said_by said.stored.items said.unsure.items c.erase-fate.result) c.by.result.items c.ended.result.sends c.prepare_said.new.self.connections.rooms (sym c.by.ensures)
    (ap (λ (done : Done). done.sends) c.ended.ensures) (c.in_ok-said.ensures.room c.erase-fate.result)
