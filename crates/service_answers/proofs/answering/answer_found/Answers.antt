use Rattle.std.proofs.Common.{◌≡◌, true, false, cond, [], ◌∷◌, sym, ap, subst, ◌∙◌}
use Rattle.std.proofs.lemmas.List.{append-nil}
use Rattle.service_calls.specs.collection_table.specs.Rows.{has}
use Rattle.service_calls.specs.service_events.specs.PublicBody as public
use Rattle.service_calls.specs.service_tables.specs.Connections.{spread}
use Rattle.service_calls.specs.service_tables.specs.Desks.{Table}
use Rattle.service_calls.specs.service_events.specs.Plan.{Go_on}
use Rattle.service_calls.specs.Rows.{disk_of, rows_of}
use Rattle.service_calls.specs.service_events.specs.Run.{asked, sent_by}
use Rattle.service_calls.specs.Done.{HasRoomToReply}
use Rattle.service_calls.specs.declared.storing.Done.{Done}
use Rattle.service_answers.proofs.AnswerLemmas.{target-gone, target-locked, taken-round, taken-there}
use Rattle.service_calls.specs.service_events.proofs.SmallLemmas.{empty-small}
use Rattle.service_calls.proofs.LeadsLemmas.{leads-as, leads-changes, leads-done}
use Rattle.service_answers.proofs.answering.answer_found.Goals as goal

pub go_on_now-requires-clause-there : goal.go_on_now-requires-clause-there
go_on_now-requires-clause-there g c = taken-there c.args.prompt c.args.round c.args.conn c.args.tables.now.prompts c.requires.taken

pub go_on_now-requires-clause-round : goal.go_on_now-requires-clause-round
go_on_now-requires-clause-round g c = taken-round c.args.prompt c.args.round c.args.conn c.args.tables.now.prompts c.requires.taken c.requires.below

-- the collection is there, and locked
pub returns-then-has-clause-leads : goal.returns-then-has-clause-leads
returns-then-has-clause-leads g c = λ brought rest is.
    let folder = g.F.Folder in
    let slot = g.F.Cell.Slot in
    let conn = c.args.conn in
    let old = rows_of c.args.tables.now in
    let there : has c.args.stem.now old.collections ≡ true = sym c.has.ensures ∙ c.if-has.true in
    let none : rest ≡ c.derive-derived.result.sends =
    is ∙ ap (λ b. spread old.connections.rows (cond b [] (sent_by conn (Go_on c.args.prompt) old))) there ∙ sym c.derive-derived.ensures.silent in
    leads-done folder.is_honest folder.is_steady folder.faults folder.images folder.may_leave folder.made slot.is_honest slot.is_steady slot.faults slot.moment slot.left_since slot.may_leave conn brought old (rows_of c.derive-derived.new.tables) (disk_of c.args.tables.now) (disk_of c.derive-derived.new.tables) _ (record c.derive-derived.result { sends = rest }) c.derive-derived.result
    (λ i. record c.derive-derived.result { sends = none i })
    (leads-as folder.is_honest folder.is_steady folder.faults folder.images folder.may_leave folder.made slot.is_honest slot.is_steady slot.faults slot.moment slot.left_since slot.may_leave conn brought old _ (disk_of c.args.tables.now) _ _ _ _
    (target-locked c.args.prompt c.args.round (asked conn brought old) c.args.stem.now there c.requires.locked) (c.derive-derived.ensures.leads brought))

pub returns-then-has-clause-room : goal.returns-then-has-clause-room
returns-then-has-clause-room g c =
    let conn = c.args.conn in
    let rooms = c.args.tables.now.connections.rooms in
    subst (λ (table : Table). HasRoomToReply conn c.new.result table.rooms) (sym c.derive-derived.ensures.room)
    (subst (λ sends. HasRoomToReply conn sends rooms) (sym c.new.ensures) c.requires.room)

-- it is gone
pub returns-clause-leads : goal.returns-clause-leads
returns-clause-leads g c = λ brought rest is.
    let folder = g.F.Folder in
    let slot = g.F.Cell.Slot in
    let conn = c.args.conn in
    let prompt = c.args.prompt in
    let old = rows_of c.args.tables.now in
    let disk = disk_of c.args.tables.now in
    let gone : has c.args.stem.now old.collections ≡ false = sym c.has.ensures ∙ c.if-has.false in
    let done : Done = record c.sending.result { sends = rest } in
    let rows = old.connections.rows in
    let sent : rest ≡ spread rows (sent_by conn (Go_on prompt) old) = is ∙ ap (λ b. spread rows (cond b [] (sent_by conn (Go_on prompt) old))) gone in
    leads-as folder.is_honest folder.is_steady folder.faults folder.images folder.may_leave folder.made slot.is_honest slot.is_steady slot.faults slot.moment slot.left_since slot.may_leave conn brought old _ disk _ _ _ _
    (target-gone prompt c.args.round (asked conn brought old) c.args.stem.now gone)
    (leads-changes folder.is_honest folder.is_steady folder.faults folder.images folder.may_leave folder.made slot.is_honest slot.is_steady slot.faults slot.moment slot.left_since slot.may_leave conn brought old _ disk _ public.Empty (Go_on prompt ∷ []) done
    (ap (λ (d : Done). d.answer) c.sending.ensures) (sent ∙ ap (spread rows) (sym (append-nil (sent_by conn (Go_on prompt) old)))) (ap (λ (d : Done). d.read) c.sending.ensures) (ap (λ (d : Done). d.fate) c.sending.ensures)
    empty-small c.go_on_now.ensures.rows c.go_on_now.ensures.disk)

pub returns-clause-room : goal.returns-clause-room
returns-clause-room g c =
    let conn = c.args.conn in
    let rooms = c.args.tables.now.connections.rooms in
    subst (λ (table : Table). HasRoomToReply conn c.sending.result.sends table.rooms) (sym c.go_on_now.ensures.room)
    (subst (λ sends. HasRoomToReply conn sends rooms) (sym (ap (λ (done : Done). done.sends) c.sending.ensures)) c.requires.room)

-- what was given is sent
pub returns-clause-sends : goal.returns-clause-sends
returns-clause-sends g c = ap (λ (done : Done). done.sends) c.sending.ensures
