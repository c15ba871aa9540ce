use Rattle.std.proofs.Common.{◌≡◌, true, false, sym, ◌∙◌}
use Rattle.prompt_state.specs.Prompts.{row_at}
use Rattle.service_calls.specs.service_events.specs.AnswerCalls.{makes_key_row}
use Rattle.service_calls.specs.service_tables.specs.Opened.{contents_of}
use Rattle.service_calls.specs.service_tables.specs.TablesReading.{asked_collections}
use Rattle.service_calls.specs.Rows.{disk_of, rows_of}
use Rattle.service_answers.proofs.AnswerLemmas.{answered-derives, answered-over, room-kept, taken-round, taken-there}
use Rattle.service_calls.proofs.LeadsLemmas.{leads-as, map-ok}
use Rattle.service_answers.proofs.answering.answer_without_target.Goals as goal

pub go_on-requires-clause-there : goal.go_on-requires-clause-there
go_on-requires-clause-there g c = taken-there c.args.prompt c.args.round c.args.conn c.args.tables.now.prompts c.requires.taken

pub go_on-requires-clause-round : goal.go_on-requires-clause-round
go_on-requires-clause-round g c = taken-round c.args.prompt c.args.round c.args.conn c.args.tables.now.prompts c.requires.taken c.requires.below

-- it creates a collection, or changes the password of one
pub returns-then-makes_key-clause-leads : goal.returns-then-makes_key-clause-leads
returns-then-makes_key-clause-leads g c = λ brought.
    let folder = g.F.Folder in
    let slot = g.F.Cell.Slot in
    let conn = c.args.conn in
    let old = rows_of c.args.tables.now in
    let row = row_at c.args.prompt old.prompts in
    let is : makes_key_row (asked_collections (contents_of old)) row ≡ true = sym c.makes_key.ensures ∙ c.if-makes_key.true in
    leads-as folder.is_honest folder.is_steady folder.faults folder.images folder.may_leave folder.made slot.is_honest slot.is_steady slot.faults slot.moment slot.left_since slot.may_leave conn brought old _ (disk_of c.args.tables.now) _ _ _ _
    (answered-derives c.args.prompt c.args.round (asked_collections (contents_of old)) row c.requires.below is) (c.derive.ensures.leads brought)

pub returns-then-makes_key-clause-room : goal.returns-then-makes_key-clause-room
returns-then-makes_key-clause-room g c = room-kept c.args.conn c.derive.result.sends c.args.tables.now.connections c.derive.new.tables.connections c.derive.ensures.silent c.derive.ensures.room c.requires.room

-- no target is left, or the collection isn't unlocked
pub returns-clause-leads : goal.returns-clause-leads
returns-clause-leads g c =
    let folder = g.F.Folder in
    let slot = g.F.Cell.Slot in
    let conn = c.args.conn in
    let old = rows_of c.args.tables.now in
    let row = row_at c.args.prompt old.prompts in
    let is : makes_key_row (asked_collections (contents_of old)) row ≡ false = sym c.makes_key.ensures ∙ c.if-makes_key.false in
    let there = taken-there c.args.prompt c.args.round conn old.prompts c.requires.taken in
    map-ok c.go_on.result _ _
    (λ done leads brought. leads-as folder.is_honest folder.is_steady folder.faults folder.images folder.may_leave folder.made slot.is_honest slot.is_steady slot.faults slot.moment slot.left_since slot.may_leave conn brought old _ _ _ _ _ done
    (answered-over c.args.prompt c.args.round (asked_collections (contents_of old)) row there c.requires.below is c.requires.none) (leads brought))
    c.go_on.ensures.leads
