use Rattle.std.proofs.Common.{◌≡◌, true, false, sym, ◌∙◌}
use Rattle.service_calls.specs.collection_table.specs.Rows.{has, is_open}
use Rattle.service_calls.specs.Rows.{disk_of, rows_of}
use Rattle.service_calls.specs.service_events.specs.Run.{asked}
use Rattle.service_answers.proofs.AnswerLemmas.{room-kept, taken-round, taken-there, target-gone, target-locked, target-open}
use Rattle.service_calls.proofs.LeadsLemmas.{leads-as, map-ok}
use Rattle.service_answers.proofs.answering.answer_known.Goals as goal

pub go_on-requires-clause-there : goal.go_on-requires-clause-there
go_on-requires-clause-there g c = taken-there c.args.prompt c.args.round c.args.conn c.args.tables.now.prompts c.requires.taken

pub go_on-requires-clause-round : goal.go_on-requires-clause-round
go_on-requires-clause-round g c = taken-round c.args.prompt c.args.round c.args.conn c.args.tables.now.prompts c.requires.taken c.requires.below

pub go_on-requires-then-is_open-clause-there : goal.go_on-requires-then-is_open-clause-there
go_on-requires-then-is_open-clause-there g c = taken-there c.args.prompt c.args.round c.args.conn c.args.tables.now.prompts c.requires.taken

pub go_on-requires-then-is_open-clause-round : goal.go_on-requires-then-is_open-clause-round
go_on-requires-then-is_open-clause-round g c = taken-round c.args.prompt c.args.round c.args.conn c.args.tables.now.prompts c.requires.taken c.requires.below

-- the collection is gone
pub returns-then-not-has-clause-leads : goal.returns-then-not-has-clause-leads
returns-then-not-has-clause-leads g c =
    let folder = g.F.Folder in
    let slot = g.F.Cell.Slot in
    let conn = c.args.conn in
    let old = rows_of c.args.tables.now in
    let gone : has c.args.stem.now old.collections ≡ false = sym c.has.ensures ∙ c.if-not-has.true in
    map-ok c.go_on.result _ _
    (λ done leads brought. leads-as folder.is_honest folder.is_steady folder.faults folder.images folder.may_leave folder.made slot.is_honest slot.is_steady slot.faults slot.moment slot.left_since slot.may_leave conn brought old _ _ _ _ _ done
    (target-gone c.args.prompt c.args.round (asked conn brought old) c.args.stem.now gone) (leads brought))
    c.go_on.ensures.leads

-- it is unlocked by now
pub returns-then-is_open-clause-leads : goal.returns-then-is_open-clause-leads
returns-then-is_open-clause-leads g c =
    let folder = g.F.Folder in
    let slot = g.F.Cell.Slot in
    let conn = c.args.conn in
    let old = rows_of c.args.tables.now in
    let there : has c.args.stem.now old.collections ≡ true = sym c.has.ensures ∙ c.if-not-has.false in
    let unlocked : is_open c.args.stem.now old.collections ≡ true = sym c.is_open.ensures ∙ c.if-is_open.true in
    map-ok c.go_on-then-is_open.result _ _
    (λ done leads brought. leads-as folder.is_honest folder.is_steady folder.faults folder.images folder.may_leave folder.made slot.is_honest slot.is_steady slot.faults slot.moment slot.left_since slot.may_leave conn brought old _ _ _ _ _ done
    (target-open c.args.prompt c.args.round (asked conn brought old) c.args.stem.now there unlocked) (leads brought))
    c.go_on-then-is_open.ensures.leads

-- it is locked
pub returns-clause-leads : goal.returns-clause-leads
returns-clause-leads g c = λ brought.
    let folder = g.F.Folder in
    let slot = g.F.Cell.Slot in
    let conn = c.args.conn in
    let old = rows_of c.args.tables.now in
    let there : has c.args.stem.now old.collections ≡ true = sym c.has.ensures ∙ c.if-not-has.false in
    let locked : is_open c.args.stem.now old.collections ≡ false = sym c.is_open.ensures ∙ c.if-is_open.false in
    leads-as folder.is_honest folder.is_steady folder.faults folder.images folder.may_leave folder.made slot.is_honest slot.is_steady slot.faults slot.moment slot.left_since slot.may_leave conn brought old _ (disk_of c.args.tables.now) _ _ _ _
    (target-locked c.args.prompt c.args.round (asked conn brought old) c.args.stem.now there locked) (c.derive.ensures.leads brought)

pub returns-clause-room : goal.returns-clause-room
returns-clause-room g c = room-kept c.args.conn c.derive.result.sends c.args.tables.now.connections c.derive.new.tables.connections c.derive.ensures.silent c.derive.ensures.room c.requires.room
