use Rattle.std.proofs.Common.{◌≡◌, true, [], ◌++◌, None, Some, Err, refl, sym, ap, subst, ◌∙◌}
use Rattle.service_calls.specs.service_disk.specs.Resolving.{rows_resolved}
use Rattle.service_calls.specs.collection_table.specs.Rows.{has}
use Rattle.service_calls.specs.service_tables.specs.Connections.{spread}
use Rattle.service_calls.specs.service_tables.specs.Disk.{contents_in, disk_state}
use Rattle.service_calls.specs.service_tables.specs.Opened.{Contents, contents_of}
use Rattle.service_calls.specs.service_tables.specs.Slots.{StoresAt}
use Rattle.service_calls.specs.service_tables.specs.State.{State}
use Rattle.service_calls.specs.service_events.specs.AnswerCalls.{target_answered}
use Rattle.service_calls.specs.Rows.{disk_of, rows_of}
use Rattle.service_calls.specs.service_events.specs.Plan.{Collection_file, refused}
use Rattle.service_calls.specs.service_events.specs.Run.{asked, sent_settled, settled}
use Rattle.service_calls.specs.secret_calls.specs.declared.out.ErrorName.TheVariants as name
use Rattle.service_calls.specs.service_tables.specs.declared.fate.Fate.TheVariants as fate
use Rattle.service_calls.specs.service_tables.specs.declared.fate.ReadFate.TheVariants as ends
use Rattle.service_calls.specs.Done.{HasRoomToReply, Leads}
use Rattle.service_calls.specs.declared.storing.Done.{Done}
use Rattle.service_answers.specs.Settled.{advance_unless, found_by}
use Rattle.service_answers.proofs.AnswerLemmas.{found-said, locked-read, read-well, rows-read, state-read, taken-round, taken-there}
use Rattle.service_calls.proofs.LeadsLemmas.{at-moved, leads-done, leads-refused, room-sent, settles-read, settles-unread}
use Rattle.service_answers.proofs.answering.answer_in_doubt.Goals as goal

pub prepare_found-requires-clause-there : goal.prepare_found-requires-clause-there
prepare_found-requires-clause-there g c = taken-there c.args.prompt c.args.round c.args.conn c.args.tables.now.prompts c.requires.taken

pub prepare_found-requires-clause-round : goal.prepare_found-requires-clause-round
prepare_found-requires-clause-round g c = taken-round c.args.prompt c.args.round c.args.conn c.args.tables.now.prompts c.requires.taken c.requires.below

-- the collection is locked by now
pub answer_found-requires-clause-locked : goal.answer_found-requires-clause-locked
answer_found-requires-clause-locked g c =
    let stem = c.args.stem.now in
    let old = rows_of c.args.tables.now in
    let read = c.resolve-read.result in
    let prepared = contents_in c.prepare_resolve.new.disk in
    let found = contents_in c.resolve-read.new.disk in
    let mid = rows_of (record c.prepare_found.new.tables { disk = c.resolve-read.new.disk }) in
    let its = c.resolve-read.ensures in
    let first = c.prepare_resolve.ensures.contents ∙ ap contents_of c.in_ok-said.ensures.rows in
    let third : mid ≡ record old { collections = found.collections; aliases = found.aliases; used = found.used } =
    ap (λ (s : State). record s { collections = found.collections; aliases = found.aliases; used = found.used }) c.in_ok-said.ensures.rows in
    let state = state-read stem c.in_ok-taken.taken read old mid prepared found c.in_ok-taken.ensures first its.resolved third in
    locked-read c.args.conn c.args.prompt stem read old mid state c.in_default.not-ReadFailed

-- there was room for what is sent, whatever was found
pub answer_found-requires-clause-room : goal.answer_found-requires-clause-room
answer_found-requires-clause-room g c =
    let said = c.in_ok-said.said in
    let read = c.resolve-read.result in
    let these = found_by said.gone.items said.newer.items read c.has-left.result in
    room-sent c.args.conn these these c.by-sends.result.items c.prepare_found.new.tables.connections.rooms refl c.by-sends.ensures (c.in_ok-said.ensures.room read c.has-left.result)

-- the file couldn't be read
pub returns-in-ReadFailed-clause-leads : goal.returns-in-ReadFailed-clause-leads
returns-in-ReadFailed-clause-leads g c = λ brought.
    let folder = g.F.Folder in
    let slot = g.F.Cell.Slot in
    let conn = c.args.conn in
    let prompt = c.args.prompt in
    let round = c.args.round in
    let disk = disk_of c.args.tables.now in
    let stem = c.args.stem.now in
    let old = rows_of c.args.tables.now in
    let read = c.resolve-read.result in
    let prepared = contents_in c.prepare_resolve.new.disk in
    let found = contents_in c.resolve-read.new.disk in
    let mid = rows_of (record c.prepare_found.new.tables { disk = c.resolve-read.new.disk }) in
    let its = c.resolve-read.ensures in
    let first = c.prepare_resolve.ensures.contents ∙ ap contents_of c.in_ok-said.ensures.rows in
    let third : mid ≡ record old { collections = found.collections; aliases = found.aliases; used = found.used } =
    ap (λ (s : State). record s { collections = found.collections; aliases = found.aliases; used = found.used }) c.in_ok-said.ensures.rows in
    let state = state-read stem c.in_ok-taken.taken read old mid prepared found c.in_ok-taken.ensures first its.resolved third in
    let was = disk_state c.prepare_resolve.new.disk in
    let is = disk_state c.resolve-read.new.disk in
    let rows = rows-read stem c.in_ok-taken.taken read old mid prepared found c.in_ok-taken.ensures first its.resolved third in
    let stores = at-moved slot.is_honest slot.is_steady slot.faults slot.moment slot.left_since slot.may_leave stem (fate.Read read) prepared.collections old.collections found.collections (rows_resolved stem read old.collections) was disk is (ap (λ (k : Contents). k.collections) first) rows
    (c.prepare_resolve.ensures.disk ∙ c.in_ok-said.ensures.disk) (subst (λ s. StoresAt slot.is_honest slot.is_steady slot.faults slot.moment slot.left_since slot.may_leave s (fate.Read read) prepared.collections found.collections was is) c.in_ok-taken.ensures its.disk) in
    let reread = settled (Collection_file stem) read old in
    let silent : [] ≡ spread old.connections.rows (sent_settled (Collection_file stem) read old) ++ [] =
    ap (λ r. spread old.connections.rows (sent_settled (Collection_file stem) r old) ++ []) (sym c.in-ReadFailed.is) in
    leads-done folder.is_honest folder.is_steady folder.faults folder.images folder.may_leave folder.made slot.is_honest slot.is_steady slot.faults slot.moment slot.left_since slot.may_leave conn brought old mid disk is _ _ _ c.unread.ensures
    (settles-unread folder.is_honest folder.is_steady folder.faults folder.images folder.may_leave folder.made slot.is_honest slot.is_steady slot.faults slot.moment slot.left_since slot.may_leave conn brought (Collection_file stem) (refused name.IOError) (target_answered prompt round stem) old mid disk is is (record { answer = Err name.IOError; sends = []; read = None; fate = None }) c.requires.doubt refl read c.in-ReadFailed.is [] silent stores
    (leads-refused folder.is_honest folder.is_steady folder.faults folder.images folder.may_leave folder.made slot.is_honest slot.is_steady slot.faults slot.moment slot.left_since slot.may_leave conn brought reread mid is is name.IOError state refl))

pub returns-in-ReadFailed-clause-room : goal.returns-in-ReadFailed-clause-room
returns-in-ReadFailed-clause-room g c =
    let conn = c.args.conn in
    let rooms = c.prepare_found.new.tables.connections.rooms in
    subst (λ sends. HasRoomToReply conn sends rooms) (sym (ap (λ (done : Done). done.sends) c.unread.ensures)) (c.in_ok-said.ensures.room ends.ReadFailed true)

-- it was read, and what was found continues
pub returns-in_default-clause-leads : goal.returns-in_default-clause-leads
returns-in_default-clause-leads g c = λ brought.
    let folder = g.F.Folder in
    let slot = g.F.Cell.Slot in
    let conn = c.args.conn in
    let prompt = c.args.prompt in
    let round = c.args.round in
    let disk = disk_of c.args.tables.now in
    let stem = c.args.stem.now in
    let old = rows_of c.args.tables.now in
    let read = c.resolve-read.result in
    let prepared = contents_in c.prepare_resolve.new.disk in
    let found = contents_in c.resolve-read.new.disk in
    let mid = rows_of (record c.prepare_found.new.tables { disk = c.resolve-read.new.disk }) in
    let its = c.resolve-read.ensures in
    let first = c.prepare_resolve.ensures.contents ∙ ap contents_of c.in_ok-said.ensures.rows in
    let third : mid ≡ record old { collections = found.collections; aliases = found.aliases; used = found.used } =
    ap (λ (s : State). record s { collections = found.collections; aliases = found.aliases; used = found.used }) c.in_ok-said.ensures.rows in
    let state = state-read stem c.in_ok-taken.taken read old mid prepared found c.in_ok-taken.ensures first its.resolved third in
    let was = disk_state c.prepare_resolve.new.disk in
    let is = disk_state c.resolve-read.new.disk in
    let rows = rows-read stem c.in_ok-taken.taken read old mid prepared found c.in_ok-taken.ensures first its.resolved third in
    let stores = at-moved slot.is_honest slot.is_steady slot.faults slot.moment slot.left_since slot.may_leave stem (fate.Read read) prepared.collections old.collections found.collections (rows_resolved stem read old.collections) was disk is (ap (λ (k : Contents). k.collections) first) rows
    (c.prepare_resolve.ensures.disk ∙ c.in_ok-said.ensures.disk) (subst (λ s. StoresAt slot.is_honest slot.is_steady slot.faults slot.moment slot.left_since slot.may_leave s (fate.Read read) prepared.collections found.collections was is) c.in_ok-taken.ensures its.disk) in
    let after = rows_of c.answer_found.new.tables in
    let new = disk_of c.answer_found.new.tables in
    let well = c.in_default.not-ReadFailed in
    let said = c.in_ok-said.said in
    let sends = c.by-sends.result.items in
    let rest = spread mid.connections.rows (advance_unless (has stem mid.collections) conn prompt mid) in
    let found_done = c.answer_found.result in
    let done : Done = record found_done { sends = rest } in
    let sent : sends ≡ spread old.connections.rows (sent_settled (Collection_file stem) read old) ++ rest =
    c.by-sends.ensures ∙ found-said conn prompt stem read old mid state c.has-left.result said.gone.items said.newer.items well c.requires.doubt c.has-left.ensures c.in_ok-said.ensures.gone c.in_ok-said.ensures.newer in
    let leads = subst (λ (s : State). Leads folder.is_honest folder.is_steady folder.faults folder.images folder.may_leave folder.made slot.is_honest slot.is_steady slot.faults slot.moment slot.left_since slot.may_leave conn brought (target_answered prompt round stem (asked conn brought s)) s after is new done) state (c.answer_found.ensures.leads brought rest refl) in
    leads-done folder.is_honest folder.is_steady folder.faults folder.images folder.may_leave folder.made slot.is_honest slot.is_steady slot.faults slot.moment slot.left_since slot.may_leave conn brought old after disk new _ _ _
    (c.after.ensures ∙ (λ i. record { answer = found_done.answer; sends = c.answer_found.ensures.sends i; read = Some read; fate = found_done.fate }))
    (settles-read folder.is_honest folder.is_steady folder.faults folder.images folder.may_leave folder.made slot.is_honest slot.is_steady slot.faults slot.moment slot.left_since slot.may_leave conn brought (Collection_file stem) (refused name.IOError) (target_answered prompt round stem) old after disk new is done c.requires.doubt c.answer_found.ensures.unread read
    (read-well read well) sends sent stores leads)

pub returns-in_default-clause-room : goal.returns-in_default-clause-room
returns-in_default-clause-room g c =
    subst (λ sends. HasRoomToReply c.args.conn sends c.answer_found.new.tables.connections.rooms) (sym (ap (λ (done : Done). done.sends) c.after.ensures)) c.answer_found.ensures.room
