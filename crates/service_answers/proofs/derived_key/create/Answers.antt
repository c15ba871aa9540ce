use Rattle.std.proofs.Common.{◌≡◌, true, false, sym, subst, ◌∙◌}
use Rattle.service_calls.specs.service_disk.specs.Making.{AreFree}
use Rattle.service_calls.specs.service_tables.specs.Storing.{Brought}
use Rattle.service_calls.specs.service_events.specs.Derivation.{can_make, collection_made, dismissing}
use Rattle.service_calls.specs.service_events.specs.Plan.{KeyTerms}
use Rattle.service_calls.specs.Rows.{disk_of, rows_of}
use Rattle.service_calls.specs.service_events.specs.Run.{asked}
use Rattle.service_calls.specs.Done.{HasRoomToReply}
use Rattle.service_answers.specs.declared.derived_key.Settled.{Settled}
use Rattle.service_answers.proofs.DerivedLemmas.{keeps-as, map-err, settles-as, settles-unmade}
use Rattle.service_calls.proofs.LeadsLemmas.{leads-as, map-ok}
use Rattle.service_answers.proofs.NewLemmas.{can-parts, can-plan, cannot-plan}
use Rattle.service_answers.proofs.derived_key.create.Goals as goal

-- it can't be made
pub returns-then-not-can_make-clause-settles : goal.returns-then-not-can_make-clause-settles
returns-then-not-can_make-clause-settles g c =
    let folder = g.F.Folder in
    let slot = g.F.Cell.Slot in
    let conn = c.args.conn in
    let prompt = c.args.prompt in
    let alias = c.args.alias in
    let label = c.args.label in
    let salt = c.args.salt in
    let key = c.args.key in
    let brought : Brought = record { now = c.args.now; value = key.password } in
    let terms : KeyTerms = record { salt = key.salt; iterations = key.iterations } in
    let old = rows_of c.args.tables.now in
    let disk = disk_of c.args.tables.now in
    let asks = asked conn brought old in
    let off : can_make label salt terms asks ≡ false = sym (c.can_make.ensures conn c.args.now) ∙ c.if-not-can_make.true in
    let after = rows_of c.end_dismissed.new.self in
    let new = disk_of c.end_dismissed.new.self in
    let done = c.in_ok-end_dismissed.field-0 in
    settles-unmade folder.is_honest folder.is_steady folder.faults folder.images folder.may_leave folder.made slot.is_honest slot.is_steady slot.faults slot.moment slot.left_since slot.may_leave conn brought old after disk new (collection_made prompt label alias salt terms asks) done c.unmade.result c.unmade.ensures
    (leads-as folder.is_honest folder.is_steady folder.faults folder.images folder.may_leave folder.made slot.is_honest slot.is_steady slot.faults slot.moment slot.left_since slot.may_leave conn brought old after disk new (collection_made prompt label alias salt terms asks) (dismissing prompt) done (cannot-plan label salt terms asks prompt alias off)
    (c.in_ok-end_dismissed.ensures.leads brought))

pub returns-then-not-can_make-clause-free : goal.returns-then-not-can_make-clause-free
returns-then-not-can_make-clause-free g c =
    let folder = g.F.Folder in
    let slot = g.F.Cell.Slot in
    subst (AreFree folder.is_honest folder.images folder.may_leave folder.made slot.is_honest slot.may_leave) (sym (c.in_ok-end_dismissed.ensures.leads (record { now = 0; value = c.args.alias })).disk) c.requires.free

pub returns-then-not-can_make-clause-room : goal.returns-then-not-can_make-clause-room
returns-then-not-can_make-clause-room g c =
    let rooms = c.end_dismissed.new.self.connections.rooms in
    subst (λ (s : Settled). HasRoomToReply c.args.conn s.done.sends rooms) (sym c.unmade.ensures) c.in_ok-end_dismissed.ensures.room

pub returns-in_err-end_dismissed-clause-free : goal.returns-in_err-end_dismissed-clause-free
returns-in_err-end_dismissed-clause-free g c =
    let folder = g.F.Folder in
    let slot = g.F.Cell.Slot in
    subst (AreFree folder.is_honest folder.images folder.may_leave folder.made slot.is_honest slot.may_leave) (sym c.in_err-end_dismissed.ensures.unchanged.1) c.requires.free

-- it can
pub make_new-requires-clause-iterations : goal.make_new-requires-clause-iterations
make_new-requires-clause-iterations g c =
    let folder = g.F.Folder in
    let slot = g.F.Cell.Slot in
    let conn = c.args.conn in
    let prompt = c.args.prompt in
    let alias = c.args.alias in
    let label = c.args.label in
    let salt = c.args.salt in
    let key = c.args.key in
    let brought : Brought = record { now = c.args.now; value = key.password } in
    let terms : KeyTerms = record { salt = key.salt; iterations = key.iterations } in
    let old = rows_of c.args.tables.now in
    let disk = disk_of c.args.tables.now in
    let asks = asked conn brought old in
    let on : can_make label salt terms asks ≡ true = sym (c.can_make.ensures conn c.args.now) ∙ c.if-not-can_make.false in
    (can-parts label salt terms asks on).0

pub make_new-requires-clause-room : goal.make_new-requires-clause-room
make_new-requires-clause-room g c =
    let folder = g.F.Folder in
    let slot = g.F.Cell.Slot in
    let conn = c.args.conn in
    let prompt = c.args.prompt in
    let alias = c.args.alias in
    let label = c.args.label in
    let salt = c.args.salt in
    let key = c.args.key in
    let brought : Brought = record { now = c.args.now; value = key.password } in
    let terms : KeyTerms = record { salt = key.salt; iterations = key.iterations } in
    let old = rows_of c.args.tables.now in
    let disk = disk_of c.args.tables.now in
    let asks = asked conn brought old in
    let on : can_make label salt terms asks ≡ true = sym (c.can_make.ensures conn c.args.now) ∙ c.if-not-can_make.false in
    (can-parts label salt terms asks on).1

pub returns-clause-settles : goal.returns-clause-settles
returns-clause-settles g c =
    let folder = g.F.Folder in
    let slot = g.F.Cell.Slot in
    let conn = c.args.conn in
    let prompt = c.args.prompt in
    let alias = c.args.alias in
    let label = c.args.label in
    let salt = c.args.salt in
    let key = c.args.key in
    let brought : Brought = record { now = c.args.now; value = key.password } in
    let terms : KeyTerms = record { salt = key.salt; iterations = key.iterations } in
    let old = rows_of c.args.tables.now in
    let disk = disk_of c.args.tables.now in
    let asks = asked conn brought old in
    let on : can_make label salt terms asks ≡ true = sym (c.can_make.ensures conn c.args.now) ∙ c.if-not-can_make.false in
    map-ok c.make_new.result _ _
    (λ settled its. settles-as folder.is_honest folder.is_steady folder.faults folder.images folder.may_leave folder.made slot.is_honest slot.is_steady slot.faults slot.moment slot.left_since slot.may_leave conn brought old (rows_of c.make_new.new.tables) disk (disk_of c.make_new.new.tables) _ _ settled (can-plan label salt terms asks prompt alias on) its)
    c.make_new.ensures.settles

pub returns-clause-kept : goal.returns-clause-kept
returns-clause-kept g c =
    let folder = g.F.Folder in
    let slot = g.F.Cell.Slot in
    let conn = c.args.conn in
    let prompt = c.args.prompt in
    let alias = c.args.alias in
    let label = c.args.label in
    let salt = c.args.salt in
    let key = c.args.key in
    let brought : Brought = record { now = c.args.now; value = key.password } in
    let terms : KeyTerms = record { salt = key.salt; iterations = key.iterations } in
    let asks = asked conn brought (rows_of c.args.tables.now) in
    let on : can_make label salt terms asks ≡ true = sym (c.can_make.ensures conn c.args.now) ∙ c.if-not-can_make.false in
    map-err c.make_new.result _ _
    (keeps-as folder.is_honest folder.is_steady folder.faults folder.images folder.may_leave folder.made slot.is_honest slot.is_steady slot.faults slot.left_since (disk_of c.args.tables.now) (disk_of c.make_new.new.tables) _ _ (can-plan label salt terms asks prompt alias on))
    c.make_new.ensures.kept
