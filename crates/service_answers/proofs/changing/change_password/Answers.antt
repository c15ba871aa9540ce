use Rattle.std.proofs.Common.{◌≡◌, true, false, refl, sym, subst, ◌∙◌}
use Rattle.service_calls.specs.Done.{HasRoomToReply}
use Rattle.service_calls.specs.Rows.{disk_of, rows_of}
use Rattle.service_calls.specs.service_disk.specs.Making.{AreFree}
use Rattle.service_calls.specs.service_events.specs.Derivation.{are_terms, dismissing, password_changed, stored_under}
use Rattle.service_calls.specs.service_events.specs.Plan.{KeyTerms}
use Rattle.service_calls.specs.service_events.specs.Run.{asked}
use Rattle.service_calls.specs.service_tables.specs.Storing.{Brought}
use Rattle.service_answers.specs.declared.derived_key.Settled.{Settled}
use Rattle.service_calls.proofs.LeadsLemmas.{leads-as, map-ok}
use Rattle.service_answers.proofs.ChangingLemmas.{changed-fit, changed-unfit}
use Rattle.service_answers.proofs.DerivedLemmas.{settles-as, settles-unmade}
use Rattle.service_answers.proofs.NewLemmas.{terms-are}
use Rattle.service_answers.proofs.changing.change_password.Goals as goal

-- the key has other terms
pub returns-then-not-are_terms-clause-settles : goal.returns-then-not-are_terms-clause-settles
returns-then-not-are_terms-clause-settles g c =
    let folder = g.F.Folder in
    let slot = g.F.Cell.Slot in
    let conn = c.args.conn in
    let prompt = c.args.prompt in
    let stem = c.args.stem.now in
    let salt = c.args.salt.now in
    let key = c.args.key in
    let brought : Brought = record { now = c.args.now; value = key.password } in
    let terms : KeyTerms = record { salt = key.salt; iterations = key.iterations } in
    let old = rows_of c.args.tables.now in
    let disk = disk_of c.args.tables.now in
    let asks = asked conn brought old in
    let off : are_terms salt terms ≡ false = terms-are c.are_terms.result salt terms c.are_terms.ensures.terms ∙ c.if-not-are_terms.true in
    let after = rows_of c.end_dismissed.new.self in
    let new = disk_of c.end_dismissed.new.self in
    let done = c.in_ok-end_dismissed.field-0 in
    settles-unmade folder.is_honest folder.is_steady folder.faults folder.images folder.may_leave folder.made slot.is_honest slot.is_steady slot.faults slot.moment slot.left_since slot.may_leave conn brought old after disk new (password_changed prompt stem salt terms asks) done c.unmade.result c.unmade.ensures
    (leads-as folder.is_honest folder.is_steady folder.faults folder.images folder.may_leave folder.made slot.is_honest slot.is_steady slot.faults slot.moment slot.left_since slot.may_leave conn brought old after disk new (password_changed prompt stem salt terms asks) (dismissing prompt) done (changed-unfit prompt stem salt terms asks off)
    (c.in_ok-end_dismissed.ensures.leads brought))

pub returns-then-not-are_terms-clause-free : goal.returns-then-not-are_terms-clause-free
returns-then-not-are_terms-clause-free g c =
    let folder = g.F.Folder in
    let slot = g.F.Cell.Slot in
    subst (AreFree folder.is_honest folder.images folder.may_leave folder.made slot.is_honest slot.may_leave) (sym (c.in_ok-end_dismissed.ensures.leads (record { now = 0; value = c.args.stem.now })).disk) c.requires.free

pub returns-then-not-are_terms-clause-room : goal.returns-then-not-are_terms-clause-room
returns-then-not-are_terms-clause-room g c =
    let rooms = c.end_dismissed.new.self.connections.rooms in
    subst (λ (s : Settled). HasRoomToReply c.args.conn s.done.sends rooms) (sym c.unmade.ensures) c.in_ok-end_dismissed.ensures.room

pub returns-in_err-end_dismissed-clause-free : goal.returns-in_err-end_dismissed-clause-free
returns-in_err-end_dismissed-clause-free g c =
    let folder = g.F.Folder in
    let slot = g.F.Cell.Slot in
    subst (AreFree folder.is_honest folder.images folder.may_leave folder.made slot.is_honest slot.may_leave) (sym c.in_err-end_dismissed.ensures.unchanged.1) c.requires.free

-- it has those of the work
pub store_under-requires-clause-iterations : goal.store_under-requires-clause-iterations
store_under-requires-clause-iterations g c = (c.are_terms.ensures.terms.0 c.if-not-are_terms.false).1

pub returns-clause-settles : goal.returns-clause-settles
returns-clause-settles g c =
    let folder = g.F.Folder in
    let slot = g.F.Cell.Slot in
    let conn = c.args.conn in
    let prompt = c.args.prompt in
    let stem = c.args.stem.now in
    let salt = c.args.salt.now in
    let key = c.args.key in
    let brought : Brought = record { now = c.args.now; value = key.password } in
    let terms : KeyTerms = record { salt = key.salt; iterations = key.iterations } in
    let old = rows_of c.args.tables.now in
    let asks = asked conn brought old in
    let on : are_terms salt terms ≡ true = terms-are c.are_terms.result salt terms c.are_terms.ensures.terms ∙ c.if-not-are_terms.false in
    map-ok c.store_under.result _ _
    (λ settled its. settles-as folder.is_honest folder.is_steady folder.faults folder.images folder.may_leave folder.made slot.is_honest slot.is_steady slot.faults slot.moment slot.left_since slot.may_leave conn brought old (rows_of c.store_under.new.tables) (disk_of c.args.tables.now) (disk_of c.store_under.new.tables)
    (password_changed prompt stem salt terms asks) (stored_under prompt stem terms asks) settled (changed-fit prompt stem salt terms asks on) its)
    c.store_under.ensures.settles
