use Rattle.std.proofs.Common.{◌≡◌, ◌++◌, Contains, List, sym, ap, subst, ◌∙◌, arith}
use Rattle.key_derivation.specs.Kdf.{key_of, vector_of}
use Rattle.service_calls.specs.collection_table.specs.Rows.{has, stored}
use Rattle.service_calls.specs.service_disk.specs.Making as making
use Rattle.service_calls.specs.service_disk.specs.Making.{AreFree}
use Rattle.service_calls.specs.service_tables.specs.Connections.{spread}
use Rattle.service_calls.specs.service_tables.specs.Desks.{Table}
use Rattle.service_calls.specs.service_tables.specs.Disk.{contents_in, disk_state}
use Rattle.service_calls.specs.service_tables.specs.Opened.{Contents}
use Rattle.service_calls.specs.service_tables.specs.State.{State}
use Rattle.service_calls.specs.service_tables.specs.Storing.{Brought}
use Rattle.service_calls.specs.service_tables.specs.signal_fanout.specs.declared.rows.ConnRow.{ConnRow}
use Rattle.service_calls.specs.service_tables.specs.declared.fate.StoreFate.TheVariants as fates
use Rattle.service_calls.specs.service_events.specs.Derivation.{making_ended}
use Rattle.service_calls.specs.service_events.specs.Plan.{Asks, KeyTerms, Make}
use Rattle.service_answers.specs.Purposes.{SetsAlias}
use Rattle.service_calls.specs.Rows.{disk_of, rows_of}
use Rattle.service_calls.specs.service_events.specs.Run.{demanded, sent_asked}
use Rattle.service_answers.specs.Settled.{ended_sent}
use Rattle.service_calls.specs.Done.{HasRoomToReply}
use Rattle.service_answers.proofs.DerivedLemmas.{settles-as, settles-made}
use Rattle.service_answers.proofs.NewLemmas.{ended-anyway, free-aliases, sets-prepared}
use Rattle.service_answers.proofs.derived_key.make_new.Goals as goal

-- the stem isn't used, and is free
pub make-requires-clause-unused : goal.make-requires-clause-unused
make-requires-clause-unused g c = λ is. c.in_ok-stem.ensures.unused (subst (λ (s : State). Contains s.used c.in_ok-stem.field-0.stem) c.prepare_new.ensures.rows is)

pub make-requires-clause-unlisted : goal.make-requires-clause-unlisted
make-requires-clause-unlisted g c = ap (λ (s : State). has c.in_ok-stem.field-0.stem s.collections) c.prepare_new.ensures.rows ∙ c.in_ok-stem.ensures.unlisted

pub make-requires-clause-free : goal.make-requires-clause-free
make-requires-clause-free g c =
    let folder = g.F.Folder in
    let slot = g.F.Cell.Slot in
    subst (AreFree folder.is_honest folder.images folder.may_leave folder.made slot.is_honest slot.may_leave) (sym c.prepare_new.ensures.disk) c.requires.free

-- the collection can be made
pub make-requires-clause-iterations : goal.make-requires-clause-iterations
make-requires-clause-iterations g c = omega (arith, c.requires.iterations)

pub make-requires-clause-room : goal.make-requires-clause-room
make-requires-clause-room g c =
    ap (λ (s : State). making.has_room (record { label = c.args.label; key = c.args.key; now = c.args.now }) s.collections) c.prepare_new.ensures.rows ∙ c.requires.room

-- its alias was prepared
pub end_made-done-requires-clause-prepared : goal.end_made-done-requires-clause-prepared
end_made-done-requires-clause-prepared g c =
    let folder = g.F.Folder in
    let slot = g.F.Cell.Slot in
    let conn = c.args.conn in
    let prompt = c.args.prompt in
    let alias = c.args.alias in
    let label = c.args.label in
    let key = c.args.key in
    let brought : Brought = record { now = c.args.now; value = key.password } in
    let terms : KeyTerms = record { salt = key.salt; iterations = key.iterations } in
    let plan : making.Plan = record { label = label; key = key; now = c.args.now } in
    let old = rows_of c.args.tables.now in
    let prepared = rows_of c.prepare_new.new.tables in
    let stem = c.in_ok-stem.field-0.stem in
    let change = c.in_ok-stem.field-0.change in
    let fate = c.in_ok-fate.fate in
    let made = contents_in c.make.new.disk in
    let mid : State = record prepared { collections = made.collections; aliases = made.aliases; used = made.used } in
    let rows = c.prepare_new.ensures.rows in
    let state : mid ≡ demanded brought (Make stem label terms) fate old =
    ap (λ (k : Contents). record prepared { collections = k.collections; aliases = k.aliases; used = k.used }) c.in_ok-fate.ensures.made
    ∙ ap (λ (s : State). demanded brought (Make stem label terms) fate s) rows in
    let sets : fate ≡ fates.Stored → SetsAlias alias stem mid.collections mid.aliases change = λ is.
    subst (λ (s : State). SetsAlias alias stem s.collections s.aliases change) (sym (state ∙ ap (λ f. demanded brought (Make stem label terms) f old) is))
    (c.in_ok-stem.ensures.change (stored (making.content_of plan) (key_of key) (vector_of key))) in
    λ is. sets-prepared alias stem mid.collections mid.aliases change (sets is)

-- it was made, and its prompt ended
pub returns-clause-settles : goal.returns-clause-settles
returns-clause-settles g c =
    let folder = g.F.Folder in
    let slot = g.F.Cell.Slot in
    let conn = c.args.conn in
    let prompt = c.args.prompt in
    let alias = c.args.alias in
    let label = c.args.label in
    let key = c.args.key in
    let brought : Brought = record { now = c.args.now; value = key.password } in
    let terms : KeyTerms = record { salt = key.salt; iterations = key.iterations } in
    let plan : making.Plan = record { label = label; key = key; now = c.args.now } in
    let old = rows_of c.args.tables.now in
    let prepared = rows_of c.prepare_new.new.tables in
    let stem = c.in_ok-stem.field-0.stem in
    let change = c.in_ok-stem.field-0.change in
    let fate = c.in_ok-fate.fate in
    let made = contents_in c.make.new.disk in
    let mid : State = record prepared { collections = made.collections; aliases = made.aliases; used = made.used } in
    let rows = c.prepare_new.ensures.rows in
    let state : mid ≡ demanded brought (Make stem label terms) fate old =
    ap (λ (k : Contents). record prepared { collections = k.collections; aliases = k.aliases; used = k.used }) c.in_ok-fate.ensures.made
    ∙ ap (λ (s : State). demanded brought (Make stem label terms) fate s) rows in
    let sets : fate ≡ fates.Stored → SetsAlias alias stem mid.collections mid.aliases change = λ is.
    subst (λ (s : State). SetsAlias alias stem s.collections s.aliases change) (sym (state ∙ ap (λ f. demanded brought (Make stem label terms) f old) is))
    (c.in_ok-stem.ensures.change (stored (making.content_of plan) (key_of key) (vector_of key))) in
    let disk = disk_of c.args.tables.now in
    let after = rows_of c.end_made-done.new.tables in
    let new = disk_of c.end_made-done.new.tables in
    let done = c.end_made-done.result in
    let rest = spread old.connections.rows (ended_sent prompt stem fate old.prompts) in
    let made_rest = λ (these : List ConnRow). ended-anyway prompt stem fate old.prompts old.connections.rows these ∙ sym (ap (λ (s : State). spread these (ended_sent prompt stem fate s.prompts)) rows) in
    let said : done.sends ≡ spread old.connections.rows (sent_asked brought (Make stem label terms) fate old) ++ rest = c.end_made-done.ensures.sends ∙ c.by.ensures ∙ c.in_ok-stem.ensures.ends fate in
    settles-as folder.is_honest folder.is_steady folder.faults folder.images folder.may_leave folder.made slot.is_honest slot.is_steady slot.faults slot.moment slot.left_since slot.may_leave conn brought old after disk new _ (Asks (Make stem label terms) (making_ended prompt alias stem)) _
    (ap (λ s. Asks (Make s label terms) (making_ended prompt alias s)) (sym c.in_ok-stem.ensures.stem))
    (settles-made folder.is_honest folder.is_steady folder.faults folder.images folder.may_leave folder.made slot.is_honest slot.is_steady slot.faults slot.moment slot.left_since slot.may_leave conn brought old after disk new prompt alias stem label terms mid (disk_state c.make.new.disk) fate (record done { sends = rest }) done.sends said prepared.collections (disk_of c.prepare_new.new.tables)
    state (ap (λ (s : State). s.collections) rows) c.prepare_new.ensures.disk c.in_ok-fate.ensures.disk
    (c.end_made-done.ensures.settles conn brought alias stem rest made_rest sets))

-- there is room for what is sent
pub returns-clause-room : goal.returns-clause-room
returns-clause-room g c =
    let conn = c.args.conn in
    let rooms = c.prepare_new.new.tables.connections.rooms in
    subst (λ (table : Table). HasRoomToReply conn c.end_made-done.result.sends table.rooms) (sym c.end_made-done.ensures.room)
    (subst (λ s. HasRoomToReply conn s rooms) (sym (c.end_made-done.ensures.sends ∙ c.by.ensures)) (c.in_ok-stem.ensures.room c.in_ok-fate.fate))

-- each stem that isn't used is free
pub returns-clause-free : goal.returns-clause-free
returns-clause-free g c =
    let folder = g.F.Folder in
    let slot = g.F.Cell.Slot in
    free-aliases folder.is_honest folder.images folder.may_leave folder.made slot.is_honest slot.may_leave (disk_state c.make.new.disk) (disk_of c.end_made-done.new.tables) c.end_made-done.ensures.rest c.make.ensures.free

pub returns-in_err-stem-clause-free : goal.returns-in_err-stem-clause-free
returns-in_err-stem-clause-free g c =
    let folder = g.F.Folder in
    let slot = g.F.Cell.Slot in
    subst (AreFree folder.is_honest folder.images folder.may_leave folder.made slot.is_honest slot.may_leave) (sym c.prepare_new.ensures.disk) c.requires.free
