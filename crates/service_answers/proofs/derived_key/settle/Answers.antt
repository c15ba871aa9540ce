use Rattle.std.proofs.Common.{◌≡◌, [], true, inl, refl, sym, subst, ◌∙◌}
use Rattle.service_calls.specs.secret_calls.specs.declared.out.Out.{Out}
use Rattle.service_calls.specs.secret_calls.specs.declared.out.Out.TheVariants as out
use Rattle.service_calls.specs.secret_calls.specs.declared.signal.Completion.TheVariants as completion
use Rattle.service_calls.specs.secret_calls.specs.declared.signal.Signal.TheVariants as signal
use Rattle.prompt_state.specs.Prompts.{derives_in, row_at}
use Rattle.service_calls.specs.service_disk.specs.Making.{AreFree}
use Rattle.service_calls.specs.service_tables.specs.Connections.{HasRoomFor}
use Rattle.service_calls.specs.service_tables.specs.Sound.{IsSoundPrompt}
use Rattle.service_calls.specs.service_tables.specs.Storing.{Brought}
use Rattle.service_calls.specs.service_tables.proofs.RoomLemmas.{room-zero}
use Rattle.service_answers.specs.declared.derived_key.Settled.{Settled}
use Rattle.service_calls.specs.service_events.specs.Derivation.{collection_made, derived, password_changed}
use Rattle.service_calls.specs.service_events.specs.Plan.{KeyTerms}
use Rattle.service_answers.specs.Purposes.{IsPurposeOf}
use Rattle.service_calls.specs.Rows.{disk_of, rows_of}
use Rattle.service_calls.specs.service_events.specs.Run.{asked}
use Rattle.service_answers.proofs.DerivedLemmas.{change-plan, create-alias, create-plan, deriving-round, deriving-there, each-at, keeps-as, late-plan, map-err, settles-as, settles-late}
use Rattle.service_calls.proofs.LeadsLemmas.{map-ok, room-after}
use Rattle.service_answers.proofs.derived_key.settle.Goals as goal

-- a key that comes too late
pub returns-then-not-derived-clause-settles : goal.returns-then-not-derived-clause-settles
returns-then-not-derived-clause-settles g c =
    let folder = g.F.Folder in
    let slot = g.F.Cell.Slot in
    let conn = c.args.conn in
    let prompt = c.args.prompt in
    let round = c.args.round in
    let key = c.args.key in
    let brought : Brought = record { now = c.args.now; value = key.password } in
    let terms : KeyTerms = record { salt = key.salt; iterations = key.iterations } in
    let old = rows_of c.args.tables.now in
    let disk = disk_of c.args.tables.now in
    let row = row_at prompt old.prompts in
    let asks = asked conn brought old in
    let plan = derived prompt round terms asks in
    settles-late folder.is_honest folder.is_steady folder.faults folder.images folder.may_leave folder.made slot.is_honest slot.is_steady slot.faults slot.moment slot.left_since slot.may_leave conn brought old old disk disk plan _ c.nothing_done.result c.nothing_done.ensures refl
    (late-plan prompt round terms asks row (sym c.derived.ensures ∙ c.if-not-derived.true)) refl refl

pub returns-then-not-derived-clause-room : goal.returns-then-not-derived-clause-room
returns-then-not-derived-clause-room g c =
    let rooms = c.args.tables.now.connections.rooms in
    subst (λ (s : Settled). HasRoomFor s.done.sends rooms) (sym c.nothing_done.ensures) (λ conn. room-zero conn rooms)

-- the prompt is there, and has a next round
pub purpose_of-requires : goal.purpose_of-requires
purpose_of-requires g c =
    let row = row_at c.args.prompt (rows_of c.args.tables.now).prompts in
    let on : derives_in c.args.round row ≡ true = sym c.derived.ensures ∙ c.if-not-derived.false in
    deriving-there c.args.round row on

pub unlock_target-requires-clause-there : goal.unlock_target-requires-clause-there
unlock_target-requires-clause-there g c =
    let row = row_at c.args.prompt (rows_of c.args.tables.now).prompts in
    let on : derives_in c.args.round row ≡ true = sym c.derived.ensures ∙ c.if-not-derived.false in
    deriving-there c.args.round row on

pub unlock_target-requires-clause-round : goal.unlock_target-requires-clause-round
unlock_target-requires-clause-round g c =
    let row = row_at c.args.prompt (rows_of c.args.tables.now).prompts in
    let on : derives_in c.args.round row ≡ true = sym c.derived.ensures ∙ c.if-not-derived.false in
    deriving-round c.args.prompt c.args.round (rows_of c.args.tables.now).prompts c.requires.sound.prompts.kept on

pub unlock_target-requires-clause-derives : goal.unlock_target-requires-clause-derives
unlock_target-requires-clause-derives g c = sym c.derived.ensures ∙ c.if-not-derived.false

pub unlock_target-requires-clause-purpose : goal.unlock_target-requires-clause-purpose
unlock_target-requires-clause-purpose g c =
    subst (λ p. IsPurposeOf p (row_at c.args.prompt (rows_of c.args.tables.now).prompts)) c.in-Unlock.is c.in_ok-stem.ensures

-- it unlocks a collection
pub returns-in_ok-unlock_target-in-Unlock-clause-room : goal.returns-in_ok-unlock_target-in-Unlock-clause-room
returns-in_ok-unlock_target-in-Unlock-clause-room g c =
    let rooms = c.unlock_target.new.tables.connections.rooms in
    let reply : Out = out.Signal (signal.Completed c.args.prompt true (completion.Object [])) in
    subst (λ (s : Settled). HasRoomFor s.done.sends rooms) (sym c.unmade.ensures) (room-after c.args.conn reply c.in_ok-unlock_target-in-Unlock.field-0.sends rooms c.in_ok-unlock_target-in-Unlock.ensures.room)

pub returns-in_ok-unlock_target-in-Unlock-clause-free : goal.returns-in_ok-unlock_target-in-Unlock-clause-free
returns-in_ok-unlock_target-in-Unlock-clause-free g c =
    let folder = g.F.Folder in
    let slot = g.F.Cell.Slot in
    subst (AreFree folder.is_honest folder.images folder.may_leave folder.made slot.is_honest slot.may_leave) (sym c.unlock_target.ensures.disk) c.requires.free

pub returns-in_err-unlock_target-in-Unlock-clause-free : goal.returns-in_err-unlock_target-in-Unlock-clause-free
returns-in_err-unlock_target-in-Unlock-clause-free g c =
    let folder = g.F.Folder in
    let slot = g.F.Cell.Slot in
    subst (AreFree folder.is_honest folder.images folder.may_leave folder.made slot.is_honest slot.may_leave) (sym c.unlock_target.ensures.disk) c.requires.free

-- it creates one
pub create-requires-clause-there : goal.create-requires-clause-there
create-requires-clause-there g c =
    let row = row_at c.args.prompt (rows_of c.args.tables.now).prompts in
    let on : derives_in c.args.round row ≡ true = sym c.derived.ensures ∙ c.if-not-derived.false in
    deriving-there c.args.round row on

pub create-requires-clause-alias : goal.create-requires-clause-alias
create-requires-clause-alias g c =
    let old = rows_of c.args.tables.now in
    let row = row_at c.args.prompt old.prompts in
    create-alias c.in-Create.label c.in-Create.alias c.in-Create.salt row (each-at IsSoundPrompt c.args.prompt old.prompts.rows c.requires.sound.prompts.each)
    (subst (λ p. IsPurposeOf p row) c.in-Create.is c.in_ok-stem.ensures)

pub returns-in-Create-clause-settles : goal.returns-in-Create-clause-settles
returns-in-Create-clause-settles g c =
    let folder = g.F.Folder in
    let slot = g.F.Cell.Slot in
    let conn = c.args.conn in
    let prompt = c.args.prompt in
    let round = c.args.round in
    let key = c.args.key in
    let brought : Brought = record { now = c.args.now; value = key.password } in
    let terms : KeyTerms = record { salt = key.salt; iterations = key.iterations } in
    let old = rows_of c.args.tables.now in
    let disk = disk_of c.args.tables.now in
    let row = row_at prompt old.prompts in
    let asks = asked conn brought old in
    let plan = derived prompt round terms asks in
    let on : derives_in round row ≡ true = sym c.derived.ensures ∙ c.if-not-derived.false in
    let is = subst (λ p. IsPurposeOf p row) c.in-Create.is c.in_ok-stem.ensures in
    map-ok c.create.result _ _
    (λ settled its. settles-as folder.is_honest folder.is_steady folder.faults folder.images folder.may_leave folder.made slot.is_honest slot.is_steady slot.faults slot.moment slot.left_since slot.may_leave conn brought old (rows_of c.create.new.tables) disk (disk_of c.create.new.tables) plan (collection_made prompt c.in-Create.label c.in-Create.alias c.in-Create.salt terms asks) settled
    (create-plan prompt round terms asks c.in-Create.label c.in-Create.alias c.in-Create.salt row on is) its)
    c.create.ensures.settles

pub returns-in-Create-clause-room : goal.returns-in-Create-clause-room
returns-in-Create-clause-room g c =
    let rooms = c.create.new.tables.connections.rooms in
    let reply : Out = out.Signal (signal.Completed c.args.prompt true (completion.Object [])) in
    map-ok c.create.result _ _ (λ settled room. room-after c.args.conn reply settled.done.sends rooms room) c.create.ensures.room

pub returns-in-Create-clause-kept : goal.returns-in-Create-clause-kept
returns-in-Create-clause-kept g c =
    let folder = g.F.Folder in
    let slot = g.F.Cell.Slot in
    let prompt = c.args.prompt in
    let round = c.args.round in
    let key = c.args.key in
    let brought : Brought = record { now = c.args.now; value = key.password } in
    let terms : KeyTerms = record { salt = key.salt; iterations = key.iterations } in
    let old = rows_of c.args.tables.now in
    let row = row_at prompt old.prompts in
    let asks = asked c.args.conn brought old in
    let on : derives_in round row ≡ true = sym c.derived.ensures ∙ c.if-not-derived.false in
    let is = subst (λ p. IsPurposeOf p row) c.in-Create.is c.in_ok-stem.ensures in
    map-err c.create.result _ _
    (keeps-as folder.is_honest folder.is_steady folder.faults folder.images folder.may_leave folder.made slot.is_honest slot.is_steady slot.faults slot.left_since (disk_of c.args.tables.now) (disk_of c.create.new.tables)
    (derived prompt round terms asks) (collection_made prompt c.in-Create.label c.in-Create.alias c.in-Create.salt terms asks)
    (create-plan prompt round terms asks c.in-Create.label c.in-Create.alias c.in-Create.salt row on is))
    c.create.ensures.kept

-- it changes a password
pub change_password-requires-clause-there : goal.change_password-requires-clause-there
change_password-requires-clause-there g c =
    let row = row_at c.args.prompt (rows_of c.args.tables.now).prompts in
    let on : derives_in c.args.round row ≡ true = sym c.derived.ensures ∙ c.if-not-derived.false in
    deriving-there c.args.round row on

pub returns-in-Change-clause-settles : goal.returns-in-Change-clause-settles
returns-in-Change-clause-settles g c =
    let folder = g.F.Folder in
    let slot = g.F.Cell.Slot in
    let conn = c.args.conn in
    let prompt = c.args.prompt in
    let round = c.args.round in
    let key = c.args.key in
    let brought : Brought = record { now = c.args.now; value = key.password } in
    let terms : KeyTerms = record { salt = key.salt; iterations = key.iterations } in
    let old = rows_of c.args.tables.now in
    let row = row_at prompt old.prompts in
    let asks = asked conn brought old in
    let on : derives_in round row ≡ true = sym c.derived.ensures ∙ c.if-not-derived.false in
    let is = subst (λ p. IsPurposeOf p row) c.in-Change.is c.in_ok-stem.ensures in
    map-ok c.change_password.result _ _
    (λ settled its. settles-as folder.is_honest folder.is_steady folder.faults folder.images folder.may_leave folder.made slot.is_honest slot.is_steady slot.faults slot.moment slot.left_since slot.may_leave conn brought old (rows_of c.change_password.new.tables) (disk_of c.args.tables.now) (disk_of c.change_password.new.tables)
    (derived prompt round terms asks) (password_changed prompt c.in-Change.stem c.in-Change.salt terms asks) settled
    (change-plan prompt round terms asks c.in-Change.stem c.in-Change.salt row on is) its)
    c.change_password.ensures.settles

pub returns-in-Change-clause-room : goal.returns-in-Change-clause-room
returns-in-Change-clause-room g c =
    let rooms = c.change_password.new.tables.connections.rooms in
    let reply : Out = out.Signal (signal.Completed c.args.prompt true (completion.Object [])) in
    map-ok c.change_password.result _ _ (λ settled room. room-after c.args.conn reply settled.done.sends rooms room) c.change_password.ensures.room

pub returns-in-Change-clause-unchanged : goal.returns-in-Change-clause-unchanged
returns-in-Change-clause-unchanged g c = map-err c.change_password.result _ _ (λ same. same.0) c.change_password.ensures.unchanged

pub returns-in-Change-clause-kept : goal.returns-in-Change-clause-kept
returns-in-Change-clause-kept g c = map-err c.change_password.result _ _ (λ same. inl same.1) c.change_password.ensures.unchanged
