use Rattle.std.proofs.Common.{◌≡◌, ◌^◌, ◌<◌, ◌++◌, sym, ap, subst, ◌∙◌}
use Rattle.keyring_text.specs.Fields.{IsBytes}
use Rattle.service_answers.specs.service_tables.specs.Connections.{HasRoomFor, handed}
use Rattle.service_answers.specs.service_events.specs.declared.event.Event.TheVariants as event
use Rattle.service_answers.specs.service_events.specs.declared.event.Derivation.{Derivation}
use Rattle.service_answers.specs.service_events.specs.Fates.{AreFaultless, reads_of, stores_of}
use Rattle.service_answers.specs.service_events.specs.Step.{Fits, IsSalt, step}
use Rattle.service_answers.specs.service_events.specs.Stored.{StoresEvent, plan_brought}
use Rattle.service_answers.specs.service_calls.specs.Rows.{disk_of as disk_with, rows_of as rows_in}
use Rattle.service_machine.specs.Rows.{disk_of, rows_of}
use Rattle.service_answers.specs.Settled.{settled_fates}
use Rattle.service_machine.proofs.RecordedLemmas.{came-is, came_of, key-faultless, key-fits, key-steady, key-stepped, key-stores}
use Rattle.service_machine.proofs.SteadyLemmas.{kept-steady}
use Rattle.service_machine.proofs.machine.Machine.derived.Goals as goal

-- there is room for what is sent
pub deliver-requires : goal.deliver-requires
deliver-requires g c = subst (λ sends. HasRoomFor sends c.settle.new.tables.connections.rooms) (sym (c.into_vec.ensures ∙ c.into_parts-sends.ensures.sends)) c.in_ok-made.ensures.room

-- it is recorded with its types and its fates
pub returns-clause-fits : goal.returns-clause-fits
returns-clause-fits g c =
    let folder = g.F.Folder in
    let slot = g.F.Cell.Slot in
    let brought = c.args.brought in
    let settled = c.in_ok-made.field-0 in
    let parts = c.into_parts-sends.ensures in
    let password : c.in_ok-password.password ≡ brought.done.key.password = c.in_ok-password.ensures ∙ c.password.ensures in
    let fates : c.of.result ≡ settled_fates settled = c.of.ensures ∙ (λ i. stores_of settled.made ++ (reads_of (parts.read i) ++ stores_of (parts.fate i))) in
    let is : c.ended.result ≡ came_of brought settled =
    came-is brought settled c.in_ok-password.password c.salt-salt.result c.iterations-iterations.result c.none.result c.of.result c.in_ok-came.came c.ended.result
    c.in_ok-came.ensures c.ended.ensures password c.salt-salt.ensures c.iterations-iterations.ensures fates in
    let old = rows_of c.args.self.now in
    let mid = rows_in c.settle.new.tables in
    let disk = disk_of c.args.self.now in
    let new = disk_with c.settle.new.tables in
    let known = c.known_derivation.ensures in
    subst (λ came. Fits old (event.Derived came)) (sym is)
    (key-fits folder.is_honest folder.is_steady folder.faults folder.images folder.may_leave folder.made slot.is_honest slot.is_steady slot.faults slot.moment slot.left_since slot.may_leave brought settled old mid disk new c.in_ok-made.ensures.settles c.requires.there known.moment known.round (subst IsBytes password known.password) (subst IsSalt c.salt-salt.ensures known.salt)
    (subst (λ n. n < 2 ^ 32) c.iterations-iterations.ensures known.iterations) c.known_files.ensures)

-- what it sends is delivered
pub returns-clause-stepped : goal.returns-clause-stepped
returns-clause-stepped g c =
    let folder = g.F.Folder in
    let slot = g.F.Cell.Slot in
    let brought = c.args.brought in
    let settled = c.in_ok-made.field-0 in
    let parts = c.into_parts-sends.ensures in
    let password : c.in_ok-password.password ≡ brought.done.key.password = c.in_ok-password.ensures ∙ c.password.ensures in
    let fates : c.of.result ≡ settled_fates settled = c.of.ensures ∙ (λ i. stores_of settled.made ++ (reads_of (parts.read i) ++ stores_of (parts.fate i))) in
    let is : c.ended.result ≡ came_of brought settled =
    came-is brought settled c.in_ok-password.password c.salt-salt.result c.iterations-iterations.result c.none.result c.of.result c.in_ok-came.came c.ended.result
    c.in_ok-came.ensures c.ended.ensures password c.salt-salt.ensures c.iterations-iterations.ensures fates in
    let old = rows_of c.args.self.now in
    let mid = rows_in c.settle.new.tables in
    let disk = disk_of c.args.self.now in
    let new = disk_with c.settle.new.tables in
    let sent = c.into_vec.ensures ∙ parts.sends in
    let rows = c.deliver.ensures.rows ∙ ap (λ sends. handed sends mid.connections.rows) sent in
    key-stepped folder.is_honest folder.is_steady folder.faults folder.images folder.may_leave folder.made slot.is_honest slot.is_steady slot.faults slot.moment slot.left_since slot.may_leave brought settled old mid disk new c.in_ok-made.ensures.settles c.are_distinct.ensures _ (λ i. record mid { connections = record { rows = rows i; next = c.deliver.ensures.next i } })
    ∙ ap (λ came. step old (event.Derived came)) (sym is)

pub returns-clause-disk : goal.returns-clause-disk
returns-clause-disk g c =
    let folder = g.F.Folder in
    let slot = g.F.Cell.Slot in
    let brought = c.args.brought in
    let settled = c.in_ok-made.field-0 in
    let parts = c.into_parts-sends.ensures in
    let password : c.in_ok-password.password ≡ brought.done.key.password = c.in_ok-password.ensures ∙ c.password.ensures in
    let fates : c.of.result ≡ settled_fates settled = c.of.ensures ∙ (λ i. stores_of settled.made ++ (reads_of (parts.read i) ++ stores_of (parts.fate i))) in
    let is : c.ended.result ≡ came_of brought settled =
    came-is brought settled c.in_ok-password.password c.salt-salt.result c.iterations-iterations.result c.none.result c.of.result c.in_ok-came.came c.ended.result
    c.in_ok-came.ensures c.ended.ensures password c.salt-salt.ensures c.iterations-iterations.ensures fates in
    let old = rows_of c.args.self.now in
    let mid = rows_in c.settle.new.tables in
    let disk = disk_of c.args.self.now in
    let new = disk_with c.settle.new.tables in
    subst (λ came. StoresEvent folder.is_honest folder.is_steady folder.faults folder.images folder.may_leave folder.made slot.is_honest slot.is_steady slot.faults slot.moment slot.left_since slot.may_leave (event.Derived came) old disk new) (sym is) (key-stores folder.is_honest folder.is_steady folder.faults folder.images folder.may_leave folder.made slot.is_honest slot.is_steady slot.faults slot.moment slot.left_since slot.may_leave brought settled old mid disk new c.in_ok-made.ensures.settles)

pub returns-clause-faultless : goal.returns-clause-faultless
returns-clause-faultless g c =
    let folder = g.F.Folder in
    let slot = g.F.Cell.Slot in
    let brought = c.args.brought in
    let settled = c.in_ok-made.field-0 in
    let parts = c.into_parts-sends.ensures in
    let password : c.in_ok-password.password ≡ brought.done.key.password = c.in_ok-password.ensures ∙ c.password.ensures in
    let fates : c.of.result ≡ settled_fates settled = c.of.ensures ∙ (λ i. stores_of settled.made ++ (reads_of (parts.read i) ++ stores_of (parts.fate i))) in
    let is : c.ended.result ≡ came_of brought settled =
    came-is brought settled c.in_ok-password.password c.salt-salt.result c.iterations-iterations.result c.none.result c.of.result c.in_ok-came.came c.ended.result
    c.in_ok-came.ensures c.ended.ensures password c.salt-salt.ensures c.iterations-iterations.ensures fates in
    let old = rows_of c.args.self.now in
    let mid = rows_in c.settle.new.tables in
    let disk = disk_of c.args.self.now in
    let new = disk_with c.settle.new.tables in
    λ steady. subst (λ (came : Derivation). AreFaultless came.fates) (sym is) (key-faultless folder.is_honest folder.is_steady folder.faults folder.images folder.may_leave folder.made slot.is_honest slot.is_steady slot.faults slot.moment slot.left_since slot.may_leave brought settled old mid disk new c.in_ok-made.ensures.settles steady)

pub returns-clause-steady : goal.returns-clause-steady
returns-clause-steady g c =
    let folder = g.F.Folder in
    let slot = g.F.Cell.Slot in
    key-steady folder.is_honest folder.is_steady folder.faults folder.images folder.may_leave folder.made slot.is_honest slot.is_steady slot.faults slot.moment slot.left_since slot.may_leave c.args.brought c.in_ok-made.field-0 (rows_of c.args.self.now) (rows_in c.settle.new.tables) (disk_of c.args.self.now) (disk_with c.settle.new.tables) c.in_ok-made.ensures.settles

-- after a refusal the disk is as steady as before
pub returns-in_err-made-clause-steady : goal.returns-in_err-made-clause-steady
returns-in_err-made-clause-steady g c =
    let folder = g.F.Folder in
    let slot = g.F.Cell.Slot in
    kept-steady folder.is_honest folder.is_steady folder.faults folder.images folder.may_leave folder.made slot.is_honest slot.is_steady slot.faults slot.moment slot.left_since slot.may_leave (plan_brought c.args.brought (rows_of c.args.self.now)) (disk_of c.args.self.now) (disk_with c.settle.new.tables) c.in_err-made.ensures.kept
