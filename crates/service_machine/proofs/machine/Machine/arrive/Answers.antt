use Rattle.std.proofs.Common.{◌≡◌, ◌++◌, Option, ap, subst, sym, ◌∙◌}
use Rattle.service_answers.specs.secret_calls.specs.declared.work.Work.{Work}
use Rattle.service_answers.specs.service_events.specs.declared.event.Output.TheVariants.{Arrived}
use Rattle.service_answers.specs.service_events.specs.Fates.{AreFaultless, is_steady, reads_of, stores_of, with_fates}
use Rattle.service_answers.specs.service_tables.specs.Connections.{handed, spread}
use Rattle.service_machine.specs.Rows.{disk_of, rows_of}
use Rattle.service_answers.specs.service_events.specs.Run.{asked}
use Rattle.service_answers.specs.service_events.specs.Step.{Fits, brought_by, output_of, plan_of, replies, step, with_rows, work_of}
use Rattle.service_answers.specs.service_events.specs.Stored.{StoresEvent}
use Rattle.service_answers.specs.service_calls.specs.Done.{fates_in}
use Rattle.service_answers.specs.service_calls.proofs.LeadsLemmas.{leads-fits, leads-stepped, leads-stores, leads-work}
use Rattle.service_machine.proofs.SteadyLemmas.{stores-faultless, stores-steady}
use Rattle.service_machine.proofs.machine.Machine.arrive.Goals as goal

-- room for the reply changes no row; after it the row of the call is performed, and its reply waits
pub returns-clause-stepped : goal.returns-clause-stepped
returns-clause-stepped g c =
    let folder = g.F.Folder in
    let slot = g.F.Cell.Slot in
    let arrival = c.args.arrival.now in
    let old = rows_of c.args.self.now in
    let done = c.in_ok-call.field-0 in
    let same : rows_of (record c.args.self.now { tables = record c.args.self.now.tables { connections = c.reserve.new.self } }) ≡ old =
    λ i. record old { connections = record { rows = c.reserve.ensures.unchanged i; next = c.reserve.ensures.next i } } in
    let fates : c.of.result ≡ fates_in done =
    c.of.ensures ∙ (λ i. reads_of (c.into_parts-answer.ensures.read i) ++ stores_of (c.into_parts-answer.ensures.fate i)) in
    let after = rows_of c.call.new.self in
    let rows = after.connections.rows in
    let replied : rows_of c.reply.new.self ≡ with_rows (handed (spread rows (replies arrival.conn arrival.request done.answer) ++ done.sends) rows) after =
    c.reply.ensures.rows
    ∙ (λ i. with_rows (handed (spread rows (replies arrival.conn arrival.request (c.into_parts-answer.ensures.answer i)) ++ c.into_parts-answer.ensures.sends i) rows) after) in
    leads-stepped folder.is_honest folder.is_steady folder.faults folder.images folder.may_leave folder.made slot.is_honest slot.is_steady slot.faults slot.moment slot.left_since slot.may_leave arrival done old _ (rows_of c.call.new.self) (rows_of c.reply.new.self)
    (disk_of c.args.self.now) (disk_of c.call.new.self) same c.are_distinct.ensures c.in_ok-call.ensures.leads replied
    ∙ ap (λ its. step old (with_fates arrival its)) (sym fates)

pub returns-clause-fits : goal.returns-clause-fits
returns-clause-fits g c =
    let folder = g.F.Folder in
    let slot = g.F.Cell.Slot in
    let arrival = c.args.arrival.now in
    let old = rows_of c.args.self.now in
    let done = c.in_ok-call.field-0 in
    let same : rows_of (record c.args.self.now { tables = record c.args.self.now.tables { connections = c.reserve.new.self } }) ≡ old =
    λ i. record old { connections = record { rows = c.reserve.ensures.unchanged i; next = c.reserve.ensures.next i } } in
    let fates : c.of.result ≡ fates_in done =
    c.of.ensures ∙ (λ i. reads_of (c.into_parts-answer.ensures.read i) ++ stores_of (c.into_parts-answer.ensures.fate i)) in
    subst (λ its. Fits old (with_fates arrival its)) (sym fates)
    (leads-fits folder.is_honest folder.is_steady folder.faults folder.images folder.may_leave folder.made slot.is_honest slot.is_steady slot.faults slot.moment slot.left_since slot.may_leave arrival done old _ (rows_of c.call.new.self) (rows_of c.reply.new.self)
    (disk_of c.args.self.now) (disk_of c.call.new.self) same c.in_ok-call.ensures.leads c.known_request.ensures.moment c.known_request.ensures.salt c.known_request.ensures.types c.requires)

-- the reply takes nothing from the key that is to be derived
pub returns-clause-work : goal.returns-clause-work
returns-clause-work g c =
    let folder = g.F.Folder in
    let slot = g.F.Cell.Slot in
    let arrival = c.args.arrival.now in
    let request = arrival.request in
    let old = rows_of c.args.self.now in
    let done = c.in_ok-call.field-0 in
    let same : rows_of (record c.args.self.now { tables = record c.args.self.now.tables { connections = c.reserve.new.self } }) ≡ old =
    λ i. record old { connections = record { rows = c.reserve.ensures.unchanged i; next = c.reserve.ensures.next i } } in
    let fates : c.of.result ≡ fates_in done =
    c.of.ensures ∙ (λ i. reads_of (c.into_parts-answer.ensures.read i) ++ stores_of (c.into_parts-answer.ensures.fate i)) in
    let work : c.work_of-work.result ≡ work_of request.call done.answer (rows_of c.call.new.self) =
    c.work_of-work.ensures ∙ ap (λ answer. work_of request.call answer (rows_of c.call.new.self)) c.into_parts-answer.ensures.answer in
    ap (λ (w : Option Work). Arrived (record { work = w })) work
    ∙ leads-work folder.is_honest folder.is_steady folder.faults folder.images folder.may_leave folder.made slot.is_honest slot.is_steady slot.faults slot.moment slot.left_since slot.may_leave arrival done old _ (rows_of c.call.new.self) (rows_of c.reply.new.self)
    (disk_of c.args.self.now) (disk_of c.call.new.self) same c.in_ok-call.ensures.leads
    ∙ ap (λ its. output_of old (with_fates arrival its)) (sym fates)

-- the reply leaves the disk as the call left it
pub returns-clause-disk : goal.returns-clause-disk
returns-clause-disk g c =
    let folder = g.F.Folder in
    let slot = g.F.Cell.Slot in
    let arrival = c.args.arrival.now in
    let old = rows_of c.args.self.now in
    let disk = disk_of c.args.self.now in
    let done = c.in_ok-call.field-0 in
    let same : rows_of (record c.args.self.now { tables = record c.args.self.now.tables { connections = c.reserve.new.self } }) ≡ old =
    λ i. record old { connections = record { rows = c.reserve.ensures.unchanged i; next = c.reserve.ensures.next i } } in
    let fates : c.of.result ≡ fates_in done =
    c.of.ensures ∙ (λ i. reads_of (c.into_parts-answer.ensures.read i) ++ stores_of (c.into_parts-answer.ensures.fate i)) in
    subst (λ its. StoresEvent folder.is_honest folder.is_steady folder.faults folder.images folder.may_leave folder.made slot.is_honest slot.is_steady slot.faults slot.moment slot.left_since slot.may_leave (with_fates arrival its) old disk (disk_of c.reply.new.self)) (sym fates)
    (subst (λ after. StoresEvent folder.is_honest folder.is_steady folder.faults folder.images folder.may_leave folder.made slot.is_honest slot.is_steady slot.faults slot.moment slot.left_since slot.may_leave (with_fates arrival (fates_in done)) old disk after) (sym c.reply.ensures.disk)
    (leads-stores folder.is_honest folder.is_steady folder.faults folder.images folder.may_leave folder.made slot.is_honest slot.is_steady slot.faults slot.moment slot.left_since slot.may_leave arrival done old _ (rows_of c.call.new.self) (rows_of c.reply.new.self)
    disk (disk_of c.call.new.self) same c.in_ok-call.ensures.leads))

-- over a steady disk no storing has a fault
pub returns-clause-faultless : goal.returns-clause-faultless
returns-clause-faultless g c = λ steady.
    let folder = g.F.Folder in
    let slot = g.F.Cell.Slot in
    let arrival = c.args.arrival.now in
    let before = rows_of (record c.args.self.now { tables = record c.args.self.now.tables { connections = c.reserve.new.self } }) in
    let done = c.in_ok-call.field-0 in
    let leads = c.in_ok-call.ensures.leads in
    let fates : c.of.result ≡ fates_in done =
    c.of.ensures ∙ (λ i. reads_of (c.into_parts-answer.ensures.read i) ++ stores_of (c.into_parts-answer.ensures.fate i)) in
    subst AreFaultless (sym fates)
    (stores-faultless folder.is_honest folder.is_steady folder.faults folder.images folder.may_leave folder.made slot.is_honest slot.is_steady slot.faults slot.moment slot.left_since slot.may_leave arrival.conn (brought_by arrival)
    (plan_of arrival.salt arrival.request.call (asked arrival.conn (brought_by arrival) before)) (fates_in done) before (disk_of c.args.self.now) (disk_of c.call.new.self) leads.fates leads.disk steady)

pub returns-clause-steady : goal.returns-clause-steady
returns-clause-steady g c =
    let folder = g.F.Folder in
    let slot = g.F.Cell.Slot in
    let arrival = c.args.arrival.now in
    let before = rows_of (record c.args.self.now { tables = record c.args.self.now.tables { connections = c.reserve.new.self } }) in
    let done = c.in_ok-call.field-0 in
    let leads = c.in_ok-call.ensures.leads in
    ap (is_steady g.F.Folder.is_steady slot.is_steady) c.reply.ensures.disk
    ∙ stores-steady folder.is_honest folder.is_steady folder.faults folder.images folder.may_leave folder.made slot.is_honest slot.is_steady slot.faults slot.moment slot.left_since slot.may_leave arrival.conn (brought_by arrival)
    (plan_of arrival.salt arrival.request.call (asked arrival.conn (brought_by arrival) before)) (fates_in done) before (disk_of c.args.self.now) (disk_of c.call.new.self) leads.disk

-- there is room for the reply, and for what is sent after it
pub reply-requires : goal.reply-requires
reply-requires g c = λ reply. rw c.into_parts-answer.ensures.sends (c.in_ok-call.ensures.room reply)
