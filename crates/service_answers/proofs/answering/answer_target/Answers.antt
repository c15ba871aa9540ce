use Rattle.std.proofs.Common.{◌≡◌, false, sym, ◌∙◌}
use Rattle.service_calls.specs.service_disk.specs.Resolving.{is_doubtful}
use Rattle.service_calls.specs.Rows.{rows_of}
use Rattle.service_calls.specs.secret_calls.specs.declared.out.ErrorName.TheVariants as name
use Rattle.service_calls.specs.service_events.specs.AnswerCalls.{target_answered}
use Rattle.service_calls.specs.service_events.specs.Plan.{Collection_file, refused}
use Rattle.service_calls.proofs.LeadsLemmas.{map-ok, settles-known}
use Rattle.service_answers.proofs.answering.answer_target.Goals as goal

-- the file is known
pub returns-clause-leads : goal.returns-clause-leads
returns-clause-leads g c =
    let folder = g.F.Folder in
    let slot = g.F.Cell.Slot in
    let conn = c.args.conn in
    let old = rows_of c.args.tables.now in
    let known : is_doubtful c.args.stem.now old.collections ≡ false = sym c.is_doubtful.ensures ∙ c.if-is_doubtful.false in
    map-ok c.answer_known.result _ _
    (λ done leads brought. settles-known folder.is_honest folder.is_steady folder.faults folder.images folder.may_leave folder.made slot.is_honest slot.is_steady slot.faults slot.moment slot.left_since slot.may_leave conn brought (Collection_file c.args.stem.now) (refused name.IOError) (target_answered c.args.prompt c.args.round c.args.stem.now) old _ _ _ done known (leads brought))
    c.answer_known.ensures.leads
