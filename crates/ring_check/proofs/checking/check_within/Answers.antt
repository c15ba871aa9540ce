use Rattle.std.proofs.Common.{◌≡◌, refl, sym, ◌∙◌, subst}
use Rattle.ring_check.specs.Folder.{Reports}
use Rattle.ring_check.specs.Verdict.{password_in}
use Rattle.ring_check.proofs.BatchLemmas.{keeps_for}
use Rattle.ring_check.proofs.EndLemmas.{reports_end, by_folder, by_write}
use Rattle.ring_check.proofs.checking.check_within.Goals as goal

pub returns-clause-reports : goal.returns-clause-reports
returns-clause-reports g c =
    let folder = g.F.Folder in
    let sink = g.O.Sink in
    let honest = folder.is_honest c.args.folder.now in
    let images = folder.images c.args.folder.now in
    let p = password_in c.args.password in
    let old = sink.written c.args.output.now in
    subst (λ e. Reports honest images p e old (sink.written c.check_all-answer.new.output)) (sym c.end_of.ensures)
    (reports_end honest images p old (sink.written c.check_all-answer.new.output) c.check_all-answer.result c.check_all-answer.ensures.whole c.check_all-answer.ensures.front)

pub returns-clause-folder_fault : goal.returns-clause-folder_fault
returns-clause-folder_fault g c same = c.check_all-answer.ensures.cause (by_folder c.check_all-answer.result (sym c.end_of.ensures ∙ same))

pub returns-clause-kept : goal.returns-clause-kept
returns-clause-kept g c =
    keeps_for g.O.Sink.faults g.O.Sink.is_steady g.O.Sink.is_closed _ _ _ _ (λ same. by_write c.check_all-answer.result (sym c.end_of.ensures ∙ same)) c.check_all-answer.ensures.kept
