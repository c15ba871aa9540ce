use Rattle.std.proofs.Common.{◌≡◌, refl, subst, rules}
use Rattle.std.specs.Io.KnownBytes.{Appends}
use Rattle.kr_outside.specs.Written.{AppendsFront}
use Rattle.ring_check.specs.Lines.{report_of}
use Rattle.folder_store.proofs.VisitLemmas.{whatever}
use Rattle.ring_check.specs.Verdict.{password_in}
use Rattle.ring_check.proofs.BatchLemmas.{upto_flush, upto_large, front_flush, front_large, keeps_then, keeps_for}
use Rattle.ring_check.proofs.batches.add_too_large.Goals as goal

pub returns-in_err-flush-clause-front : goal.returns-in_err-flush-clause-front
returns-in_err-flush-clause-front g c start files bytes up_to large =
    whatever _ (front_flush (password_in c.args.password) start _ _ c.args.batch.now files up_to _ c.in_err-flush.ensures.front)

pub returns-in_err-flush-clause-kept : goal.returns-in_err-flush-clause-kept
returns-in_err-flush-clause-kept g c =
    keeps_for g.O.Sink.faults g.O.Sink.is_steady g.O.Sink.is_closed _ _ _ _ (λ same. search rules) c.flush.ensures.kept

-- the lines of the batch were written, and then a prefix of this line
pub returns-in_err-put_lines-clause-front : goal.returns-in_err-put_lines-clause-front
returns-in_err-put_lines-clause-front g c start files bytes up_to large =
    let flushed = c.in_ok-flush.ensures in
    let p = password_in c.args.password in
    whatever _ (front_large p start _ _ c.flush.new.batch files
    (upto_flush p start _ _ c.args.batch.now files up_to c.flush.new.batch flushed.whole flushed.empty flushed.damaged) c.args.name bytes flushed.empty
    (subst (λ v. AppendsFront (g.O.Sink.written c.flush.new.output) (g.O.Sink.written c.put_lines.new.output) (report_of v)) c.from_ref.ensures.value c.in_err-put_lines.ensures.front) large)

pub returns-in_err-put_lines-clause-kept : goal.returns-in_err-put_lines-clause-kept
returns-in_err-put_lines-clause-kept g c =
    let sink = g.O.Sink in
    keeps_then sink.faults sink.is_steady sink.is_closed _ _ _ _ _ c.flush.ensures.kept
    (keeps_for sink.faults sink.is_steady sink.is_closed _ _ _ _ (λ same. search rules) c.put_lines.ensures.kept)

pub returns-clause-up_to : goal.returns-clause-up_to
returns-clause-up_to g c start files bytes up_to large =
    let flushed = c.in_ok-flush.ensures in
    let p = password_in c.args.password in
    upto_large p start _ _ c.flush.new.batch files
    (upto_flush p start _ _ c.args.batch.now files up_to c.flush.new.batch flushed.whole flushed.empty flushed.damaged) _ c.args.name bytes flushed.empty
    (subst (λ v. Appends (g.O.Sink.written c.flush.new.output) (g.O.Sink.written c.put_lines.new.output) (report_of v)) c.from_ref.ensures.value c.in_ok-put_lines.ensures.whole) large refl refl

pub returns-clause-kept : goal.returns-clause-kept
returns-clause-kept g c =
    let sink = g.O.Sink in
    keeps_then sink.faults sink.is_steady sink.is_closed _ _ _ _ _ c.flush.ensures.kept
    (keeps_for sink.faults sink.is_steady sink.is_closed _ _ _ _ (λ same. absurd (let never : ⊥ = cc in never)) c.put_lines.ensures.kept)
