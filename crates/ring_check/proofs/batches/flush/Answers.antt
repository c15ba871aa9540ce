use Rattle.std.proofs.Common.{◌≡◌, rules}
use Rattle.folder_store.proofs.VisitLemmas.{whatever}
use Rattle.ring_check.proofs.BatchLemmas.{front_none, keeps_none, keeps_for}
use Rattle.ring_check.proofs.batches.flush.Goals as goal

-- nothing was written
pub returns-in_default-clause-front : goal.returns-in_default-clause-front
returns-in_default-clause-front g c = front_none _ _

pub returns-in_default-clause-kept : goal.returns-in_default-clause-kept
returns-in_default-clause-kept g c =
    keeps_none g.O.Sink.faults g.O.Sink.is_steady g.O.Sink.is_closed _ c.args.output.now c.requires.is_open (λ same. let never : ⊥ = cc in never)

pub returns-in_err-put_lines-clause-kept : goal.returns-in_err-put_lines-clause-kept
returns-in_err-put_lines-clause-kept g c =
    keeps_for g.O.Sink.faults g.O.Sink.is_steady g.O.Sink.is_closed _ _ _ _ (λ same. search rules) c.put_lines.ensures.kept

pub returns-clause-kept : goal.returns-clause-kept
returns-clause-kept g c =
    keeps_for g.O.Sink.faults g.O.Sink.is_steady g.O.Sink.is_closed _ _ _ _ (λ same. absurd (let never : ⊥ = cc in never)) c.put_lines.ensures.kept
