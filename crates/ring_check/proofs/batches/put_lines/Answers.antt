use Rattle.std.proofs.Common.{◌≡◌, rules}
use Rattle.ring_check.proofs.BatchLemmas.{front_none, keeps_none}
use Rattle.ring_check.proofs.batches.put_lines.Goals as goal

-- nothing was written
pub returns-in_default-clause-front : goal.returns-in_default-clause-front
returns-in_default-clause-front g c = front_none _ _

pub returns-in_default-clause-kept : goal.returns-in_default-clause-kept
returns-in_default-clause-kept g c =
    keeps_none g.O.Sink.faults g.O.Sink.is_steady g.O.Sink.is_closed _ c.args.output.now c.requires.is_open (λ same. let never : ⊥ = cc in never)
