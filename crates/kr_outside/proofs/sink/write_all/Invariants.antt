use Rattle.std.proofs.Common.{length}
use Rattle.kr_outside.proofs.WrittenLemmas.{WroteAllBut}
use Rattle.kr_outside.proofs.sink.write_all.Given as goal

-- so far a prefix of the piece was written, `rest` is what comes after it, and the sink is open
abbrev pub invariant-loop-rest : goal.invariant-loop-rest
invariant-loop-rest g l =
    let sink = g.O.Sink in
    WroteAllBut (sink.written l.fn.output) (sink.written l.output) (sink.faults l.fn.output) (sink.faults l.output)
    (sink.is_steady l.fn.output) (sink.is_steady l.output) (sink.is_closed l.output) l.piece l.rest

-- each write takes at least one byte
abbrev pub decreases-loop-rest : goal.decreases-loop-rest
decreases-loop-rest g l = length l.rest
