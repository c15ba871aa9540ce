-- So far a prefix of the piece was written, and `rest` is what comes after it.
use Rattle.std.proofs.Common.{length}
use Rattle.kr_dialer.specs.Carrying.{link_of}
use Rattle.kr_dialer.proofs.CarryingLemmas.{SentAllBut}
use Rattle.kr_dialer.proofs.sending.send_all.Given as goal

abbrev pub invariant-loop-rest : goal.invariant-loop-rest
invariant-loop-rest g l =
    let it = g.D.Dialer in
    SentAllBut (link_of it.dialled it.left it.written it.faults it.is_steady l.fn.dialer) (link_of it.dialled it.left it.written it.faults it.is_steady l.dialer) l.piece l.rest

-- each write takes at least one byte
abbrev pub decreases-loop-rest : goal.decreases-loop-rest
decreases-loop-rest g l = length l.rest
