use Rattle.std.proofs.Common.{refl, arith}
use Rattle.kr_dialer.proofs.CarriedLemmas.{read-none, read-some}
use Rattle.kr_dialer.proofs.reading.read_piece.Goals as goal

-- the dialer failed
pub returns-in-Err : goal.returns-in-Err
returns-in-Err g c = let did = c.in-Err.ensures in (read-none _ _ did.taken did.written did.dialled did.cause.later did.steady, did.cause.failed refl)

-- bytes were read
pub returns-in-Ok : goal.returns-in-Ok
returns-in-Ok g c =
    let did = c.in-Ok.ensures in
    (did.within.0, read-some _ _ _ did.taken.0 did.written did.dialled did.cause.later did.steady, did.still, λ none. did.taken.1 none (omega (arith, c.read.auto.buffer, c.requires.room)))
