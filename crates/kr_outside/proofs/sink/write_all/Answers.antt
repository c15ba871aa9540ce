use Rattle.kr_outside.proofs.WrittenLemmas.{WroteAllBut-more}
use Rattle.kr_outside.proofs.sink.write_all.Goals as goal

-- the rest is shorter by what this write took
pub loop-rest-preserved : goal.loop-rest-preserved
loop-rest-preserved g c =
    WroteAllBut-more _ _ _ _ _ _ _ _ _ _ _ _ _ c.in_ok-count.count c.loop-rest.invariant
    c.in_ok-count.ensures.put c.in_ok-count.ensures.cause.later c.in_ok-count.ensures.still c.in_ok-count.ensures.steady c.in_ok-count.ensures.is_open
