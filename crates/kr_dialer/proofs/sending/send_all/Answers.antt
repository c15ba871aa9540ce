use Rattle.kr_dialer.proofs.CarryingLemmas.{sent-more, wrote-some}
use Rattle.kr_dialer.proofs.sending.send_all.Goals as goal

-- the rest is shorter by what this write took
pub loop-rest-preserved : goal.loop-rest-preserved
loop-rest-preserved g c =
    let did = c.in_ok-count.ensures in
    sent-more _ _ _ _ _ c.in_ok-count.count c.loop-rest.invariant (wrote-some _ _ _ did.put did.left did.dialled did.cause.later did.steady) did.still
