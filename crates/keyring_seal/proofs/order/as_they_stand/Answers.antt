use Rattle.std.proofs.Common.{◌≡◌, [], drop, map, sym, ◌∙◌, arith}
use Rattle.std.proofs.lemmas.List.{append-nil, drop_all}
use Rattle.keyring_seal.proofs.ArrangeLemmas.{see}
use Rattle.keyring_seal.proofs.RisingLemmas.{stand_next}
use Rattle.keyring_seal.proofs.order.as_they_stand.Goals as goal

pub loop-i-preserved : goal.loop-i-preserved
loop-i-preserved c =
    rw c.in_ok-push.ensures.items (stand_next c.loop-i.rows.items _ c.args.clear.now c.args.full.now c.loop-i.i c.loop-i-test.true c.requires c.index-clear-i.is c.index-full-i.is ∙ c.loop-i.invariant)

pub returns : goal.returns
returns c =
    let ended : drop c.loop-i.i c.args.clear.now ≡ [] = drop_all c.loop-i.i c.args.clear.now (omega arith) in
    let whole = rw ended at c.loop-i.invariant in
    sym (append-nil (map see c.loop-i.rows.items)) ∙ whole
