use Rattle.std.proofs.Common.{◌≡◌, [], sym, ap, ◌∙◌, rules, drop, arith}
use Rattle.std.specs.Map.{values_of}
use Rattle.std.proofs.lemmas.List.{drop_all}
use Rattle.keyring_seal.specs.Arranged.{Row, row_number}
use Rattle.keyring_seal.specs.Order.{by_number}
use Rattle.keyring_seal.proofs.ArrangeLemmas.{enter_next, see}
use Rattle.keyring_seal.proofs.OrderLemmas.{changed, changed-insert, values_of-changed}
use Rattle.keyring_seal.proofs.RisingLemmas.{as_they_stand}
use Rattle.keyring_seal.proofs.WholeLemmas.{then_holds}
use Rattle.keyring_seal.proofs.order.in_order.Goals as goal

pub loop-i-preserved : goal.loop-i-preserved
loop-i-preserved c =
    let next = enter_next row_number (changed {Y = Row} see c.loop-i.standing.entries) c.args.clear.now c.args.full.now c.loop-i.i c.index-clear-i.result c.index-full-i.result c.loop-i-test.true c.requires c.index-clear-i.is c.index-full-i.is in
    rw (c.in_ok-insert.ensures.entries, changed-insert {Y = Row} see) (sym next ∙ c.loop-i.invariant)

pub returns : goal.returns
unfolding by_number
returns c =
    let values : c.in_ok-collect.field-0.items ≡ values_of c.loop-i.standing.entries = search rules in
    let ended : drop c.loop-i.i c.args.clear.now ≡ [] = drop_all c.loop-i.i c.args.clear.now (omega arith) in
    let whole = rw ended at c.loop-i.invariant in
    rw values (sym (values_of-changed {Y = Row} see c.loop-i.standing.entries) ∙ ap (λ es. values_of es) whole)

pub returns-then-is_rising : goal.returns-then-is_rising
returns-then-is_rising c =
    let stands = as_they_stand c.args.clear.now c.args.full.now (c.is_rising.ensures.0 c.if-is_rising.true) in
    then_holds _ _ c.as_they_stand.result (λ found e. e ∙ stands) c.as_they_stand.ensures
