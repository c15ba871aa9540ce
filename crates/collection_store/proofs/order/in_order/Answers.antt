use Rattle.std.proofs.Common.{◌≡◌, [], length, sym, ap, subst, ◌∙◌, rules, arith}
use Rattle.std.specs.Map.{values_of}
use Rattle.keyring_seal.specs.Order.{by_number, entered}
use Rattle.keyring_seal.proofs.RisingLemmas.{rising_by_number, rising_by_place}
use Rattle.collection_store.proofs.OrderLemmas.{none_left}
use Rattle.collection_store.proofs.order.in_order.Goals as goal

pub returns-then-is_rising : goal.returns-then-is_rising
returns-then-is_rising g c =
    let number = g.T.Numbered.number_of in
    let items : c.as_slice.result.now ≡ c.args.these.items = search rules in
    sym (rising_by_number number c.args.these.items (rising_by_place number c.args.these.items (rw items at (c.is_rising.ensures.0 c.if-is_rising.true))))

pub loop-one-preserved : goal.loop-one-preserved
loop-one-preserved g c =
    let number = g.T.Numbered.number_of in
    let all = entered number [] c.args.these.items in
    let had = subst (λ left. entered number c.loop-one.entered.entries left ≡ all) c.in-Some.ensures.steps.0 c.loop-one.invariant.3 in
    (tt, tt, omega (arith, ap length c.in-Some.ensures.steps.0, c.in-Some.ensures.steps.1, c.loop-one.invariant.2), rw (c.in_ok-insert.ensures.entries, c.number.ensures) had)

pub returns : goal.returns
unfolding by_number
returns g c =
    let number = g.T.Numbered.number_of in
    let all = entered number [] c.args.these.items in
    let none : c.loop-one.one-iterator.rest.items ≡ [] = none_left c.loop-one.one-iterator.rest.items (omega (arith, c.loop-one.invariant.2, c.in-None.ensures.steps.0)) in
    let values : c.in_ok-collect.field-0.items ≡ values_of c.loop-one.entered.entries = search rules in
    values ∙ ap (λ es. values_of es) (subst (λ left. entered number c.loop-one.entered.entries left ≡ all) none c.loop-one.invariant.3)
