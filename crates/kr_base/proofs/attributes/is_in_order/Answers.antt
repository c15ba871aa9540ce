use Rattle.std.proofs.Common.{◌+◌, sym, subst, ◌∙◌, arith}
use Rattle.std.proofs.lemmas.List.{take_all}
use Rattle.kr_base.specs.Attributes.{IsInOrder}
use Rattle.kr_base.proofs.OrderedLemmas.{is_less, first-in_order, next-in_order}
use Rattle.kr_base.proofs.attributes.is_in_order.Goals as goal

pub loop-i-init : goal.loop-i-init
loop-i-init c = first-in_order c.args.pairs.now

pub loop-i-preserved : goal.loop-i-preserved
loop-i-preserved c =
    let less = is_less c.cmp-order.result (sym c.is_lt.ensures ∙ c.if-not-is_lt.false) in
    next-in_order c.args.pairs.now c.loop-i.i c.index-pairs-i.result c.index-pairs-i-in-loop-i.result (omega (arith, c.loop-i-test.true, c.saturating_sub-i-end.ensures)) (sym c.cmp-order.ensures ∙ less) c.loop-i.invariant

pub returns : goal.returns
returns c = λ _. subst (λ xs. IsInOrder xs) (take_all (c.loop-i.i + 1) c.args.pairs.now (omega (arith, c.loop-i-test.false, c.saturating_sub-i-end.ensures))) c.loop-i.invariant
