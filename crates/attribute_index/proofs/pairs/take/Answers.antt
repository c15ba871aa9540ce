use Rattle.std.proofs.Common.{ap, subst, sym, ◌∙◌}
use Rattle.std.specs.Map.{remove_entry}
use Rattle.attribute_index.specs.Branches.{pairs_of}
use Rattle.attribute_index.specs.Index.{IsSorted, is_pair}
use Rattle.attribute_index.proofs.KeptLemmas.{take-gone, take-kept, there-sorted}
use Rattle.attribute_index.proofs.pairs.take.Goals as goal

pub without_pair-pairs-requires : goal.without_pair-pairs-requires
without_pair-pairs-requires c =
    let there = there-sorted (c.args.name.now, c.args.text.now) c.args.id.0 c.take_there.result _ _ c.requires c.take_there.ensures in
    record {
      sorted = subst (λ o. IsSorted (pairs_of o)) (sym c.take.ensures.value) there;
      key = c.key_of_pair-key.ensures;
    }

pub returns-then-take_there : goal.returns-then-take_there
returns-then-take_there c =
    let gone = c.without_pair-pairs.ensures.pairs ∙ ap (λ o. remove_entry (is_pair (c.args.name.now, c.args.text.now)) (pairs_of o)) c.take.ensures.value in
    let kept = take-gone c.args.name.now c.args.text.now c.args.id.0 c.take_there.result _ _ _ c.if-take_there.true c.requires c.take_there.ensures gone in
    record { sorted = kept.sorted; taken = kept.taken; lean = kept.lean }

pub returns-else-take_there : goal.returns-else-take_there
returns-else-take_there c =
    let kept = take-kept c.args.name.now c.args.text.now c.args.id.0 c.take_there.result _ _ c.if-take_there.false c.requires c.take_there.ensures in
    record { sorted = kept.sorted; taken = kept.taken; lean = kept.lean }
