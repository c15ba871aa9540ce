use Rattle.kr_base.specs.declared.attributes.AttrValue.{AttrValue}
use Rattle.kr_base.proofs.AttributeLemmas.{IsInOrder-nil}
use Rattle.kr_base.proofs.attributes.Attributes.new.Goals as goal

pub invariant_of-result : goal.invariant_of-result
invariant_of-result c = rw c.new.ensures.items (IsInOrder-nil AttrValue)
