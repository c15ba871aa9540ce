use Rattle.std.proofs.Common.{rules}
use Rattle.kr_base.proofs.AttributeLemmas.{attributes_Decide}
use Rattle.kr_base.proofs.attribute_laws.equal_attributes_are_one_list.Goals as goal

pub returns : goal.returns
returns c one other = attributes_Decide _ (λ v w. search rules) one other
