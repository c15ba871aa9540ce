use Rattle.kr_base.proofs.AttributeLemmas.{one_gathered}
use Rattle.kr_base.proofs.attribute_laws.pairs_gather_one_list.Goals as goal

pub returns : goal.returns
returns c pairs one other p q = one_gathered pairs one other p q
