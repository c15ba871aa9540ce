use Rattle.kr_base.proofs.ChunkLemmas.{laid-none}
use Rattle.kr_base.proofs.id_list.IdList.new.Goals as goal

pub invariant_of-result : goal.invariant_of-result
invariant_of-result c = laid-none c.new.result.items c.new.ensures.items
