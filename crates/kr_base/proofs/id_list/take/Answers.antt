use Rattle.kr_base.proofs.ChunkLemmas.{laid-none}
use Rattle.kr_base.proofs.id_list.take.Goals as goal

pub returns-then-one-id-clause-held : goal.returns-then-one-id-clause-held
returns-then-one-id-clause-held c = laid-none c.new.result.items c.new.ensures.items
