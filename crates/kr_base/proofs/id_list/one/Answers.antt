use Rattle.std.proofs.Common.{arith}
use Rattle.kr_base.proofs.ChunkLemmas.{ids-one}
use Rattle.kr_base.proofs.id_list.one.Goals as goal

pub returns-clause-held : goal.returns-clause-held
returns-clause-held c = ids-one c.args.id (omega (arith, c.ranges.id))
