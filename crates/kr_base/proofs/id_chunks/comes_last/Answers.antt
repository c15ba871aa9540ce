use Rattle.kr_base.proofs.IdLemmas.{with-last}
use Rattle.kr_base.proofs.id_chunks.comes_last.Goals as goal

pub returns-in-Some : goal.returns-in-Some
returns-in-Some c = λ less. with-last c.args.ids.now c.args.id c.in-Some.last.now c.requires c.in-Some.ensures.item.3.0 c.in-Some.ensures.item.1 less
