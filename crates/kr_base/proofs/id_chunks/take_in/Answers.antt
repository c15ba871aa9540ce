use Rattle.std.proofs.Common.{◌∙◌}
use Rattle.kr_base.proofs.IdLemmas.{without-hit, without-miss}
use Rattle.kr_base.proofs.id_chunks.take_in.Goals as goal

pub returns-in-Ok : goal.returns-in-Ok
returns-in-Ok c = c.remove.ensures.items ∙ without-hit c.args.ids.now.items c.args.id c.in-Ok.place c.requires (rw c.as_slice.ensures.value at c.in-Ok.ensures.position)

pub returns-in-Err : goal.returns-in-Err
returns-in-Err c = without-miss c.args.ids.now.items c.args.id c.in-Err.field-0 c.requires (rw c.as_slice.ensures.value at c.in-Err.ensures.position)
