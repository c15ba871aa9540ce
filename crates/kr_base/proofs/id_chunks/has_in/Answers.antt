use Rattle.kr_base.proofs.IdLemmas.{has-hit, has-miss}
use Rattle.kr_base.proofs.id_chunks.has_in.Goals as goal

pub returns-in-Ok : goal.returns-in-Ok
returns-in-Ok c = has-hit c.args.ids.now c.args.id c.in-Ok.field-0 c.requires c.in-Ok.ensures.position

pub returns-in-Err : goal.returns-in-Err
returns-in-Err c = has-miss c.args.ids.now c.args.id c.in-Err.field-0 c.requires c.in-Err.ensures.position
