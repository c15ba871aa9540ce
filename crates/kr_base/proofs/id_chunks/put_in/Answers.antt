use Rattle.std.proofs.Common.{◌∙◌}
use Rattle.kr_base.proofs.IdLemmas.{with-hit, with-miss}
use Rattle.kr_base.proofs.id_chunks.put_in.Goals as goal

pub returns-in-Ok-binary_search-clause-put : goal.returns-in-Ok-binary_search-clause-put
returns-in-Ok-binary_search-clause-put c = with-hit c.args.ids.now.items c.args.id c.in-Ok-binary_search.field-0 c.requires (rw c.as_slice-2.ensures.value at c.in-Ok-binary_search.ensures.position)

pub returns-in-Ok-insert-clause-put : goal.returns-in-Ok-insert-clause-put
returns-in-Ok-insert-clause-put c = c.in-Ok-insert.ensures.items ∙ with-miss c.args.ids.now.items c.args.id c.in-Err-binary_search.place c.requires (rw c.as_slice-2.ensures.value at c.in-Err-binary_search.ensures.position)
