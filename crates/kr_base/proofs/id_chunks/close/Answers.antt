use Rattle.std.proofs.Common.{sym, ◌∙◌}
use Rattle.kr_base.proofs.ChunkLemmas.{ids-closed, filled-left, filled-whole}
use Rattle.kr_base.proofs.id_chunks.close.Goals as goal

pub returns-then-is_empty-clause-ids : goal.returns-then-is_empty-clause-ids
returns-then-is_empty-clause-ids c =
    ids-closed c.args.chunks.now.items c.args.place c.requires.within c.part_at.result.now (rw c.as_slice.ensures.value at c.part_at.ensures) c.remove.new.self.items c.remove.ensures.items (sym c.is_empty.ensures ∙ c.if-is_empty.true)

pub returns-then-is_empty-clause-filled : goal.returns-then-is_empty-clause-filled
returns-then-is_empty-clause-filled c =
    filled-left c.args.chunks.now.items c.args.place c.requires.within c.part_at.result.now (rw c.as_slice.ensures.value at c.part_at.ensures) c.remove.new.self.items c.remove.ensures.items c.requires.others

pub returns-else-is_empty-clause-filled : goal.returns-else-is_empty-clause-filled
returns-else-is_empty-clause-filled c =
    filled-whole c.args.chunks.now.items c.args.place c.requires.within c.part_at.result.now (rw c.as_slice.ensures.value at c.part_at.ensures) (sym c.is_empty.ensures ∙ c.if-is_empty.false) c.requires.others
