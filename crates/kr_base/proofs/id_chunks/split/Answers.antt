use Rattle.std.proofs.Common.{◌∙◌, ◌/◌, length, arith}
use Rattle.std.proofs.lemmas.List.{take_rest}
use Rattle.kr_base.specs.declared.id_chunks.Chunk.{Chunk}
use Rattle.kr_base.proofs.ChunkLemmas.{ids-split, filled-split}
use Rattle.kr_base.proofs.id_chunks.split.Goals as goal

pub returns-clause-ids : goal.returns-clause-ids
returns-clause-ids c =
    let shown = c.part_at-ids.result.now in
    let upper : Chunk = record { before = 0; ids = c.in-Ok.ids } in
    let new : Chunk = record { before = c.index_mut.result.now.before; ids = c.truncate.new.self } in
    ids-split c.args.chunks.now.items c.insert.new.self.items c.args.place (length shown / 2) c.requires.within upper shown (rw c.as_slice.ensures.value at c.part_at-ids.ensures)
    (c.in-Ok.ensures.items ∙ take_rest shown (length shown / 2)) c.in_default-insert.ensures.items c.index_mut.result.now new c.index_mut.ensures.value c.truncate.ensures.items

pub returns-clause-filled : goal.returns-clause-filled
returns-clause-filled c = λ filled.
    let shown = c.part_at-ids.result.now in
    let upper : Chunk = record { before = 0; ids = c.in-Ok.ids } in
    let new : Chunk = record { before = c.index_mut.result.now.before; ids = c.truncate.new.self } in
    filled-split c.args.chunks.now.items c.insert.new.self.items c.args.place (length shown / 2) c.requires.within upper shown (rw c.as_slice.ensures.value at c.part_at-ids.ensures)
    (c.in-Ok.ensures.items ∙ take_rest shown (length shown / 2)) c.in_default-insert.ensures.items c.index_mut.result.now new c.index_mut.ensures.value c.truncate.ensures.items
    (omega (arith, c.if-half.false)) (omega (arith, c.if-half.false)) filled
