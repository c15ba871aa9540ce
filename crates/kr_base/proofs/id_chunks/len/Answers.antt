use Rattle.std.proofs.Common.{◌≡◌, ◌+◌, length, sym, ◌∙◌, arith}
use Rattle.kr_base.specs.IdLists.{ids_in}
use Rattle.kr_base.proofs.IdLemmas.{few}
use Rattle.kr_base.proofs.ChunkLemmas.{total-chunks}
use Rattle.kr_base.proofs.id_chunks.len.Goals as goal

pub overflow_add-result : goal.overflow_add-result
overflow_add-result c =
    let all : c.key_at.result + length c.part_at.result.now ≡ length (ids_in c.args.chunks.now) = rw (c.key_at.ensures, c.part_at.ensures) (total-chunks c.args.chunks.now c.requires (sym c.is_empty.ensures ∙ c.if-is_empty.false)) in
    omega (arith, all, few (ids_in c.args.chunks.now) c.requires.ids)

pub returns : goal.returns
returns c = rw (c.key_at.ensures, c.part_at.ensures) (total-chunks c.args.chunks.now c.requires (sym c.is_empty.ensures ∙ c.if-is_empty.false))
