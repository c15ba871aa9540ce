use Rattle.std.proofs.Common.{sym, subst, refl, arith}
use Rattle.kr_base.specs.IdLists.{IsLaid}
use Rattle.kr_base.specs.declared.id_chunks.Chunk.{Chunk}
use Rattle.kr_base.proofs.ChunkLemmas.{laid-two}
use Rattle.kr_base.proofs.id_chunks.of_two.Goals as goal

pub returns-clause-laid : goal.returns-clause-laid
returns-clause-laid c =
    let chunk : Chunk = record { before = 0; ids = c.in_ok-ids.ids } in
    subst IsLaid (sym c.in_ok-vec.ensures.items) (laid-two c.args.one c.args.other chunk c.requires (omega (arith, c.ranges.other)) refl c.in_ok-ids.ensures.items)
