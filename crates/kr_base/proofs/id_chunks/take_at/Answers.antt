use Rattle.kr_base.specs.IdLists.{without_id}
use Rattle.kr_base.specs.declared.id_chunks.Chunk.{Chunk}
use Rattle.kr_base.proofs.ChunkLemmas.{set-part}
use Rattle.kr_base.proofs.id_chunks.take_at.Goals as goal

pub returns : goal.returns
returns c =
    let new : Chunk = record { before = c.index_mut.result.now.before; ids = c.take_in.new.ids } in
    set-part c.args.chunks.now.items c.args.place c.requires.within c.index_mut.result.now new c.index_mut.ensures.value (without_id c.args.id) c.take_in.ensures
