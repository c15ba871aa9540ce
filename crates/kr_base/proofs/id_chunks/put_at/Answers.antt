use Rattle.std.proofs.Common.{refl}
use Rattle.std.proofs.lemmas.Result.{on_ok_weaker, on_err_weaker}
use Rattle.kr_base.specs.IdLists.{with_id}
use Rattle.kr_base.specs.declared.id_chunks.Chunk.{Chunk}
use Rattle.kr_base.proofs.ChunkLemmas.{set-part, same-part, same-before}
use Rattle.kr_base.proofs.id_chunks.put_at.Goals as goal

pub returns-clause-put : goal.returns-clause-put
returns-clause-put c =
    let new : Chunk = record { before = c.index_mut.result.now.before; ids = c.put_in.new.ids } in
    on_ok_weaker c.put_in.result (λ is. set-part c.args.chunks.now.items c.args.place c.requires.within c.index_mut.result.now new c.index_mut.ensures.value (with_id c.args.id) is) c.put_in.ensures.put

pub returns-clause-unchanged : goal.returns-clause-unchanged
returns-clause-unchanged c =
    let new : Chunk = record { before = c.index_mut.result.now.before; ids = c.put_in.new.ids } in
    on_err_weaker c.put_in.result (λ is. same-part c.args.chunks.now.items c.args.place c.requires.within c.index_mut.result.now new c.index_mut.ensures.value is) c.put_in.ensures.unchanged

pub returns-clause-before : goal.returns-clause-before
returns-clause-before c =
    let new : Chunk = record { before = c.index_mut.result.now.before; ids = c.put_in.new.ids } in
    same-before c.args.chunks.now.items c.args.place c.requires.within c.index_mut.result.now new c.index_mut.ensures.value refl
