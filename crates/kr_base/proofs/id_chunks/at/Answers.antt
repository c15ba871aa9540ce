use Rattle.std.proofs.Common.{◌-◌, ◌<◌, length, arith}
use Rattle.kr_base.proofs.ChunkLemmas.{chunk-ends, chunk-found}
use Rattle.kr_base.proofs.id_chunks.at.Goals as goal

pub bounds-part_at-place : goal.bounds-part_at-place
bounds-part_at-place c = rw (c.key_at-before.ensures, c.part_at.ensures) (chunk-ends c.args.chunks.now c.requires.laid c.last_up_to-chunk.result c.last_up_to-chunk.ensures.within c.args.place c.last_up_to-chunk.ensures.from c.last_up_to-chunk.ensures.to c.requires.within)

pub offset_bounds-part_at-place : goal.offset_bounds-part_at-place
offset_bounds-part_at-place c =
    let inside : c.args.place - c.key_at-before.result < length c.part_at.result.now =
    rw (c.key_at-before.ensures, c.part_at.ensures) (chunk-ends c.args.chunks.now c.requires.laid c.last_up_to-chunk.result c.last_up_to-chunk.ensures.within c.args.place c.last_up_to-chunk.ensures.from c.last_up_to-chunk.ensures.to c.requires.within) in
    omega (arith, inside, c.part_at.type_inv.1)

pub returns : goal.returns
returns c =
    rw (c.key_at-before.ensures, c.part_at.ensures) (chunk-found c.args.chunks.now c.requires.laid c.last_up_to-chunk.result c.last_up_to-chunk.ensures.within c.args.place c.last_up_to-chunk.ensures.from c.last_up_to-chunk.ensures.to c.requires.within)
