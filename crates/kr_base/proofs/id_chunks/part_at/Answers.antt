use Rattle.std.proofs.Common.{◌∙◌}
use Rattle.kr_base.proofs.ChunkLemmas.{part-of}
use Rattle.kr_base.proofs.id_chunks.part_at.Goals as goal

pub returns : goal.returns
returns c = c.as_slice.ensures.value ∙ part-of c.args.chunks.now c.args.place c.index-chunks-place.result c.requires
