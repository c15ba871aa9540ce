use Rattle.std.proofs.Common.{◌∙◌, ap}
use Rattle.kr_base.specs.IdLists.{has_id}
use Rattle.kr_base.proofs.ChunkLemmas.{part-rises, has-place}
use Rattle.kr_base.proofs.id_chunks.has.Goals as goal

pub has_in-requires : goal.has_in-requires
has_in-requires c = rw c.part_at.ensures (part-rises c.args.chunks.now c.requires.ids.rising c.requires.filled c.last_up_to-place.result c.last_up_to-place.ensures.within)

pub returns : goal.returns
returns c =
    c.has_in.ensures ∙ ap (λ t. has_id t c.args.id) c.part_at.ensures
    ∙ has-place c.args.chunks.now c.requires.ids.rising c.requires.filled c.last_up_to-place.result c.last_up_to-place.ensures.within c.args.id c.last_up_to-place.ensures.from c.last_up_to-place.ensures.to
