use Rattle.std.proofs.Common.{ap, sym, subst, ◌∙◌}
use Rattle.std.specs.List.{concat}
use Rattle.kr_base.specs.IdLists.{ids_in, parts, without_id, IsFilled}
use Rattle.kr_base.proofs.IdLemmas.{small-without}
use Rattle.kr_base.proofs.ChunkLemmas.{part-rises, without-place, filled-removed, removed-set, kept-few, laid-from}
use Rattle.kr_base.proofs.id_chunks.take.Goals as goal

pub take_at-requires-clause-rising : goal.take_at-requires-clause-rising
take_at-requires-clause-rising c =
    let found = rw c.as_slice.ensures.value at c.last_up_to-place.ensures in
    part-rises c.args.chunks.now.items c.requires.ids.rising c.requires.filled c.last_up_to-place.result found.within

pub close-requires-clause-others : goal.close-requires-clause-others
close-requires-clause-others c =
    rw (c.take_at.ensures, removed-set (parts c.args.chunks.now.items) c.last_up_to-place.result _) (filled-removed (parts c.args.chunks.now.items) c.last_up_to-place.result c.requires.filled)

pub count-requires : goal.count-requires
count-requires c =
    let found = rw c.as_slice.ensures.value at c.last_up_to-place.ensures in
    let all = c.args.chunks.now.items in
    let taken = c.close.ensures.ids ∙ ap concat c.take_at.ensures ∙ without-place all c.requires.ids.rising c.requires.filled c.last_up_to-place.result found.within c.args.id found.from found.to in
    kept-few (without_id c.args.id (ids_in all)) (ids_in c.close.new.chunks.items) (small-without c.args.id (ids_in all) c.requires.ids) taken

pub returns-clause-laid : goal.returns-clause-laid
returns-clause-laid c =
    let found = rw c.as_slice.ensures.value at c.last_up_to-place.ensures in
    let all = c.args.chunks.now.items in
    let taken = ap concat c.count.ensures.parts ∙ c.close.ensures.ids ∙ ap concat c.take_at.ensures ∙ without-place all c.requires.ids.rising c.requires.filled c.last_up_to-place.result found.within c.args.id found.from found.to in
    laid-from c.count.new.chunks.items (without_id c.args.id (ids_in all)) taken (small-without c.args.id (ids_in all) c.requires.ids) (subst IsFilled (sym c.count.ensures.parts) c.close.ensures.filled) c.count.ensures.counted

pub returns-clause-taken : goal.returns-clause-taken
returns-clause-taken c =
    let found = rw c.as_slice.ensures.value at c.last_up_to-place.ensures in
    let all = c.args.chunks.now.items in
    ap concat c.count.ensures.parts ∙ c.close.ensures.ids ∙ ap concat c.take_at.ensures ∙ without-place all c.requires.ids.rising c.requires.filled c.last_up_to-place.result found.within c.args.id found.from found.to
