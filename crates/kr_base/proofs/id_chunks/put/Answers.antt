use Rattle.std.proofs.Common.{◌≡◌, ◌+◌, ◌≤◌, [], get_or, length, ap, sym, subst, ◌∙◌, arith}
use Rattle.std.specs.List.{concat}
use Rattle.std.proofs.lemmas.List.{length-map, length-set}
use Rattle.kr_base.specs.IdLists.{ids_in, keys, parts, with_id, IsFilled}
use Rattle.kr_base.specs.declared.id_chunks.Chunk.{Chunk}
use Rattle.kr_base.specs.declared.id_chunks.Key.TheVariants as key
use Rattle.kr_base.proofs.IdLemmas.{small-with}
use Rattle.kr_base.proofs.ChunkLemmas.{counted-set, part-rises, with-place, filled-with, kept-few, laid-from}
use Rattle.kr_base.proofs.id_chunks.put.Goals as goal

pub put_at-requires-clause-rising : goal.put_at-requires-clause-rising
put_at-requires-clause-rising c =
    let found = rw c.as_slice.ensures.value at c.place_of-place.ensures in
    part-rises c.args.chunks.now.items c.requires.laid.ids.rising c.requires.laid.filled c.place_of-place.result found.within

pub count-requires : goal.count-requires
count-requires c =
    let found = rw c.as_slice.ensures.value at c.place_of-place.ensures in
    let all = c.args.chunks.now.items in
    let put = c.split.ensures.ids ∙ ap concat c.in_ok-put_at.ensures.put ∙ with-place all c.requires.laid.ids.rising c.requires.laid.filled c.place_of-place.result found.within c.args.id found.from found.to in
    kept-few (with_id c.args.id (ids_in all)) (ids_in c.split.new.chunks.items) (small-with c.args.id (ids_in all) (omega (arith, c.ranges.id)) c.requires.laid.ids) put

pub returns-clause-laid : goal.returns-clause-laid
returns-clause-laid c =
    let found = rw c.as_slice.ensures.value at c.place_of-place.ensures in
    let all = c.args.chunks.now.items in
    let put = ap concat c.count.ensures.parts ∙ c.split.ensures.ids ∙ ap concat c.in_ok-put_at.ensures.put ∙ with-place all c.requires.laid.ids.rising c.requires.laid.filled c.place_of-place.result found.within c.args.id found.from found.to in
    let filled = c.split.ensures.filled (subst IsFilled (sym c.in_ok-put_at.ensures.put) (filled-with _ c.place_of-place.result c.args.id c.requires.laid.filled)) in
    laid-from c.count.new.chunks.items (with_id c.args.id (ids_in all)) put (small-with c.args.id (ids_in all) (omega (arith, c.ranges.id)) c.requires.laid.ids) (subst IsFilled (sym c.count.ensures.parts) filled) c.count.ensures.counted

pub returns-clause-put : goal.returns-clause-put
returns-clause-put c =
    let found = rw c.as_slice.ensures.value at c.place_of-place.ensures in
    let all = c.args.chunks.now.items in
    ap concat c.count.ensures.parts ∙ c.split.ensures.ids ∙ ap concat c.in_ok-put_at.ensures.put ∙ with-place all c.requires.laid.ids.rising c.requires.laid.filled c.place_of-place.result found.within c.args.id found.from found.to

-- no chunk comes after the one that has the id, and it wasn't split
pub returns-then-as_slice-place-clause-laid : goal.returns-then-as_slice-place-clause-laid
returns-then-as_slice-place-clause-laid c =
    let found = rw c.as_slice.ensures.value at c.place_of-place.ensures in
    let all = c.args.chunks.now.items in
    let place = c.place_of-place.result in
    let many : length c.split.new.chunks.items ≡ place + 1 = ap length (sym c.as_slice-2.ensures.value) ∙ c.if-as_slice-place.true in
    let whole = c.split.ensures.whole many in
    let now = ap parts whole ∙ c.in_ok-put_at.ensures.put in
    let before = ap (keys key.Before) whole ∙ c.put_at.ensures.before in
    let put = c.split.ensures.ids ∙ ap concat c.in_ok-put_at.ensures.put ∙ with-place all c.requires.laid.ids.rising c.requires.laid.filled place found.within c.args.id found.from found.to in
    let filled = subst IsFilled (sym now) (filled-with _ place c.args.id c.requires.laid.filled) in
    let put_there = with_id c.args.id (get_or (parts all) place []) in
    let last : length (parts all) ≤ place + 1 = omega (arith, many, ap length now, length-set (parts all) place put_there, length-map c.split.new.chunks.items (λ (x : Chunk). x.ids.items)) in
    let counted = counted-set (keys key.Before all) (parts all) place put_there last c.requires.laid.counted in
    laid-from c.split.new.chunks.items (with_id c.args.id (ids_in all)) put (small-with c.args.id (ids_in all) (omega (arith, c.ranges.id)) c.requires.laid.ids) filled (rw (before, now) counted)

pub returns-then-as_slice-place-clause-put : goal.returns-then-as_slice-place-clause-put
returns-then-as_slice-place-clause-put c =
    let found = rw c.as_slice.ensures.value at c.place_of-place.ensures in
    let all = c.args.chunks.now.items in
    c.split.ensures.ids ∙ ap concat c.in_ok-put_at.ensures.put ∙ with-place all c.requires.laid.ids.rising c.requires.laid.filled c.place_of-place.result found.within c.args.id found.from found.to
