use Rattle.std.proofs.Common.{◌≡◌, ◌<◌, List, ℕ, [], length, get_or, ap, sym, ◌∙◌, refl, arith}
use Rattle.kr_base.specs.IdLists.{parts}
use Rattle.kr_base.specs.declared.id_chunks.Chunk.{Chunk}
use Rattle.kr_base.proofs.ChunkLemmas.{total-few, in-parts, next-count, same-part, counted-more}
use Rattle.std.proofs.lemmas.List.{length-map}
use Rattle.kr_base.proofs.id_chunks.count.Goals as goal

pub overflow_add-total : goal.overflow_add-total
overflow_add-total c =
    let all = c.args.chunks.now.items in
    let shown = (rw c.as_slice.ensures.value at c.part_at-more.ensures) ∙ ap (λ (t : List (List ℕ)). get_or t c.loop-place.place []) c.loop-place.invariant.0 in
    let inside : c.loop-place.place < length all = rw c.as_slice-place-end.ensures.value at c.loop-place-test.true in
    omega (arith, total-few all c.loop-place.place inside c.requires, c.loop-place.invariant.1, ap length shown)

pub loop-place-preserved : goal.loop-place-preserved
loop-place-preserved c =
    let all = c.args.chunks.now.items in
    let now = c.loop-place.chunks.items in
    let place = c.loop-place.place in
    let shown = (rw c.as_slice.ensures.value at c.part_at-more.ensures) ∙ ap (λ (t : List (List ℕ)). get_or t place []) c.loop-place.invariant.0 in
    let inside : place < length all = rw c.as_slice-place-end.ensures.value at c.loop-place-test.true in
    let as_long : length now ≡ length all = sym (length-map now (λ (x : Chunk). x.ids.items)) ∙ ap length c.loop-place.invariant.0 ∙ length-map all (λ (x : Chunk). x.ids.items) in
    let here : place < length now = omega (arith, inside, as_long) in
    let new : Chunk = record { before = c.loop-place.total; ids = c.index_mut.result.now.ids } in (
      same-part now place here c.index_mut.result.now new c.index_mut.ensures.value refl ∙ c.loop-place.invariant.0,
      omega (arith, c.loop-place.invariant.1, ap length shown, next-count (parts all) place (in-parts all place inside)),
      counted-more now place here c.index_mut.result.now new c.index_mut.ensures.value (parts all) c.loop-place.invariant.1 c.loop-place.invariant.2,
    )
