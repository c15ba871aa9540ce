use Rattle.attribute_index.proofs.MakingLemmas.{kept-put, made, none-kept}
use Rattle.attribute_index.proofs.chain.pairs_from.Goals as goal

pub put_entries-requires : goal.put_entries-requires
put_entries-requires c = rw c.new-done.ensures.items (kept-put _ _ _ _ _ c.in_ok-last.ensures none-kept)

pub returns : goal.returns
returns c =
    let kept = c.in_ok-left.ensures.kept in
    let mid = rw c.new-done.ensures.items at c.in_ok-left.ensures.each in
    let end = rw (c.in_ok-pairs.ensures, c.as_slice.ensures.value) at c.in_ok-put_left.ensures.each in
    made c.args.first.now c.args.rest.now c.in_ok-left.left.items _ _ c.put_left.new.pairs c.in_ok-last.ensures mid end (c.put_left.ensures.rise (rw c.in_ok-pairs.ensures kept.rise)) (c.put_left.ensures.lean (rw c.in_ok-pairs.ensures kept.lean))
