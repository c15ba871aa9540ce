use Rattle.collection_store.proofs.SameLemmas.{same_at, same_more, same_whole}
use Rattle.collection_store.proofs.same.have_same_hashes.Goals as goal

pub has_same_hashes-requires : goal.has_same_hashes-requires
has_same_hashes-requires c = same_at c.args.one.now c.args.other.now c.requires c.loop-place.place c.index-one-place.result c.index-other-place.result c.loop-place-test.true c.index-one-place.is c.index-other-place.is

pub loop-place-preserved : goal.loop-place-preserved
loop-place-preserved c = same_more c.args.one.now c.args.other.now c.requires c.loop-place.place c.index-one-place.result c.index-other-place.result c.loop-place-test.true c.index-one-place.is c.index-other-place.is (c.has_same_hashes.ensures c.if-not-has_same_hashes.false) c.loop-place.invariant

pub returns : goal.returns
returns c is = same_whole c.args.one.now c.args.other.now c.requires c.loop-place.place c.loop-place-test.false c.loop-place.invariant
