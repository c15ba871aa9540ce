use Rattle.std.proofs.Common.{◌≡◌, refl, sym, ap, ◌∙◌, length}
use Rattle.attribute_hash.specs.Hash.{hashes, pair_hash}
use Rattle.attribute_hash.proofs.HashLemmas.{mapped_all, mapped_at, mapped_length, mapped_more}
use Rattle.attribute_hash.proofs.hash.are_hashes_of.Goals as goal

pub returns-then-found-pairs : goal.returns-then-found-pairs
returns-then-found-pairs c = (
  λ never. absurd cc,
  λ same. absurd (c.if-found-pairs.true (mapped_length pair_hash c.args.found.now c.args.attributes.now same ∙ sym (ap length c.as_slice-pairs.ensures.value))),
)

-- the pair at this position isn't the attribute's
pub returns-then-not-is_pair_hash : goal.returns-then-not-is_pair_hash
returns-then-not-is_pair_hash c = (
  λ never. absurd cc,
  λ same.
      let all : c.args.found.now ≡ hashes c.as_slice-pairs.result.now = same ∙ sym (ap hashes c.as_slice-pairs.ensures.value) in
      let here = mapped_at pair_hash c.args.found.now c.as_slice-pairs.result.now c.loop-place.place c.index-found-place.result c.index-pairs-place.result c.loop-place-test.true c.if-found-pairs.false c.index-found-place.is c.index-pairs-place.is all in
      sym c.if-not-is_pair_hash.true ∙ c.is_pair_hash.ensures.1 here,
)

pub loop-place-preserved : goal.loop-place-preserved
loop-place-preserved c =
    mapped_more pair_hash c.args.found.now c.as_slice-pairs.result.now c.loop-place.place c.index-found-place.result c.index-pairs-place.result c.loop-place-test.true c.if-found-pairs.false c.index-found-place.is c.index-pairs-place.is (c.is_pair_hash.ensures.0 c.if-not-is_pair_hash.false) c.loop-place.invariant

pub returns : goal.returns
returns c =
    let all = mapped_all pair_hash c.args.found.now c.as_slice-pairs.result.now c.loop-place.place c.loop-place-test.false c.if-found-pairs.false c.loop-place.invariant in
    (λ yes. all ∙ ap hashes c.as_slice-pairs.ensures.value, λ same. refl)
