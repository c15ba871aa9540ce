use Rattle.std.proofs.Common.{◌≡◌, true, List, ℕ, sym, ap, ◌∙◌, arith, length}
use Rattle.kr_base.specs.declared.attributes.AttrValue.{AttrValue}
use Rattle.attribute_match.specs.Match.{is_equal, is_same_pair, text_of}
use Rattle.attribute_match.proofs.MatchLemmas.{alike-more, unlike-at, alike-all, equal-by, unequal-by}
use Rattle.attribute_match.proofs.matching.is_equal.Goals as goal

-- the lists differ at this position
pub returns-then-not-is_same_pair-clause-value : goal.returns-then-not-is_same_pair-clause-value
returns-then-not-is_same_pair-clause-value c =
    let off = unlike-at is_same_pair (λ (p : List ℕ × AttrValue). (p.0, text_of p.1)) c.as_slice-pairs.result.now c.as_slice-others.result.now c.loop-place.place c.index-pairs-place.result c.index-others-place.result c.loop-place-test.true (omega (arith, c.loop-place-test.true, c.if-len.false, c.len.ensures.value, c.len-2.ensures.value, ap length c.as_slice-pairs.ensures.value, ap length c.as_slice-others.ensures.value)) c.index-pairs-place.is c.index-others-place.is (sym c.if-not-is_same_pair.true ∙ c.is_same_pair.ensures) in
    rw (c.as_slice-pairs.ensures.value, c.as_slice-others.ensures.value) at off

pub returns-then-not-is_same_pair-clause-same : goal.returns-then-not-is_same_pair-clause-same
returns-then-not-is_same_pair-clause-same c = unequal-by c.args.one.now c.args.other.now (returns-then-not-is_same_pair-clause-value c)

pub loop-place-preserved : goal.loop-place-preserved
loop-place-preserved c =
    alike-more is_same_pair (λ (p : List ℕ × AttrValue). (p.0, text_of p.1)) c.as_slice-pairs.result.now c.as_slice-others.result.now c.loop-place.place c.index-pairs-place.result c.index-others-place.result c.loop-place-test.true (omega (arith, c.loop-place-test.true, c.if-len.false, c.len.ensures.value, c.len-2.ensures.value, ap length c.as_slice-pairs.ensures.value, ap length c.as_slice-others.ensures.value)) c.index-pairs-place.is c.index-others-place.is c.loop-place.invariant (sym c.if-not-is_same_pair.false ∙ c.is_same_pair.ensures)

pub returns : goal.returns
returns c =
    let all = alike-all is_same_pair (λ (p : List ℕ × AttrValue). (p.0, text_of p.1)) c.as_slice-pairs.result.now c.as_slice-others.result.now c.loop-place.place c.loop-place-test.false (omega (arith, c.loop-place-test.false, c.if-len.false, c.len.ensures.value, c.len-2.ensures.value, ap length c.as_slice-pairs.ensures.value, ap length c.as_slice-others.ensures.value)) c.loop-place.invariant in
    let same : true ≡ is_equal c.args.one.now c.args.other.now = rw (c.as_slice-pairs.ensures.value, c.as_slice-others.ensures.value) at all in
    record { value = same; same = equal-by c.args.one.now c.args.other.now same }
