use Rattle.std.proofs.Common.{map, sym, ◌∙◌, arith}
use Rattle.std.proofs.lemmas.List.{length-map}
use Rattle.attribute_index.proofs.FindLemmas.{one-lacks, one-more, few-more}
use Rattle.attribute_index.proofs.finding.all_have.Goals as goal

pub returns-then-not-has_at-clause-value : goal.returns-then-not-has_at-clause-value
returns-then-not-has_at-clause-value g c = one-lacks (map (λ l. l.now) c.args.lists.now) c.loop-place.place c.args.id.0 (omega (arith, c.loop-place-test.true, length-map c.args.lists.now (λ l. l.now))) (sym c.if-not-has_at.true ∙ c.has_at.ensures.value)

pub loop-place-preserved : goal.loop-place-preserved
loop-place-preserved g c =
    let more = one-more (map (λ l. l.now) c.args.lists.now) c.loop-place.place c.args.id.0 (omega (arith, c.loop-place-test.true, length-map c.args.lists.now (λ l. l.now))) c.loop-place.invariant.0 (sym c.if-not-has_at.false ∙ c.has_at.ensures.value) in
    let steps = few-more c.args.steps.now c.loop-place.steps c.has_at.new.steps c.loop-place.place c.args.known c.loop-place.invariant.1 c.loop-place.invariant.2 c.has_at.ensures.few c.has_at.ensures.free in
    (more, steps.0, steps.1, omega (arith, c.loop-place.invariant.3, c.has_at.ensures.counted))
