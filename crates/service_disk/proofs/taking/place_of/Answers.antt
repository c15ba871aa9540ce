use Rattle.std.proofs.Common.{ap, sym, ◌∙◌}
use Rattle.service_disk.proofs.TakingLemmas.{past-all, past-found, past-more, past-none, tested-off, tested-on}
use Rattle.service_disk.proofs.taking.place_of.Goals as goal

pub loop-place-init : goal.loop-place-init
loop-place-init g c = past-none c.args.stem.now c.args.spare.now

pub loop-place-preserved : goal.loop-place-preserved
loop-place-preserved g c =
    past-more c.args.stem.now c.args.spare.now c.loop-place.place c.index-spare-place.result c.loop-place-test.true c.index-spare-place.is
    (λ same. tested-off _ c.args.stem.now c.eq.result c.eq.ensures c.if-eq.false (ap (λ e. e.0) (sym c.index-spare-place.is) ∙ same))
    c.loop-place.invariant

pub returns-then-eq-clause-found : goal.returns-then-eq-clause-found
returns-then-eq-clause-found g c =
    past-found c.args.stem.now c.args.spare.now c.loop-place.place c.index-spare-place.result c.loop-place-test.true c.index-spare-place.is
    (ap (λ e. e.0) c.index-spare-place.is ∙ tested-on _ c.args.stem.now c.eq.result c.eq.ensures c.if-eq.true)
    c.loop-place.invariant

pub returns-clause-none : goal.returns-clause-none
returns-clause-none g c = past-all c.args.stem.now c.args.spare.now c.loop-place.place c.loop-place-test.false c.loop-place.invariant
