use Rattle.std.proofs.Common.{subst, sym, ◌∙◌}
use Rattle.kr_base.specs.IdLists.{IsIdList}
use Rattle.kr_base.proofs.IdLemmas.{small-with}
use Rattle.attribute_index.proofs.MakingLemmas.{id-next}
use Rattle.attribute_index.proofs.index.all_ids.Goals as goal

pub loop-place-preserved : goal.loop-place-preserved
loop-place-preserved c =
    let (rise, each) = c.loop-place.invariant in
    let put = c.in_ok-insert.ensures.put in
    (subst IsIdList (sym put) (small-with _ c.loop-place.ids c.fits.ensures rise), λ x. id-next c.args.items.now c.loop-place.place _ c.loop-place-test.true c.loop-place.ids c.insert.new.self put x ∙ each x)
