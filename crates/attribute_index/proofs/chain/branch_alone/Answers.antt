use Rattle.std.proofs.Common.{[], ◌∷◌}
use Rattle.attribute_index.proofs.MakingLemmas.{put-first}
use Rattle.attribute_index.proofs.chain.branch_alone.Goals as goal

pub returns : goal.returns
returns c =
    let made = c.in_ok-own.ensures in
    put-first c.args.name.now c.args.text.now c.args.id.0 _ c.fits.ensures (λ i. ((made.name i, made.text i), made.ids i) ∷ [])
