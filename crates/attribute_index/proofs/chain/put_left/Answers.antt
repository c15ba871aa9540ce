use Rattle.std.proofs.Common.{[], subst, ◌∙◌}
use Rattle.attribute_index.specs.Entries.{Noted}
use Rattle.attribute_index.specs.Index.{IsPut, is_this}
use Rattle.attribute_match.specs.Match.{text_of}
use Rattle.attribute_index.proofs.MakingLemmas.{put-next}
use Rattle.attribute_index.proofs.PairLemmas.{rise-put}
use Rattle.attribute_index.proofs.chain.put_left.Goals as goal

pub loop-entry-preserved : goal.loop-entry-preserved
loop-entry-preserved c =
    let (same, rise, lean) = c.loop-entry.invariant in
    let put = subst (λ (e : Noted). IsPut (is_this e.0.0 e.0.1) e.1 c.loop-entry.pairs c.put_value.new.names) c.entry.view_is c.in_ok-put_value.ensures.put in
    (λ n t x. put-next c.args.left.now c.loop-entry.entry-index c.entry-item.result c.loop-entry-test.true c.entry-item.is [] c.loop-entry.pairs c.put_value.new.names put n t x ∙ same n t x, λ is. rise-put (is_this c.entry.inside.pair.now.0 (text_of c.entry.inside.pair.now.1)) c.entry.inside.id.0 c.loop-entry.pairs c.put_value.new.names c.fits.ensures (rise is) c.in_ok-put_value.ensures.put, λ is. c.put_value.ensures.lean (lean is))
