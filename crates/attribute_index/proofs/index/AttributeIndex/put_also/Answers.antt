use Rattle.attribute_index.specs.Index.{is_own}
use Rattle.attribute_index.proofs.PairLemmas.{rise-put}
use Rattle.attribute_index.proofs.index.AttributeIndex.put_also.Goals as goal

pub invariant_of-self-2 : goal.invariant_of-self-2
invariant_of-self-2 c =
    let put = rise-put (is_own c.as_slice.result.now c.args.before.now) c.args.id.0 c.self.inside.names c.put_all.new.names c.fits.ensures c.self.invariant.0 c.in_default.ensures.put in
    (put, c.put_all.ensures.lean c.self.invariant.1, c.self.invariant.2)
