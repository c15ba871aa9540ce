use Rattle.item_store.proofs.MovingLemmas.{begun}
use Rattle.item_store.proofs.moving.begin.Goals as goal

pub invariant_of-result : goal.invariant_of-result
invariant_of-result c = begun c.args.rows c.swap_attributes.new.rows c.args.index c.put_id.new.index c.args.number c.args.attributes c.args.now c.swap_attributes.new.attributes c.swap_attributes.new.modified
    c.requires.kept c.requires.there c.in_default.ensures.put c.put_id.ensures.all c.swap_attributes.ensures.set c.swap_attributes.ensures.back c.swap_attributes.ensures.given
