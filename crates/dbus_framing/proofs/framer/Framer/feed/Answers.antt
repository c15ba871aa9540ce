-- What is known of the rest stays, whatever follows.
use Rattle.dbus_framing.proofs.Fronts.{kept_more}
use Rattle.dbus_framing.proofs.framer.Framer.feed.Goals as goal

pub invariant_of-self-2 : goal.invariant_of-self-2
invariant_of-self-2 c = kept_more c.self.inside.most c.self.inside.start c.self.inside.fed.items c.extend_from_slice.new.self.items c.args.piece.now c.self.inside.progress c.self.invariant
    c.in_ok-extend_from_slice.ensures.items
