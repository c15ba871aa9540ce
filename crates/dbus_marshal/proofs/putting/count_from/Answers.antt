-- The counter stands for zeros up to the position, and for the values after them.
use Rattle.std.proofs.Common.{ℕ, List, replicate, subst}
use Rattle.dbus_types.specs.declared.endian.Endian.TheVariants.{Little}
use Rattle.dbus_marshal.specs.Spelling.{all_spelled}
use Rattle.dbus_marshal.specs.Putting.{Counts}
use Rattle.dbus_marshal.proofs.PutLemmas.{puts_from}
use Rattle.dbus_marshal.proofs.putting.count_from.Goals as goal

pub returns : goal.returns
returns g c = λ place is.
    let vs = g.E.PutValues.values c.args.elements.now in
    c.low_after.ensures (all_spelled Little vs place)
    (subst (λ (bytes : List ℕ). Counts c.put_to.new.out.size c.put_to.new.out.low bytes) (puts_from c.args.first place vs c.requires is)
    (c.in-Ok.ensures (replicate c.args.first 0) c.at-counter.ensures))
