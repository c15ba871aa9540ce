-- The counter stands for the values alone.
use Rattle.std.proofs.Common.{ℕ, List, [], subst}
use Rattle.dbus_types.specs.declared.endian.Endian.TheVariants.{Little}
use Rattle.dbus_marshal.specs.Spelling.{all_spelled}
use Rattle.dbus_marshal.specs.Putting.{Counts}
use Rattle.dbus_marshal.proofs.PutLemmas.{puts_all}
use Rattle.dbus_marshal.proofs.putting.size_of_values.Goals as goal

pub returns : goal.returns
returns g c =
    let vs = g.E.PutValues.values c.args.values.now in
    c.size.ensures (all_spelled Little vs 0)
    (subst (λ (bytes : List ℕ). Counts c.put_to.new.out.size c.put_to.new.out.low bytes) (puts_all [] vs) (c.in-Ok.ensures [] c.new-counter.ensures))
