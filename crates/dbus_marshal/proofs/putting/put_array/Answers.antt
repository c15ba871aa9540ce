-- The elements that were counted are put after the start.
use Rattle.std.proofs.Common.{◌≡◌, ◌%◌, length}
use Rattle.dbus_marshal.specs.Spelling.{first_at}
use Rattle.dbus_marshal.specs.Putting.{elements_long}
use Rattle.dbus_marshal.proofs.PutLemmas.{array_put_at}
use Rattle.dbus_marshal.proofs.putting.put_array.Goals as goal

pub returns : goal.returns
returns g c = λ before t is at.
    let vs = g.E.PutValues.values c.args.elements.now in
    let long = elements_long c.args.alignment before vs in
    let count : c.count_from-count.result ≡ long % 4294967296 =
    c.count_from-count.ensures (first_at c.args.alignment (length before % 8)) (c.first_place-first.ensures.place before at) in
    rw (← array_put_at c.args.alignment t vs before is) (c.put_to.ensures _ (c.in_ok-open_array.ensures before long count at))
