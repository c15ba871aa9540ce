use Rattle.dbus_spelling.proofs.PartLemmas.{array_made}
use Rattle.dbus_spelling.proofs.plain.array.Goals as goal

pub returns : goal.returns
returns c =
    array_made c.args.endian c.args.alignment c.args.place c.behind-first.result c.start_of.result c.args.elements.now _ _ _ _ _ _ _ c.start_of.ensures.value c.behind-first.ensures.value
    c.in_ok-inner.ensures c.in_ok-count.ensures c.as_slice.ensures.value c.as_slice-2.ensures.value c.in_ok-whole.ensures c.as_slice-3.ensures.value c.in_ok-made.ensures
