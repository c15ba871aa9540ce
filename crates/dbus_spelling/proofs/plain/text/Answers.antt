use Rattle.dbus_spelling.proofs.PartLemmas.{text_made}
use Rattle.dbus_spelling.proofs.plain.text.Goals as goal

pub returns : goal.returns
returns c =
    text_made c.args.endian c.args.bytes.now _ _ _ _ _ _ _ c.args.place c.in_ok-count.ensures c.in_ok-ended.ensures c.as_slice.ensures.value c.as_slice-2.ensures.value c.in_ok-whole.ensures c.as_slice-3.ensures.value c.in_ok-made.ensures
