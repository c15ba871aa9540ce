use Rattle.std.proofs.Common.{length, refl}
use Rattle.dbus_marshal.specs.Wire.{behind}
use Rattle.dbus_marshal.proofs.WritingLemmas.{text_wrote}
use Rattle.dbus_marshal.proofs.writing.write_text.Goals as goal

pub returns : goal.returns
returns c = (
  text_wrote c.args.endian c.args.out.now.items c.write_u32.new.out.items c.extend_from_slice.new.self.items c.push.new.self.items c.args.text.now (behind c.args.phase (length c.args.out.now.items))
      c.in_ok-write_u32.ensures.0 c.in_ok-extend_from_slice.ensures.items c.in_ok-push.ensures.items,
  refl,
)
