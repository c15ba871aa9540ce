use Rattle.std.proofs.Common.{◌∙◌}
use Rattle.dbus_marshal.proofs.WritingLemmas.{array_opened}
use Rattle.dbus_marshal.proofs.writers.open_array.Goals as goal

pub returns-clause-opens : goal.returns-clause-opens
returns-clause-opens c =
    array_opened c.args.endian c.args.phase c.args.alignment c.args.out.now.items c.pad.new.out.items c.put_u32.new.out.items c.pad-2.new.out.items c.len-mark.result
    c.in_ok-pad.ensures c.in_ok-put_u32.ensures c.in_ok-pad-2.ensures (c.len-mark.ensures ∙ c.pad.new.out.ok.0)
