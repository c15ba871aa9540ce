use Rattle.std.proofs.Common.{sym, ◌∙◌, arith, length-take}
use Rattle.dbus_auth.proofs.HexTexts.{is_hex_of-not_ok}
use Rattle.dbus_auth.proofs.command.is_hex_of.Goals as goal

-- nothing was decoded into a room as long as the wanted bytes
pub returns-else-is_ok : goal.returns-else-is_ok
returns-else-is_ok c =
    c.if-is_ok.false
    ∙ sym (is_hex_of-not_ok c.args.text.now c.args.bytes.now _ c.decode_to_slice.new.out c.decode_to_slice.result (simp length-take (omega arith)) c.decode_to_slice.ensures.value (sym c.if-is_ok.ensures.value))
