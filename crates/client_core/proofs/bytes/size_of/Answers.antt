-- What was counted is the message with this header.
use Rattle.std.proofs.Common.{min, length, ap, ◌∙◌}
use Rattle.dbus_sending.specs.HeaderViews.{seen}
use Rattle.dbus_sending.specs.Sent.{SentHeader, spelled_message}
use Rattle.client_core.specs.Arguments.{arguments_with}
use Rattle.client_core.proofs.bytes.size_of.Goals as goal

pub returns : goal.returns
returns c =
    c.size.ensures (spelled_message (record { header = seen c.header_of-header.result; body = arguments_with c.args.call.now c.args.paths.now })) (c.in-Ok.ensures c.new-counter.ensures)
    ∙ ap (λ (h : SentHeader). min 18446744073709551615 (length (spelled_message (record { header = h; body = arguments_with c.args.call.now c.args.paths.now })))) c.header_of-header.ensures
