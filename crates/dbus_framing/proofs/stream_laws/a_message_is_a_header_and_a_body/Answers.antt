use Rattle.dbus_framing.proofs.Layouts.{header_and_body}
use Rattle.dbus_framing.proofs.stream_laws.a_message_is_a_header_and_a_body.Goals as goal

pub returns : goal.returns
returns c = header_and_body
