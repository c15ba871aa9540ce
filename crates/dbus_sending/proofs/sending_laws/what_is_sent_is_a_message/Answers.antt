use Rattle.dbus_sending.proofs.MessageLemmas.{sent_is_message}
use Rattle.dbus_sending.proofs.sending_laws.what_is_sent_is_a_message.Goals as goal

pub returns : goal.returns
returns c = λ most sent can within. sent_is_message most sent can within
