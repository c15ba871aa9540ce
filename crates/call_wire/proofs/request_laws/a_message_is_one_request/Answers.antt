use Rattle.std.proofs.Common.{sym, ◌∙◌}
use Rattle.secret_calls.proofs.SerialLemmas.{one_serial}
use Rattle.call_wire.proofs.request_laws.a_message_is_one_request.Goals as goal

pub returns-clause-call : goal.returns-clause-call
returns-clause-call c = λ parts one other p q. p.call ∙ sym q.call

pub returns-clause-beside : goal.returns-clause-beside
returns-clause-beside c = λ parts one other p q. (one_serial one.serial other.serial (p.serial ∙ sym q.serial), p.wants_reply ∙ sym q.wants_reply, p.length ∙ sym q.length)
