-- What the first 16 bytes say, and what the whole of a message says.
use Rattle.std.proofs.Common.{sym}
use Rattle.dbus_framing.proofs.Fronts.{alone, front_whole, sees_message, sees_violation, sees_early, sees_begun}
use Rattle.dbus_framing.proofs.framer.look_at.Goals as goal

pub returns-in-Err : goal.returns-in-Err
returns-in-Err c = sees_early _ _ _ c.if-bytes-lt16.false (sym c.in-Err.ensures)

pub returns-then-bytes-head : goal.returns-then-bytes-head
returns-then-bytes-head c = sees_begun _ _ _ c.if-bytes-lt16.false (sym c.in-Ok.ensures) c.if-bytes-head.true

pub message_at-requires-clause-whole : goal.message_at-requires-clause-whole
message_at-requires-clause-whole c = front_whole c.args.most c.args.bytes.now c.split_at.result.0.now c.in-Ok.head (record { is = c.split_at.ensures.front; fits = c.if-bytes-head.false; known = sym c.in-Ok.ensures })

pub message_at-requires-clause-numbered : goal.message_at-requires-clause-numbered
message_at-requires-clause-numbered c =
    (alone c.args.most c.args.bytes.now c.split_at.result.0.now c.in-Ok.head (record { is = c.split_at.ensures.front; fits = c.if-bytes-head.false; known = sym c.in-Ok.ensures })).heads.passes.numbered

pub returns-in-Ok-message_at : goal.returns-in-Ok-message_at
returns-in-Ok-message_at c = sees_message c.args.most c.args.bytes.now c.split_at.result.0.now c.in-Ok.head c.in-Ok-message_at.message (λ i. (c.type_inv.bytes i).fits)
    (record { is = c.split_at.ensures.front; fits = c.if-bytes-head.false; known = sym c.in-Ok.ensures }) c.in-Ok-message_at.ensures

pub returns-in-Err-Violation : goal.returns-in-Err-Violation
returns-in-Err-Violation c = sees_violation c.args.most c.args.bytes.now c.split_at.result.0.now c.in-Ok.head c.in-Err-Violation.cause c.if-bytes-lt16.false
    (record { is = c.split_at.ensures.front; fits = c.if-bytes-head.false; known = sym c.in-Ok.ensures }) (rw c.in-Err-Violation.field-0-is at c.in-Err-Violation.ensures)
