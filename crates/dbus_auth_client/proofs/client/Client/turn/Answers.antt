-- What the first line leads to, by its end and by what it says.
use Rattle.std.proofs.Common.{refl, arith}
use Rattle.dbus_auth_client.specs.declared.hearing.Heard.TheVariants as heard
use Rattle.dbus_auth_client.proofs.HearingLemmas.{unfinished, endless, too_long, ended, asks}
use Rattle.dbus_auth_client.proofs.client.Client.turn.Goals as goal

pub returns-then-bytes-lt-LINE_LIMIT : goal.returns-then-bytes-lt-LINE_LIMIT
returns-then-bytes-lt-LINE_LIMIT c = (refl, unfinished c.args.self.now.asked c.args.bytes.now c.in_default.ensures c.if-bytes-lt-LINE_LIMIT.true)

pub returns-in_default : goal.returns-in_default
returns-in_default c = endless c.args.self.now.asked c.args.bytes.now c.in_default.ensures (omega (arith, c.if-bytes-lt-LINE_LIMIT.false))

pub returns-then-end-gt-LINE_LIMIT : goal.returns-then-end-gt-LINE_LIMIT
returns-then-end-gt-LINE_LIMIT c = too_long c.args.self.now.asked c.args.bytes.now c.in-Some.end c.in-Some.ensures c.if-end-gt-LINE_LIMIT.true

pub returns-in-Asks : goal.returns-in-Asks
returns-in-Asks c = (c.in-Some.ensures.1, asks c.args.self.now.asked c.args.bytes.now c.in-Some.end c.in-Some.ensures (omega (arith, c.if-end-gt-LINE_LIMIT.false)) c.in-Asks.ensures)

pub returns-in-Accepts : goal.returns-in-Accepts
returns-in-Accepts c = (
  c.in-Some.ensures.1,
  ended c.args.self.now.asked c.args.bytes.now c.in-Some.end (heard.Accepts c.in-Accepts.guid) c.in-Some.ensures (omega (arith, c.if-end-gt-LINE_LIMIT.false)) c.in-Accepts.ensures,
)

pub returns-in-Refuses : goal.returns-in-Refuses
returns-in-Refuses c =
    ended c.args.self.now.asked c.args.bytes.now c.in-Some.end (heard.Refuses c.in-Refuses.fault) c.in-Some.ensures (omega (arith, c.if-end-gt-LINE_LIMIT.false)) c.in-Refuses.ensures
