use Rattle.std.proofs.Common.{arith}
use Rattle.dbus_auth_client.proofs.HearingLemmas.{ends-here, ends-nowhere}
use Rattle.dbus_auth_client.proofs.hearing.line_end.Goals as goal

-- CR LF is just before and at this position
pub returns-then-bytes-place-eq10 : goal.returns-then-bytes-place-eq10
returns-then-bytes-place-eq10 c =
    ends-here c.args.bytes.now c.loop-place.place (omega arith) c.loop-place-test.true c.if-bytes-place-eq13.true c.if-bytes-place-eq10.true c.loop-place.invariant

-- there is no CR LF
pub returns : goal.returns
returns c = ends-nowhere c.args.bytes.now c.loop-place.place (omega (arith, c.loop-place-test.false)) c.loop-place.invariant
