use Rattle.std.proofs.Common.{refl, sym, ◌∙◌, arith, ap, drop, ◌+◌}
use Rattle.dbus_auth.specs.Exchange.{Exchange}
use Rattle.dbus_auth.specs.Handshake.{answered, run}
use Rattle.connection_worker.proofs.LineLemmas.{unfinished, endless, too_long, by_step}
use Rattle.connection_worker.proofs.lines.first_line.Goals as goal

pub returns-then-bytes-lt-LINE_LIMIT : goal.returns-then-bytes-lt-LINE_LIMIT
returns-then-bytes-lt-LINE_LIMIT c = (refl, unfinished c.args.auth.now c.args.bytes.now c.in_default.ensures c.if-bytes-lt-LINE_LIMIT.true)

pub returns-in_default : goal.returns-in_default
returns-in_default c = endless c.args.auth.now c.args.bytes.now c.in_default.ensures (omega (arith, c.if-bytes-lt-LINE_LIMIT.false))

pub returns-then-end-gt-LINE_LIMIT : goal.returns-then-end-gt-LINE_LIMIT
returns-then-end-gt-LINE_LIMIT c = too_long c.args.auth.now c.args.bytes.now c.in-Some.end c.in-Some.ensures c.if-end-gt-LINE_LIMIT.true

pub returns-in-Say : goal.returns-in-Say
returns-in-Say c = (
  omega arith,
  c.in-Some.ensures.1,
  by_step c.args.auth.now c.args.bytes.now c.in-Some.end _ c.in-Some.ensures c.if-end-gt-LINE_LIMIT.false c.in-Say.ensures.answer
      ∙ ap (λ (t : Exchange). answered c.in-Say.answer (run t (drop (c.in-Some.end + 2) c.args.bytes.now))) (sym c.line.ensures.next),
)

pub returns-in-Begin : goal.returns-in-Begin
returns-in-Begin c = (
  c.in-Some.ensures.1,
  by_step c.args.auth.now c.args.bytes.now c.in-Some.end _ c.in-Some.ensures c.if-end-gt-LINE_LIMIT.false c.in-Begin.ensures.answer,
)

pub returns-in-Refused : goal.returns-in-Refused
returns-in-Refused c = by_step c.args.auth.now c.args.bytes.now c.in-Some.end _ c.in-Some.ensures c.if-end-gt-LINE_LIMIT.false c.in-Refused.ensures.answer
