use Rattle.std.proofs.Common.{◌≡◌, ◌≤◌, ◌<◌, length, arith, ◌∙◌}
use Rattle.client_tool.specs.Streams.{input_of}
use Rattle.client_tool.proofs.SecretLemmas.{secret-begins, secret-goes-on, secret-long, secret-ends, secret-stops}
use Rattle.client_tool.proofs.secret.read_all.Goals as goal

pub loop-init : goal.loop-init
loop-init g c =
    let it = g.I.Source in
    secret-begins (input_of it.left it.faults it.is_steady it.is_closed c.args.input.now) c.new-secret.result.items c.new-secret.ensures.items

-- the source failed, or there was no memory
pub returns-in-Err : goal.returns-in-Err
returns-in-Err g c =
    let it = g.I.Source in
    let from = input_of it.left it.faults it.is_steady it.is_closed c.args.input.now in
    let now = input_of it.left it.faults it.is_steady it.is_closed c.loop.input in
    let next = input_of it.left it.faults it.is_steady it.is_closed c.read_some.new.input in
    secret-stops from now next c.loop.secret.items c.read_some.new.secret.items c.in-Err.stop c.loop.invariant.0 c.loop.invariant.2 c.in-Err.ensures

-- the input has ended
pub returns-then-not-more : goal.returns-then-not-more
returns-then-not-more g c =
    let it = g.I.Source in
    let from = input_of it.left it.faults it.is_steady it.is_closed c.args.input.now in
    let now = input_of it.left it.faults it.is_steady it.is_closed c.loop.input in
    let next = input_of it.left it.faults it.is_steady it.is_closed c.read_some.new.input in
    rw c.new.ensures (secret-ends from now next c.loop.secret.items c.read_some.new.secret.items c.loop.invariant.0 c.loop.invariant.1 c.loop.invariant.2 (rw c.if-not-more.true at c.in-Ok.ensures))

-- the secret is too long
pub returns-then-len-gt-MOST_SECRET : goal.returns-then-len-gt-MOST_SECRET
returns-then-len-gt-MOST_SECRET g c =
    let it = g.I.Source in
    let from = input_of it.left it.faults it.is_steady it.is_closed c.args.input.now in
    let now = input_of it.left it.faults it.is_steady it.is_closed c.loop.input in
    let next = input_of it.left it.faults it.is_steady it.is_closed c.read_some.new.input in
    let fits : c.len.result ≡ length c.read_some.new.secret.items = c.len.ensures ∙ c.read_some.new.secret.ok.0 in
    let long : 524288 < length c.read_some.new.secret.items = omega (arith, c.if-len-gt-MOST_SECRET.true, fits) in
    secret-long from now next c.loop.secret.items c.read_some.new.secret.items c.loop.invariant.0 c.loop.invariant.2 (rw c.if-not-more.false at c.in-Ok.ensures) long

-- it isn't
pub loop-preserved : goal.loop-preserved
loop-preserved g c =
    let it = g.I.Source in
    let from = input_of it.left it.faults it.is_steady it.is_closed c.args.input.now in
    let now = input_of it.left it.faults it.is_steady it.is_closed c.loop.input in
    let next = input_of it.left it.faults it.is_steady it.is_closed c.read_some.new.input in
    let fits : c.len.result ≡ length c.read_some.new.secret.items = c.len.ensures ∙ c.read_some.new.secret.ok.0 in
    let few : length c.read_some.new.secret.items ≤ 524288 = omega (arith, c.if-len-gt-MOST_SECRET.false, fits) in
    secret-goes-on from now next c.loop.secret.items c.read_some.new.secret.items c.loop.invariant.0 c.loop.invariant.2 (rw c.if-not-more.false at c.in-Ok.ensures) few
