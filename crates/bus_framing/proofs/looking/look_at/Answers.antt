-- A complete message is as long as its first bytes say.
use Rattle.std.proofs.Common.{sym}
use Rattle.dbus_framing.proofs.Fronts.{alone, front_whole}
use Rattle.bus_framing.specs.Looks.{most_bytes}
use Rattle.bus_framing.proofs.looking.look_at.Goals as goal

pub whole-requires-clause-whole : goal.whole-requires-clause-whole
whole-requires-clause-whole c =
    front_whole most_bytes c.args.bytes.now c.split_at.result.0.now c.in-Ok.head (record { is = c.split_at.ensures.front; fits = c.if-bytes-head.false; known = sym c.in-Ok.ensures })

pub whole-requires-clause-numbered : goal.whole-requires-clause-numbered
whole-requires-clause-numbered c =
    (alone most_bytes c.args.bytes.now c.split_at.result.0.now c.in-Ok.head (record { is = c.split_at.ensures.front; fits = c.if-bytes-head.false; known = sym c.in-Ok.ensures })).heads.passes.numbered
