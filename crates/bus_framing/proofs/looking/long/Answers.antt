-- The bytes up to the body.
use Rattle.std.proofs.Common.{◌≢◌, ℕ, ◌≤◌, List, length, subst, sym}
use Rattle.dbus_framing.specs.Messages.{body_start, word_at}
use Rattle.dbus_framing.proofs.Heads.{heads}
use Rattle.bus_framing.specs.Looks.{most_bytes}
use Rattle.bus_framing.proofs.LookLemmas.{front_body, front_numbered}
use Rattle.bus_framing.proofs.looking.long.Goals as goal

pub bare-requires-clause-whole : goal.bare-requires-clause-whole
bare-requires-clause-whole c =
    subst (λ (front : List ℕ). body_start c.args.head.endian front ≤ length front) (sym c.split_at.ensures.front)
    (front_body c.args.head.endian c.args.bytes.now c.body_start-body.result c.requires.begun c.body_start-body.ensures.value c.if-bytes-body.false)

pub bare-requires-clause-numbered : goal.bare-requires-clause-numbered
bare-requires-clause-numbered c =
    subst (λ (front : List ℕ). word_at c.args.head.endian 8 front ≢ 0) (sym c.split_at.ensures.front)
    (front_numbered c.args.head.endian c.args.bytes.now c.body_start-body.result c.body_start-body.ensures.value c.if-bytes-body.false
    (heads most_bytes c.args.bytes.now c.args.head c.requires.known).passes.numbered)
