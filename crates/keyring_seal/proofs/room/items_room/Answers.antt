use Rattle.std.proofs.Common.{◌≡◌, ◌<◌, length, None, rules, arith}
use Rattle.keyring_file.specs.Canonical.{item_text}
use Rattle.keyring_seal.proofs.RoomLemmas.{taken_over, taken_more}
use Rattle.keyring_seal.proofs.room.items_room.Goals as goal

pub returns-in_err-left : goal.returns-in_err-left
returns-in_err-left c =
    let none : c.from_residual.result ≡ None = search rules in
    let over : c.loop-item.left < length (item_text c.item-item.result) = c.in_err-left.ensures in
    let whole = taken_over item_text c.args.items.now 0 c.args.room c.loop-item.left c.loop-item.item-index c.item-item.result c.loop-item-test.true c.item-item.is c.loop-item.invariant over in
    rw none (omega (arith, whole))

pub loop-item-preserved : goal.loop-item-preserved
loop-item-preserved c =
    taken_more item_text c.args.items.now 0 c.args.room c.loop-item.left c.loop-item.item-index c.item-item.result c.in_ok-left.left c.loop-item-test.true c.item-item.is c.loop-item.invariant c.in_ok-left.ensures
