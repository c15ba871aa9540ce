use Rattle.std.proofs.Common.{◌≡◌, ◌<◌, length, None, rules, arith}
use Rattle.keyring_file.specs.Canonical.{attribute_text}
use Rattle.keyring_seal.proofs.RoomLemmas.{taken_over, taken_all, length_list_text}
use Rattle.keyring_seal.proofs.room.attributes_room.Goals as goal

pub returns-in_err-left-2 : goal.returns-in_err-left-2
returns-in_err-left-2 c =
    let xs = c.as_slice-pair-items.result.now in
    let none : c.from_residual-in_err-left-2.result ≡ None = search rules in
    let over : c.loop-pair.left < length (attribute_text c.pair-item.result) = c.in_err-left-2.ensures in
    let whole = taken_over attribute_text xs 4 c.args.room c.loop-pair.left c.loop-pair.pair-index c.pair-item.result c.loop-pair-test.true c.pair-item.is c.loop-pair.invariant over in
    let long = length_list_text attribute_text xs in
    rw (none, ← c.as_slice-pair-items.ensures.value) (omega (arith, whole, long))

pub returns : goal.returns
returns c =
    let xs = c.as_slice-pair-items.result.now in
    let whole = taken_all attribute_text xs 4 c.args.room c.loop-pair.left c.loop-pair.pair-index c.loop-pair-test.false c.loop-pair.invariant in
    let long = length_list_text attribute_text xs in
    rw (← c.as_slice-pair-items.ensures.value) (omega (arith, whole, long))
