use Rattle.std.proofs.Common.{◌≡◌, ◌<◌, length, None, rules, arith}
use Rattle.keyring_file.specs.Canonical.{access_text}
use Rattle.keyring_seal.proofs.RoomLemmas.{taken_over, taken_all, length_list_text}
use Rattle.keyring_seal.proofs.room.access_room.Goals as goal

pub returns-in_err-left-2 : goal.returns-in_err-left-2
returns-in_err-left-2 c =
    let xs = c.args.entries.now in
    let none : c.from_residual-in_err-left-2.result ≡ None = search rules in
    let over : c.loop-entry.left < length (access_text c.entry-item.result) = c.in_err-left-2.ensures in
    let whole = taken_over access_text xs 4 c.args.room c.loop-entry.left c.loop-entry.entry-index c.entry-item.result c.loop-entry-test.true c.entry-item.is c.loop-entry.invariant over in
    let long = length_list_text access_text xs in
    rw (none) (omega (arith, whole, long))

pub returns : goal.returns
returns c =
    let xs = c.args.entries.now in
    let whole = taken_all access_text xs 4 c.args.room c.loop-entry.left c.loop-entry.entry-index c.loop-entry-test.false c.loop-entry.invariant in
    let long = length_list_text access_text xs in
    (omega (arith, whole, long))
