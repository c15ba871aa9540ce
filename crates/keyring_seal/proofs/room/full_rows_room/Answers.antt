use Rattle.std.proofs.Common.{◌≡◌, ◌<◌, length, None, rules, arith}
use Rattle.keyring_file.specs.Canonical.{item_text}
use Rattle.keyring_seal.proofs.ArrangeLemmas.{Lent}
use Rattle.keyring_seal.proofs.RoomLemmas.{taken_over, taken_more}
use Rattle.keyring_seal.proofs.room.full_rows_room.Goals as goal

pub returns-in_err-left : goal.returns-in_err-left
returns-in_err-left c =
    let none : c.from_residual.result ≡ None = search rules in
    let over : c.loop-row.left < length (item_text c.row-item.result.1.now) = c.in_err-left.ensures in
    let whole = taken_over (λ (row : Lent). item_text row.1.now) c.args.rows.now 0 c.args.room c.loop-row.left c.loop-row.row-index c.row-item.result c.loop-row-test.true c.row-item.is c.loop-row.invariant over in
    rw none (omega (arith, whole))

pub loop-row-preserved : goal.loop-row-preserved
loop-row-preserved c =
    taken_more (λ (row : Lent). item_text row.1.now) c.args.rows.now 0 c.args.room c.loop-row.left c.loop-row.row-index c.row-item.result c.in_ok-left.left c.loop-row-test.true c.row-item.is c.loop-row.invariant c.in_ok-left.ensures
