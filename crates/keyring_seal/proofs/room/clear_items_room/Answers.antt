use Rattle.std.proofs.Common.{◌≡◌, ◌<◌, ◌≤◌, length, get_or, None, sym, ◌∙◌, rules, arith}
use Rattle.std.specs.List.{zip}
use Rattle.keyring_seal.specs.Arranged.{Row}
use Rattle.keyring_seal.specs.Room.{row_text}
use Rattle.keyring_seal.proofs.RoomLemmas.{taken_over, taken_more, taken_all, length-zip, get_or-zip}
use Rattle.keyring_seal.proofs.room.clear_items_room.Goals as goal

pub returns-in_err-left : goal.returns-in_err-left
returns-in_err-left c =
    let rows = zip c.args.clear.now c.args.items.now in
    let row : Row = (c.index-clear-i.result, c.index-items-i.result) in
    let none : c.from_residual.result ≡ None = search rules in
    let many = length-zip c.args.clear.now c.args.items.now c.requires in
    let lt : c.loop-i.i < length rows = omega (arith, many, c.loop-i-test.true) in
    let here : row ≡ get_or rows c.loop-i.i row = (λ j. (c.index-clear-i.is j, c.index-items-i.is j)) ∙ sym (get_or-zip c.args.clear.now c.args.items.now c.loop-i.i row.0 row.1 c.requires) in
    let over : c.loop-i.left < length (row_text c.args.minor row) = c.in_err-left.ensures in
    let whole = taken_over (row_text c.args.minor) rows 0 c.args.room c.loop-i.left c.loop-i.i row lt here c.loop-i.invariant over in
    rw none (omega (arith, whole))

pub loop-i-preserved : goal.loop-i-preserved
loop-i-preserved c =
    let rows = zip c.args.clear.now c.args.items.now in
    let row : Row = (c.index-clear-i.result, c.index-items-i.result) in
    let many = length-zip c.args.clear.now c.args.items.now c.requires in
    let lt : c.loop-i.i < length rows = omega (arith, many, c.loop-i-test.true) in
    let here : row ≡ get_or rows c.loop-i.i row = (λ j. (c.index-clear-i.is j, c.index-items-i.is j)) ∙ sym (get_or-zip c.args.clear.now c.args.items.now c.loop-i.i row.0 row.1 c.requires) in
    taken_more (row_text c.args.minor) rows 0 c.args.room c.loop-i.left c.loop-i.i row c.in_ok-left.left lt here c.loop-i.invariant c.in_ok-left.ensures

pub returns : goal.returns
returns c =
    let rows = zip c.args.clear.now c.args.items.now in
    let many = length-zip c.args.clear.now c.args.items.now c.requires in
    let le : length rows ≤ c.loop-i.i = omega (arith, many, c.loop-i-test.false) in
    let whole = taken_all (row_text c.args.minor) rows 0 c.args.room c.loop-i.left c.loop-i.i le c.loop-i.invariant in
    omega (arith, whole)
