use Rattle.std.proofs.Common.{refl}
use Rattle.std.proofs.lemmas.Result.{err_from_is_err_and}
use Rattle.keyring_text.specs.FieldReading.{all_at}
use Rattle.keyring_text.proofs.Loops.{all-goes_on, all-ends, all-is_done, all-begins}
use Rattle.keyring_text.proofs.SeenLemmas.{fails-bind}
use Rattle.keyring_file.specs.FileReading.{item_at, items_read}
use Rattle.keyring_file.proofs.area_reading.items_of.Goals as goal

pub loop-init : goal.loop-init
loop-init c = rw c.in_ok-items.ensures.items (all-begins item_at c.args.count c.args.bytes.now)

pub loop-preserved : goal.loop-preserved
loop-preserved c =
    let goes = all-goes_on item_at c.loop.items.items c.args.count c.loop.counter c.loop.rest.now c.in_ok-item.item c.in_ok-item.after.now (all_at item_at c.args.count c.args.bytes.now) c.loop-test.true c.in_ok-item.ensures c.loop.invariant in
    rw c.in_ok-push.ensures.items goes

pub returns-in_err-item : goal.returns-in_err-item
unfolding items_read
returns-in_err-item c =
    let p = err_from_is_err_and c.from_residual-in_err-item.result c.from_residual-in_err-item.ensures.1 in
    let fails = all-ends item_at c.in_err-item.field-0.0 c.loop.items.items c.args.count c.loop.counter c.loop.rest.now (all_at item_at c.args.count c.args.bytes.now) c.loop-test.true c.in_err-item.ensures c.loop.invariant in
    rw (p.1, p.2) (fails-bind _ _ _ fails)

pub returns : goal.returns
unfolding items_read
returns c =
    let done = all-is_done item_at c.loop.items.items c.args.count c.loop.counter c.loop.rest.now (all_at item_at c.args.count c.args.bytes.now) c.loop-test.false c.loop.invariant in
    rw done refl
