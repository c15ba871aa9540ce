use Rattle.std.proofs.lemmas.Result.{err_from_is_err_and}
use Rattle.keyring_text.specs.FieldReading.{all_at}
use Rattle.keyring_text.proofs.Loops.{all-goes_on, all-ends, all-is_done, all-begins}
use Rattle.keyring_file.specs.FileReading.{access_at, so_many_accesses_at}
use Rattle.keyring_file.proofs.area_reading.so_many_accesses_at.Goals as goal

pub loop-init : goal.loop-init
loop-init c = rw c.new-entries.ensures.items (all-begins access_at c.args.count c.args.bytes.now)

pub loop-preserved : goal.loop-preserved
loop-preserved c =
    let goes = all-goes_on access_at c.loop.entries.items c.args.count c.loop.counter c.loop.rest.now c.in_ok-access.access c.in_ok-access.after.now (all_at access_at c.args.count c.args.bytes.now) c.loop-test.true c.in_ok-access.ensures c.loop.invariant in
    rw c.in_ok-push.ensures.items goes

pub returns-in_err-access : goal.returns-in_err-access
unfolding so_many_accesses_at
returns-in_err-access c =
    let p = err_from_is_err_and c.from_residual.result c.from_residual.ensures.1 in
    let fails = all-ends access_at c.in_err-access.field-0.0 c.loop.entries.items c.args.count c.loop.counter c.loop.rest.now (all_at access_at c.args.count c.args.bytes.now) c.loop-test.true c.in_err-access.ensures c.loop.invariant in
    rw (p.1, p.2) fails

pub returns : goal.returns
unfolding so_many_accesses_at
returns c =
    let done = all-is_done access_at c.loop.entries.items c.args.count c.loop.counter c.loop.rest.now (all_at access_at c.args.count c.args.bytes.now) c.loop-test.false c.loop.invariant in
    done
