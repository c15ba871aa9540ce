-- Each field is read where the field before it ends.
use Rattle.std.proofs.Common.{refl}
use Rattle.std.proofs.lemmas.Result.{err_from_is_err_and}
use Rattle.keyring_text.specs.FieldReading.{number_at}
use Rattle.keyring_text.proofs.SeenLemmas.{fails-bind}
use Rattle.keyring_file.specs.FileReading.{numbers_after}
use Rattle.keyring_file.proofs.clear_reading.numbers_after.Goals as goal

pub returns-in_err-flags : goal.returns-in_err-flags
unfolding numbers_after
returns-in_err-flags c =
    let p = err_from_is_err_and c.from_residual.result c.from_residual.ensures.1 in
    rw (p.1, p.2) (fails-bind c.in_err-flags.field-0.0 (number_at c.args.bytes.now) _ c.in_err-flags.ensures)

pub returns-in_err-timeout : goal.returns-in_err-timeout
unfolding numbers_after
returns-in_err-timeout c =
    let p = err_from_is_err_and c.from_residual-in_err-timeout.result c.from_residual-in_err-timeout.ensures.1 in
    rw (p.1, p.2, c.in_ok-flags.ensures) (fails-bind c.in_err-timeout.field-0.0 (number_at c.in_ok-flags.rest.now) _ c.in_err-timeout.ensures)

pub returns-in_err-iterations : goal.returns-in_err-iterations
unfolding numbers_after
returns-in_err-iterations c =
    let p = err_from_is_err_and c.from_residual-in_err-iterations.result c.from_residual-in_err-iterations.ensures.1 in
    rw (p.1, p.2, c.in_ok-flags.ensures, c.in_ok-timeout.ensures) (fails-bind c.in_err-iterations.field-0.0 (number_at c.in_ok-timeout.rest.now) _ c.in_err-iterations.ensures)

pub returns : goal.returns
unfolding numbers_after
returns c = rw (c.in_ok-flags.ensures, c.in_ok-timeout.ensures, c.in_ok-iterations.ensures) refl
