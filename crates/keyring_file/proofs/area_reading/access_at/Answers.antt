-- Each field is read where the field before it ends.
use Rattle.std.proofs.lemmas.Result.{err_from_is_err_and}
use Rattle.keyring_text.specs.FieldReading.{number_at, text_at}
use Rattle.keyring_text.proofs.SeenLemmas.{fails-bind}
use Rattle.keyring_file.specs.FileReading.{access_at}
use Rattle.keyring_file.proofs.area_reading.access_at.Goals as goal

pub returns-in_err-allowed : goal.returns-in_err-allowed
unfolding access_at
returns-in_err-allowed c =
    let p = err_from_is_err_and c.from_residual.result c.from_residual.ensures.1 in
    rw (p.1, p.2) (fails-bind c.in_err-allowed.field-0.0 (number_at c.args.bytes.now) _ c.in_err-allowed.ensures)

pub returns-in_err-display : goal.returns-in_err-display
unfolding access_at
returns-in_err-display c =
    let p = err_from_is_err_and c.from_residual-in_err-display.result c.from_residual-in_err-display.ensures.1 in
    rw (p.1, p.2, c.in_ok-allowed.ensures) (fails-bind c.in_err-display.field-0.0 (text_at c.in_ok-allowed.rest.now) _ c.in_err-display.ensures)

pub returns-in_err-path : goal.returns-in_err-path
unfolding access_at
returns-in_err-path c =
    let p = err_from_is_err_and c.from_residual-in_err-path.result c.from_residual-in_err-path.ensures.1 in
    rw (p.1, p.2, c.in_ok-allowed.ensures, c.in_ok-display.ensures) (fails-bind c.in_err-path.field-0.0 (text_at c.in_ok-display.rest.now) _ c.in_err-path.ensures)

pub returns : goal.returns
unfolding access_at
returns c = rw (c.in_ok-allowed.ensures, c.in_ok-display.ensures, c.in_ok-path.ensures) c.reserved_after.ensures
