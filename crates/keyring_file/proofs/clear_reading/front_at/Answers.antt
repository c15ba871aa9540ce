-- Each field is read where the field before it ends.
use Rattle.std.proofs.lemmas.Result.{err_from_is_err_and}
use Rattle.keyring_text.specs.FieldReading.{text_at, time_at}
use Rattle.keyring_text.proofs.SeenLemmas.{fails-bind}
use Rattle.keyring_file.specs.FileReading.{front_at}
use Rattle.keyring_file.proofs.clear_reading.front_at.Goals as goal

pub returns-in_err-name : goal.returns-in_err-name
unfolding front_at
returns-in_err-name c =
    let p = err_from_is_err_and c.from_residual.result c.from_residual.ensures.1 in
    rw (p.1, p.2) (fails-bind c.in_err-name.field-0.0 (text_at c.args.bytes.now) _ c.in_err-name.ensures)

pub returns-in_err-created : goal.returns-in_err-created
unfolding front_at
returns-in_err-created c =
    let p = err_from_is_err_and c.from_residual-in_err-created.result c.from_residual-in_err-created.ensures.1 in
    rw (p.1, p.2, c.in_ok-name.ensures) (fails-bind c.in_err-created.field-0.0 (time_at c.in_ok-name.rest.now) _ c.in_err-created.ensures)

pub returns-in_err-modified : goal.returns-in_err-modified
unfolding front_at
returns-in_err-modified c =
    let p = err_from_is_err_and c.from_residual-in_err-modified.result c.from_residual-in_err-modified.ensures.1 in
    rw (p.1, p.2, c.in_ok-name.ensures, c.in_ok-created.ensures) (fails-bind c.in_err-modified.field-0.0 (time_at c.in_ok-created.rest.now) _ c.in_err-modified.ensures)

pub returns : goal.returns
unfolding front_at
returns c = rw (c.in_ok-name.ensures, c.in_ok-created.ensures, c.in_ok-modified.ensures) c.numbers_after.ensures
