-- Each field is read where the field before it ends.
use Rattle.std.proofs.lemmas.Result.{err_from_is_err_and}
use Rattle.keyring_text.specs.FieldReading.{string_at, text_at, time_at}
use Rattle.keyring_text.proofs.SeenLemmas.{fails-bind}
use Rattle.keyring_file.specs.FileReading.{item_at}
use Rattle.keyring_file.proofs.area_reading.item_at.Goals as goal

pub returns-in_err-label : goal.returns-in_err-label
unfolding item_at
returns-in_err-label c =
    let p = err_from_is_err_and c.from_residual.result c.from_residual.ensures.1 in
    rw (p.1, p.2) (fails-bind c.in_err-label.field-0.0 (text_at c.args.bytes.now) _ c.in_err-label.ensures)

pub returns-in_err-value : goal.returns-in_err-value
unfolding item_at
returns-in_err-value c =
    let p = err_from_is_err_and c.from_residual-in_err-value.result c.from_residual-in_err-value.ensures.1 in
    rw (p.1, p.2, c.in_ok-label.ensures) (fails-bind c.in_err-value.field-0.0 (string_at c.in_ok-label.rest.now) _ c.in_err-value.ensures)

pub returns-in_err-created : goal.returns-in_err-created
unfolding item_at
returns-in_err-created c =
    let p = err_from_is_err_and c.from_residual-in_err-created.result c.from_residual-in_err-created.ensures.1 in
    rw (p.1, p.2, c.in_ok-label.ensures, c.in_ok-value.ensures) (fails-bind c.in_err-created.field-0.0 (time_at c.in_ok-value.rest.now) _ c.in_err-created.ensures)

pub returns-in_err-modified : goal.returns-in_err-modified
unfolding item_at
returns-in_err-modified c =
    let p = err_from_is_err_and c.from_residual-in_err-modified.result c.from_residual-in_err-modified.ensures.1 in
    rw (p.1, p.2, c.in_ok-label.ensures, c.in_ok-value.ensures, c.in_ok-created.ensures) (fails-bind c.in_err-modified.field-0.0 (time_at c.in_ok-created.rest.now) _ c.in_err-modified.ensures)

pub returns : goal.returns
unfolding item_at
returns c = rw (c.in_ok-label.ensures, c.in_ok-value.ensures, c.in_ok-created.ensures, c.in_ok-modified.ensures) c.lists_after.ensures
