-- Each field is read where the field before it ends.
use Rattle.std.proofs.Common.{refl}
use Rattle.std.proofs.lemmas.Result.{err_from_is_err_and}
use Rattle.keyring_text.proofs.SeenLemmas.{fails-bind}
use Rattle.keyring_file.specs.FileReading.{clear_read, clear_at, encrypted_at}
use Rattle.keyring_file.proofs.clear_reading.parts_of.Goals as goal

pub returns-in_err-clear : goal.returns-in_err-clear
unfolding clear_read
returns-in_err-clear c =
    let p = err_from_is_err_and c.from_residual.result c.from_residual.ensures.1 in
    rw (p.1, p.2) (fails-bind c.in_err-clear.field-0.0 (clear_at c.args.file.now) _ c.in_err-clear.ensures)

pub returns-in_err-area : goal.returns-in_err-area
unfolding clear_read
returns-in_err-area c =
    let p = err_from_is_err_and c.from_residual-in_err-area.result c.from_residual-in_err-area.ensures.1 in
    rw (p.1, p.2, c.in_ok-clear.ensures) (fails-bind c.in_err-area.field-0.0 (encrypted_at c.in_ok-clear.rest.now) _ c.in_err-area.ensures)

pub returns : goal.returns
unfolding clear_read
returns c = rw (c.in_ok-clear.ensures, c.in_ok-area.ensures) refl
