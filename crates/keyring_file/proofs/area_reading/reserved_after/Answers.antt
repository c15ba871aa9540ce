-- Each field is read where the field before it ends.
use Rattle.std.proofs.Common.{refl}
use Rattle.std.proofs.lemmas.Result.{err_from_is_err_and}
use Rattle.keyring_text.specs.FieldReading.{span_at, string_at}
use Rattle.keyring_text.proofs.SeenLemmas.{fails-bind}
use Rattle.keyring_file.specs.FileReading.{reserved_after}
use Rattle.keyring_file.proofs.area_reading.reserved_after.Goals as goal

pub returns-in_err-rest : goal.returns-in_err-rest
unfolding reserved_after
returns-in_err-rest c =
    let p = err_from_is_err_and c.from_residual.result c.from_residual.ensures.1 in
    rw (p.1, p.2) (fails-bind c.in_err-rest.field-0.0 (string_at c.args.bytes.now) _ c.in_err-rest.ensures)

pub returns-in_err-rest-2 : goal.returns-in_err-rest-2
unfolding reserved_after
returns-in_err-rest-2 c =
    let p = err_from_is_err_and c.from_residual-in_err-rest-2.result c.from_residual-in_err-rest-2.ensures.1 in
    rw (p.1, p.2, c.in_ok-rest.ensures) (fails-bind c.in_err-rest-2.field-0.0 (span_at 4 c.in_ok-rest.rest.now) _ c.in_err-rest-2.ensures.read)

pub returns : goal.returns
unfolding reserved_after
returns c = rw (c.in_ok-rest.ensures, c.in_ok-rest-2.ensures.read) refl
