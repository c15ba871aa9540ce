-- Each field is read where the field before it ends.
use Rattle.std.proofs.Common.{refl}
use Rattle.std.proofs.lemmas.Result.{err_from_is_err_and}
use Rattle.keyring_text.specs.FieldReading.{span_at}
use Rattle.keyring_text.proofs.SeenLemmas.{fails-bind}
use Rattle.keyring_file.specs.FileReading.{salt_at}
use Rattle.keyring_file.proofs.clear_reading.salt_at.Goals as goal

pub returns-in_err-salt-clause-read : goal.returns-in_err-salt-clause-read
unfolding salt_at
returns-in_err-salt-clause-read c =
    let p = err_from_is_err_and c.from_residual.result c.from_residual.ensures.1 in
    rw (p.1, p.2) (fails-bind c.in_err-salt.field-0.0 (span_at 8 c.args.bytes.now) _ c.in_err-salt.ensures.read)

pub returns-in_err-rest-clause-read : goal.returns-in_err-rest-clause-read
unfolding salt_at
returns-in_err-rest-clause-read c =
    let p = err_from_is_err_and c.from_residual-in_err-rest.result c.from_residual-in_err-rest.ensures.1 in
    rw (p.1, p.2, c.in_ok-salt.ensures.read) (fails-bind c.in_err-rest.field-0.0 (span_at 16 c.in_ok-salt.rest.now) _ c.in_err-rest.ensures.read)

pub returns-clause-read : goal.returns-clause-read
unfolding salt_at
returns-clause-read c = rw (c.in_ok-salt.ensures.read, c.in_ok-rest.ensures.read) refl
