-- What was read of a short text is what its signature lists.
use Rattle.std.proofs.Common.{Ok}
use Rattle.std.proofs.lemmas.Result.{err_from_is_err_and}
use Rattle.dbus_types.proofs.SignatureLaws.{signature_found, signature_short}
use Rattle.dbus_types.proofs.signature_reading.read_signature.Goals as goal

pub returns-clause-exact : goal.returns-clause-exact
returns-clause-exact c = rw (signature_short _ c.if-text-gt-SIGNATURE_LIMIT.false, c.shrink_to_fit.ensures.items) c.in_ok-types.ensures

pub returns-in_err-types-clause-exact : goal.returns-in_err-types-clause-exact
returns-in_err-types-clause-exact c =
    let p = err_from_is_err_and c.from_residual.result c.from_residual.ensures.1 in rw (p.1, p.2, signature_short c.args.text.now c.if-text-gt-SIGNATURE_LIMIT.false) c.in_err-types.ensures

pub returns-clause-found : goal.returns-clause-found
returns-clause-found c =
    rw c.shrink_to_fit.ensures.items (signature_found (Ok c.in_ok-types.types) c.args.text.now (rw (signature_short _ c.if-text-gt-SIGNATURE_LIMIT.false) c.in_ok-types.ensures))
