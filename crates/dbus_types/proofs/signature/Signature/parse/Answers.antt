-- A text that types spell is read as these types, so it can't be refused with a fault.
use Rattle.std.proofs.Common.{sym, ◌∙◌, Result, subst}
use Rattle.std.proofs.lemmas.Result.{err_from_is_err_and}
use Rattle.dbus_types.specs.declared.signature.SignatureFault.{SignatureFault}
use Rattle.dbus_types.specs.Types.{Tys}
use Rattle.dbus_types.specs.Signatures.{Refuses}
use Rattle.dbus_types.proofs.SignatureLaws.{signature_of}
use Rattle.dbus_types.proofs.signature.Signature.parse.Goals as goal

pub returns-in_err-types-clause-only : goal.returns-in_err-types-clause-only
returns-in_err-types-clause-only c = λ ts within spelled.
    let p = err_from_is_err_and c.from_residual.result c.from_residual.ensures.1 in rw (p.1, p.2)
    (subst (λ (read : Result Tys SignatureFault). Refuses c.in_err-types.field-0.0 read) (signature_of _ ts within spelled) c.in_err-types.ensures.exact)

pub returns-clause-only : goal.returns-clause-only
returns-clause-only c = λ ts within spelled. sym (signature_of _ ts within spelled) ∙ c.in_ok-types.ensures.exact
