-- A signature's text is read as its types.
use Rattle.std.proofs.Common.{Some, sym, ap, ◌∙◌}
use Rattle.std.specs.Result.{result_ok}
use Rattle.dbus_types.specs.declared.signature.Signature.{Signature}
use Rattle.dbus_types.specs.SignatureViews.{types_in}
use Rattle.dbus_types.specs.ValueViews.{value_of}
use Rattle.dbus_types.proofs.SignatureLaws.{signature_again}
use Rattle.dbus_framing.specs.Headers.{types_in_value}
use Rattle.dbus_framing.proofs.HeaderLemmas.{no_signature}
use Rattle.dbus_framing.proofs.opened.signature_in.Goals as goal

pub returns-in-Signature : goal.returns-in-Signature
returns-in-Signature c =
    let held = c.in-Signature.signature.value in
    ap (λ (s : Signature). Some (types_in s)) c.into_inner.ensures ∙ sym (ap result_ok (signature_again (types_in held) held.checked)) ∙ ap (λ v. types_in_value (value_of v)) (sym c.in-Signature.is)

pub returns : goal.returns
returns c = no_signature c.args.value c.in_default.not-Signature
