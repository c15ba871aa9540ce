use Rattle.std.proofs.Common.{◌≡◌, length, min, sym, subst}
use Rattle.secret_calls.specs.declared.out.Out.{Out}
use Rattle.secret_calls.specs.Outs.{spelled}
use Rattle.secret_calls.proofs.size.size_of_out.Goals as goal

pub returns-in-Signal : goal.returns-in-Signal
returns-in-Signal c = λ serial.
    subst (λ (out : Out). c.size.result ≡ min 18446744073709551615 (length (spelled out serial))) (sym c.in-Signal.is) (c.size.ensures serial)
