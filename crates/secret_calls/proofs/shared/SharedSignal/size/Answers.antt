use Rattle.std.proofs.Common.{◌≡◌, length, min, subst, ◌∙◌}
use Rattle.secret_calls.specs.declared.signal.Signal.{Signal}
use Rattle.secret_calls.specs.declared.out.Out.TheVariants as outs
use Rattle.secret_calls.specs.Outs.{spelled}
use Rattle.secret_calls.proofs.shared.SharedSignal.size.Goals as goal

pub returns : goal.returns
returns c = λ serial.
    subst (λ (signal : Signal). c.size.result ≡ min 18446744073709551615 (length (spelled (outs.Signal signal) serial))) (c.deref.ensures ∙ c.self.view_is) (c.size.ensures serial)
