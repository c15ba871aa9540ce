-- The length is the same with every serial.
use Rattle.std.proofs.Common.{◌≡◌, ℕ, length, min, ap, subst, ◌∙◌}
use Rattle.secret_calls.specs.declared.signal.Signal.{Signal}
use Rattle.secret_calls.specs.declared.out.Out.TheVariants as outs
use Rattle.secret_calls.specs.Outs.{spelled}
use Rattle.secret_calls.proofs.SizeLemmas.{any_serial}
use Rattle.secret_calls.proofs.shared.SizedSignal.size.Goals as goal

pub returns : goal.returns
returns c = λ serial.
    subst (λ (signal : Signal). c.self.inside.size ≡ min 18446744073709551615 (length (spelled (outs.Signal signal) serial))) c.self.view_is
    (c.self.invariant ∙ ap (λ (n : ℕ). min 18446744073709551615 n) (any_serial (outs.Signal c.self.inside.signal) 1 serial))
