-- The length is the same with every serial.
use Rattle.std.proofs.Common.{ℕ, min, ap, ◌∙◌}
use Rattle.secret_calls.specs.Outs.{spelled}
use Rattle.secret_calls.proofs.SizeLemmas.{any_serial}
use Rattle.secret_calls.proofs.size.counted.Goals as goal

pub returns : goal.returns
returns c = λ serial.
    c.size.ensures (spelled c.args.out.now 1) (c.in-Ok.ensures c.new-counter.ensures) ∙ ap (λ (n : ℕ). min 18446744073709551615 n) (any_serial c.args.out.now 1 serial)
