use Rattle.std.proofs.Common.{◌≡◌, None, ap, rules, arith}
use Rattle.keyring_file.specs.Clear.{ClearPart}
use Rattle.keyring_seal.proofs.room.row_sizes.Goals as goal

pub returns-in_err-left : goal.returns-in_err-left
returns-in_err-left c =
    let none : c.from_residual-in_err-left.result ≡ None = search rules in
    let clear = rw (ap (λ (p : ClearPart). p.minor) c.front.view_is) at c.in_ok-behind_clear.ensures in
    rw none (omega (arith, c.in_ok-behind_front.ensures, clear, c.in_err-left.ensures))

pub returns-in_err-end : goal.returns-in_err-end
returns-in_err-end c =
    let none : c.from_residual-in_err-end.result ≡ None = search rules in
    let clear = rw (ap (λ (p : ClearPart). p.minor) c.front.view_is) at c.in_ok-behind_clear.ensures in
    rw none (omega (arith, c.in_ok-behind_front.ensures, clear, c.in_ok-left.ensures, c.in_err-end.ensures))
