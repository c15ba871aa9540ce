use Rattle.std.proofs.Common.{◌∙◌, sym, subst, arith}
use Rattle.std.specs.Prelude.{IsUtf8}
use Rattle.kr_base.proofs.DigitLemmas.{IsText-decimal}
use Rattle.kr_base.proofs.text.Text.of_number.Goals as goal

pub invariant_of-result : goal.invariant_of-result
invariant_of-result c =
    IsText-decimal c.args.number c.in-Ok.short.bytes (omega (arith, c.ranges.number)) (subst IsUtf8 (sym c.in-Ok.ensures.ok) c.format-digits.utf8) (c.in-Ok.ensures.ok ∙ c.format-digits.ensures.text)
