-- Digits contain no zero byte.
use Rattle.std.proofs.Common.{Ok, ap, subst, ◌∙◌}
use Rattle.kr_base.specs.Text.{HasZero}
use Rattle.service_tables.proofs.ShownLemmas.{decimal-whole}
use Rattle.service_tables.proofs.reading.decimal.Goals as goal

pub unreachable-requires : goal.unreachable-requires
unreachable-requires c =
    decimal-whole c.args.number c.ranges.number.fits
    (subst HasZero c.format.ensures.text (c.from_str.ensures.zero.0 (c.in_ok-text.was ∙ ap Ok c.in-None.is)))
