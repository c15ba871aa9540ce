use Rattle.std.proofs.Common.{sym, subst}
use Rattle.alias_text.specs.Pairs.{Gives, skipped, given}
use Rattle.alias_text.proofs.pairs.add.Goals as goal

pub returns-in_ok-push : goal.returns-in_ok-push
returns-in_ok-push c lines gives =
    subst (Gives _) (sym c.in_ok-push.ensures.items)
    (given lines _ c.args.line.now c.in-Some.pair.0 c.in-Some.pair.1 gives (rw c.in-Some.is at c.in_ok-pair.ensures))

-- the line gives no alias
pub returns-in_default : goal.returns-in_default
returns-in_default c lines gives =
    skipped lines _ c.args.line.now gives (λ name stem is. (rw c.in_default.is at c.in_ok-pair.ensures) (name, stem) is)
